-- Blocks, read step by step.
use Rattle.std.proofs.Common.{◌≡◌, ℕ, ◌+◌, ◌-◌, ◌<◌, ◌≤◌, ◌/◌, pos, true, false, Bool, List, None, Some, Ok, Err, refl, arith}
use Rattle.std.proofs.lemmas.Bool.Decides.{nat_tests}
use Rattle.rule_store.specs.Cells.{cell_with, moved}
use Rattle.spiral_code.specs.Spiral.{move_of}
use Rattle.track_types.specs.declared.cell.Cell.{Cell}
use Rattle.track_types.specs.declared.flaw.Kind.TheVariants.{Offset, OffGrid}
use Rattle.track_types.specs.declared.flaw.Section.TheVariants.{Gaps, Anchors}
use Rattle.track_types.specs.declared.format_fault.FormatFault.{FormatFault}
use Rattle.track_types.specs.declared.format_fault.FormatFault.TheVariants as fault
use Rattle.track_types.specs.declared.frame.Frame.{Frame}
use Rattle.index_format.specs.Answers.{IsFormatFault}
use Rattle.index_format.specs.Elements.{told_at, wide_at}
use Rattle.index_format.specs.Fields.{flaw_at}
use Rattle.index_format.specs.OutlineBlocks.{anchor_in, is_in_grid}
use Rattle.index_format.specs.BlockSteps.{next_anchor_in}

module _ (frame : Frame) (period index : ℕ) (bits : List Bool) where
  -- a first anchor whose column is not told
  pub anchor_in-no_x : (why : FormatFault) → IsFormatFault (wide_at (flaw_at Anchors period index) frame.height bits) why
      → IsFormatFault (anchor_in frame period index None bits) why
  unfolding anchor_in
  anchor_in-no_x fault.Memory read = tt
  anchor_in-no_x (fault.Flaw flaw) read = rw read refl

  module _ (x : ℕ) (more : List Bool) (x_is : wide_at (flaw_at Anchors period index) frame.height bits ≡ Ok (x, more)) where
    -- or whose line is not
    pub anchor_in-no_y : (why : FormatFault) → IsFormatFault (wide_at (flaw_at Anchors period index) frame.height more) why
        → IsFormatFault (anchor_in frame period index None bits) why
    unfolding anchor_in
    anchor_in-no_y fault.Memory read = tt
    anchor_in-no_y (fault.Flaw flaw) read = rw (x_is, read) refl

    -- a first anchor
    pub anchor_in-first : (y : ℕ) (rest : List Bool) → wide_at (flaw_at Anchors period index) frame.height more ≡ Ok (y, rest)
        → anchor_in frame period index None bits ≡ Ok (cell_with (pos x) (pos y), rest)
    unfolding anchor_in
    anchor_in-first y rest read = rw (x_is, read) refl

  module _ (last : Cell) where
    -- a further anchor whose movement is not told
    pub anchor_in-untold : (why : FormatFault) → IsFormatFault (told_at (flaw_at Anchors period index) bits) why
        → IsFormatFault (anchor_in frame period index (Some last) bits) why
    unfolding anchor_in
    anchor_in-untold fault.Memory read = tt
    anchor_in-untold (fault.Flaw flaw) read = rw read refl

    module _ (code : ℕ) (rest : List Bool) (told : told_at (flaw_at Anchors period index) bits ≡ Ok (code, rest)) where
      -- one outside the grid
      pub anchor_in-out : is_in_grid frame.height (moved last (move_of code)) ≡ false
          → anchor_in frame period index (Some last) bits ≡ Err (flaw_at Anchors period index OffGrid)
      unfolding anchor_in
      anchor_in-out out = rw (told, out) refl

      -- a further anchor
      pub anchor_in-further : is_in_grid frame.height (moved last (move_of code)) ≡ true
          → anchor_in frame period index (Some last) bits ≡ Ok (moved last (move_of code), rest)
      unfolding anchor_in
      anchor_in-further inside = rw (told, inside) refl

module _ (frame : Frame) (index next : ℕ) (bits : List Bool) where
  -- a gap that cannot be read
  pub next_anchor_in-untold : (why : FormatFault) → IsFormatFault (told_at (flaw_at Gaps (next / frame.period) index) bits) why
      → IsFormatFault (next_anchor_in frame index next bits) why
  unfolding next_anchor_in
  next_anchor_in-untold fault.Memory read = tt
  next_anchor_in-untold (fault.Flaw flaw) read = rw read refl

  module _ (gap : ℕ) (rest : List Bool) (told : told_at (flaw_at Gaps (next / frame.period) index) bits ≡ Ok (gap, rest)) where
    -- there is no further block
    pub next_anchor_in-none : gap ≡ 1 → next_anchor_in frame index next bits ≡ Ok (None, rest)
    unfolding next_anchor_in
    next_anchor_in-none one = rw (told, one) refl

    -- it is not within the span
    pub next_anchor_in-late : 2 ≤ gap → frame.span ≤ next + gap - 1
        → next_anchor_in frame index next bits ≡ Err (flaw_at Gaps (next / frame.period) index Offset)
    unfolding next_anchor_in
    next_anchor_in-late some late = rw told (grind (arith, nat_tests, some, late))

    -- a further block
    pub next_anchor_in-some : (at : ℕ) → next < frame.span → (gap ≡ 1 → ⊥) → at ≡ next + (gap - 1) → at < frame.span
        → next_anchor_in frame index next bits ≡ Ok (Some at, rest)
    unfolding next_anchor_in
    next_anchor_in-some at inside more at_is within = rw (told, at_is) (grind (arith, nat_tests, inside, more, at_is, within))
