-- Blocks of an object, read one after the other.
use Rattle.std.proofs.Common.{◌≡◌, ◌⊎◌, ℕ, zero, suc, ◌+◌, ◌-◌, ◌*◌, ◌<◌, ◌≤◌, ◌/◌, false, ◌&&◌, nat_le, eqb, Bool, List, [], ◌∷◌, ◌++◌, length, Option, None, Some, Ok, Err, inl, inr, refl, sym, ap, ◌∙◌, arith}
use Rattle.std.proofs.lemmas.Bool.{cases_Bool}
use Rattle.std.proofs.lemmas.Bool.Decides.{nat_tests}
use Rattle.rule_store.specs.declared.entry_table.EntryTable.{EntryTable}
use Rattle.rule_store.specs.View.{RulesView}
use Rattle.track_types.specs.declared.cell.Cell.{Cell}
use Rattle.track_types.specs.declared.flaw.Flaw.{Flaw}
use Rattle.track_types.specs.declared.flaw.Kind.TheVariants.{Offset}
use Rattle.track_types.specs.declared.flaw.Section.TheVariants.{Gaps, Starts}
use Rattle.track_types.specs.declared.format_fault.FormatFault.{FormatFault}
use Rattle.track_types.specs.declared.format_fault.FormatFault.TheVariants as fault
use Rattle.track_types.specs.declared.frame.Frame.{Frame}
use Rattle.index_format.specs.Answers.{IsFormatFault}
use Rattle.index_format.specs.Elements.{Element, told_at}
use Rattle.index_format.specs.Fields.{◌>>=◌, flaw_at}
use Rattle.index_format.specs.OutlineBlocks.{InLog, Told, anchor_in, block_in, blocks_in, further_in, log_in, object_blocks_in, period_end}
use Rattle.rule_store.specs.Table.{IsWholeTable}
use Rattle.index_format.specs.BlockSteps.{IsKept, next_anchor_in, nothing_told}
use Rattle.index_format.proofs.ElementLemmas.{bind-fault, bind-ok, fault-of}

-- what is told after a block
abbrev pub told_after : Frame → ℕ → Told → ℕ → Cell → InLog → Told
told_after frame index told at cell log = record {
  blocks = told.blocks ++ record {
    period = at / frame.period;
    index = index;
    offset = at - at / frame.period * frame.period;
    cell = cell;
    length = length log.symbols - length told.symbols;
  } ∷ [];
  symbols = log.symbols;
  next = period_end frame at;
  last = Some log.cell;
}

-- a log that begins
abbrev pub log_begun : Frame → Told → ℕ → Cell → InLog
log_begun frame told at cell = record { symbols = told.symbols; rest = period_end frame at - 1 - at; cell = cell }

module _ (frame : Frame) (view : RulesView) (index : ℕ) (told : Told) (at : ℕ) (bits : List Bool) where
  -- a block whose anchor cannot be read
  pub block_in-no_anchor : (why : FormatFault) → IsFormatFault (anchor_in frame (at / frame.period) index told.last bits) why
      → IsFormatFault (block_in frame view index told at bits) why
  unfolding block_in
  block_in-no_anchor fault.Memory read = tt
  block_in-no_anchor (fault.Flaw flaw) read = rw read refl

  module _ (cell : Cell) (after : List Bool) (anchor : anchor_in frame (at / frame.period) index told.last bits ≡ Ok (cell, after)) where
    -- or whose log cannot
    pub block_in-no_log : (why : FormatFault)
        → IsFormatFault (log_in (period_end frame at - 1 - at) frame view (at / frame.period) (log_begun frame told at cell) after) why
        → IsFormatFault (block_in frame view index told at bits) why
    unfolding block_in
    block_in-no_log fault.Memory read = tt
    block_in-no_log (fault.Flaw flaw) read = rw (anchor, read) refl

    -- a block
    pub block_in-ok : (log : InLog) (rest : List Bool)
        → log_in (period_end frame at - 1 - at) frame view (at / frame.period) (log_begun frame told at cell) after ≡ Ok (log, rest)
        → block_in frame view index told at bits ≡ Ok (told_after frame index told at cell log, rest)
    unfolding block_in
    block_in-ok log rest read = rw (anchor, read) refl

-- what is read, or why nothing is
cases_read : {A : Type 0} (read : Element A) → ((x : A × List Bool) × (read ≡ Ok x)) ⊎ ((flaw : Flaw) × (read ≡ Err flaw))
cases_read (Ok x) = inl (x, refl)
cases_read (Err flaw) = inr (flaw, refl)

-- what follows when it is known where the next anchor is
abbrev pub further_from : ℕ → Frame → RulesView → ℕ → Told → Option ℕ × List Bool → Element Told
further_from more frame view index told (None, rest) = Ok (told, rest)
further_from more frame view index told (Some at, rest) =
    block_in frame view index told at rest >>= (λ block. further_in more frame view index block.0 block.1)

module _ (frame : Frame) (view : RulesView) (index : ℕ) (told : Told) (bits : List Bool) where
  -- all of the span is told
  pub further_in-told : (most : ℕ) → frame.span ≤ told.next → further_in most frame view index told bits ≡ Ok (told, bits)
  unfolding further_in
  further_in-told zero over = refl
  further_in-told (suc more) over = grind (arith, nat_tests, over)

  -- no blocks more
  pub further_in-none : further_in 0 frame view index told bits ≡ Ok (told, bits)
  unfolding further_in
  further_in-none = refl

  -- a further block, or none
  pub further_in-step : (more : ℕ) → told.next < frame.span → further_in (suc more) frame view index told bits
      ≡ next_anchor_in frame index told.next bits >>= further_from more frame view index told
  unfolding further_in next_anchor_in
  further_in-step more under =
      let test : nat_le frame.span told.next ≡ false = grind (arith, nat_tests, under) in
      rw test (elim (cases_read (told_at (flaw_at Gaps (told.next / frame.period) index) bits)) [
        | inr flawed ↦ rw flawed.1 refl
        | inl read ↦ elim (cases_Bool (eqb read.0.0 1)) [
          | inl one ↦ rw (read.1, one) refl
          | inr more ↦ elim (cases_Bool (nat_le 2 read.0.0 && nat_le frame.span (told.next + read.0.0 - 1))) [
            | inl late ↦ rw (read.1, more, late) refl
            | inr there ↦ rw (read.1, more, there) refl
          ]
        ]
      ])

-- an object of which nothing is told yet, behind what is told
abbrev pub object_begun : Told → Told
object_begun before = record { blocks = before.blocks; symbols = before.symbols; next = 0; last = None }

module _ (frame : Frame) (view : RulesView) (index : ℕ) (before : Told) (bits : List Bool) where
  -- an object's first anchor that is not told
  pub object_blocks_in-untold : (why : FormatFault) → IsFormatFault (told_at (flaw_at Starts 0 index) bits) why
      → IsFormatFault (object_blocks_in frame view index before bits) why
  unfolding object_blocks_in
  object_blocks_in-untold fault.Memory read = tt
  object_blocks_in-untold (fault.Flaw flaw) read = rw read refl

  module _ (start : ℕ) (rest : List Bool) (told : told_at (flaw_at Starts 0 index) bits ≡ Ok (start, rest)) where
    -- it is above the span
    pub object_blocks_in-late : frame.span < start → object_blocks_in frame view index before bits ≡ Err (flaw_at Starts 0 index Offset)
    unfolding object_blocks_in
    object_blocks_in-late late = rw told (grind (arith, nat_tests, late))

    -- there is no block
    pub object_blocks_in-none : start ≡ frame.span → object_blocks_in frame view index before bits ≡ Ok (object_begun before, rest)
    unfolding object_blocks_in
    object_blocks_in-none none = rw told (grind (arith, nat_tests, none))

    -- a first block, and further ones
    pub object_blocks_in-some : start < frame.span → object_blocks_in frame view index before bits
        ≡ block_in frame view index (object_begun before) start rest >>= (λ block. further_in frame.span frame view index block.0 block.1)
    unfolding object_blocks_in
    object_blocks_in-some some = rw told (grind (arith, nat_tests, some))

    module _ (some : start < frame.span) where
      -- the first block could not be read
      pub object_blocks_in-no_block : (why : FormatFault) → IsFormatFault (block_in frame view index (object_begun before) start rest) why
          → IsFormatFault (object_blocks_in frame view index before bits) why
      object_blocks_in-no_block why read =
          bind-fault (block_in frame view index (object_begun before) start rest)
          (λ block. further_in frame.span frame view index block.0 block.1)
          (object_blocks_in-some some) why read

      module _ (first : Told) (after : List Bool) (block : block_in frame view index (object_begun before) start rest ≡ Ok (first, after)) where
        -- it and the further ones
        pub object_blocks_in-then : object_blocks_in frame view index before bits ≡ further_in frame.span frame view index first after
        object_blocks_in-then =
            object_blocks_in-some some ∙ bind-ok (block_in frame view index (object_begun before) start rest)
            (λ block. further_in frame.span frame view index block.0 block.1) (first, after) block

        pub object_blocks_in-no_further : (why : FormatFault) → IsFormatFault (further_in frame.span frame view index first after) why
            → IsFormatFault (object_blocks_in frame view index before bits) why
        object_blocks_in-no_further why read = fault-of object_blocks_in-then why read

        pub object_blocks_in-ok : (all : Told × List Bool) → further_in frame.span frame view index first after ≡ Ok all
            → object_blocks_in frame view index before bits ≡ Ok all
        object_blocks_in-ok all read = object_blocks_in-then ∙ read

-- one object more
pub blocks_in-more : (more : ℕ) (frame : Frame) (view : RulesView) (index : ℕ) (told : Told) (bits : List Bool)
    → blocks_in (suc more) frame view index told bits
    ≡ object_blocks_in frame view index told bits >>= (λ object. blocks_in more frame view (suc index) object.0 object.1)
unfolding blocks_in
blocks_in-more more frame view index told bits = refl

-- no objects more
pub blocks_in-none : (frame : Frame) (view : RulesView) (index : ℕ) (told : Told) (bits : List Bool)
    → blocks_in 0 frame view index told bits ≡ Ok (told, bits)
unfolding blocks_in
blocks_in-none frame view index told bits = refl

-- blocks of an object were read, and what is left to read gives what the whole does
pub record AreBlocksRead (table : EntryTable) (frame : Frame) (index count i : ℕ) (told : Told) (bits : List Bool) (first : Told) (whole : List Bool) : Type 0 where
  pub kept : IsKept frame.height told.last
  pub read : (view : RulesView) → IsWholeTable view table → further_in (count - i) frame view index told bits
      ≡ further_in count frame view index first whole

module _ {table : EntryTable} {frame : Frame} {index count i : ℕ} {told : Told} {bits : List Bool} {first : Told} {whole : List Bool}
    (so_far : AreBlocksRead table frame index count i told bits first whole) where
  -- all of the span is told
  pub blocks-told : frame.span ≤ told.next → (view : RulesView) → IsWholeTable view table
      → further_in count frame view index first whole ≡ Ok (told, bits)
  blocks-told over view known = sym (so_far.read view known) ∙ further_in-told frame view index told bits (count - i) over

  -- no more blocks are read
  pub blocks-done : count ≤ i → (view : RulesView) → IsWholeTable view table
      → further_in count frame view index first whole ≡ Ok (told, bits)
  blocks-done over view known =
      let none : count - i ≡ 0 = omega (arith, over) in
      sym (so_far.read view known) ∙ ap (λ n. further_in n frame view index told bits) none ∙ further_in-none frame view index told bits

  module _ (counted : i < count) (under : told.next < frame.span) where
    step : (view : RulesView) → IsWholeTable view table → further_in count frame view index first whole
        ≡ next_anchor_in frame index told.next bits >>= further_from (count - (i + 1)) frame view index told
    step view known =
        let next : count - i ≡ suc (count - (i + 1)) = omega (arith, counted) in
        sym (so_far.read view known) ∙ ap (λ n. further_in n frame view index told bits) next
        ∙ further_in-step frame view index told bits (count - (i + 1)) under

    -- where the next anchor is could not be read
    pub blocks-no_anchor : (view : RulesView) → IsWholeTable view table → (why : FormatFault)
        → IsFormatFault (next_anchor_in frame index told.next bits) why
        → IsFormatFault (further_in count frame view index first whole) why
    blocks-no_anchor view known why read =
        bind-fault (next_anchor_in frame index told.next bits) (further_from (count - (i + 1)) frame view index told)
        (step view known) why read

    -- there is none
    pub blocks-last : (rest : List Bool) → next_anchor_in frame index told.next bits ≡ Ok (None, rest)
        → (view : RulesView) → IsWholeTable view table → further_in count frame view index first whole ≡ Ok (told, rest)
    blocks-last rest none view known =
        step view known ∙ bind-ok (next_anchor_in frame index told.next bits) (further_from (count - (i + 1)) frame view index told) (None, rest) none

    module _ (at : ℕ) (after : List Bool) (there : next_anchor_in frame index told.next bits ≡ Ok (Some at, after)) where
      then_block : (view : RulesView) → IsWholeTable view table → further_in count frame view index first whole
          ≡ block_in frame view index told at after >>= (λ block. further_in (count - (i + 1)) frame view index block.0 block.1)
      then_block view known =
          step view known ∙ bind-ok (next_anchor_in frame index told.next bits) (further_from (count - (i + 1)) frame view index told) (Some at, after) there

      -- one block could not be read
      pub blocks-fault : (view : RulesView) → IsWholeTable view table → (why : FormatFault)
          → IsFormatFault (block_in frame view index told at after) why
          → IsFormatFault (further_in count frame view index first whole) why
      blocks-fault view known why read =
          bind-fault (block_in frame view index told at after) (λ block. further_in (count - (i + 1)) frame view index block.0 block.1)
          (then_block view known) why read

      -- one block more was read
      pub blocks-more : (next : Told) (rest : List Bool) → IsKept frame.height next.last
          → ((view : RulesView) → IsWholeTable view table → block_in frame view index told at after ≡ Ok (next, rest))
          → AreBlocksRead table frame index count (i + 1) next rest first whole
      blocks-more next rest kept read = record {
        kept = kept;
        read = λ view known. sym (then_block view known ∙ bind-ok (block_in frame view index told at after)
            (λ block. further_in (count - (i + 1)) frame view index block.0 block.1) (next, rest) (read view known));
      }

-- objects were read, and what is left to read gives what the whole does
pub record AreObjectsRead (table : EntryTable) (frame : Frame) (count i : ℕ) (told : Told) (bits : List Bool) (whole : List Bool) : Type 0 where
  pub read : (view : RulesView) → IsWholeTable view table → blocks_in (count - i) frame view i told bits
      ≡ blocks_in count frame view 0 nothing_told whole

module _ {table : EntryTable} {frame : Frame} {count i : ℕ} {told : Told} {bits whole : List Bool}
    (so_far : AreObjectsRead table frame count i told bits whole) where
  -- all objects were read
  pub objects-done : count ≤ i → (view : RulesView) → IsWholeTable view table
      → blocks_in count frame view 0 nothing_told whole ≡ Ok (told, bits)
  objects-done over view known =
      let none : count - i ≡ 0 = omega (arith, over) in
      sym (so_far.read view known) ∙ ap (λ n. blocks_in n frame view i told bits) none ∙ blocks_in-none frame view i told bits

  module _ (counted : i < count) where
    object_step : (view : RulesView) → IsWholeTable view table → blocks_in count frame view 0 nothing_told whole
        ≡ object_blocks_in frame view i told bits >>= (λ object. blocks_in (count - (i + 1)) frame view (suc i) object.0 object.1)
    object_step view known =
        let next : count - i ≡ suc (count - (i + 1)) = omega (arith, counted) in
        sym (so_far.read view known) ∙ ap (λ n. blocks_in n frame view i told bits) next
        ∙ blocks_in-more (count - (i + 1)) frame view i told bits

    -- one object could not be read
    pub objects-fault : (view : RulesView) → IsWholeTable view table → (why : FormatFault)
        → IsFormatFault (object_blocks_in frame view i told bits) why
        → IsFormatFault (blocks_in count frame view 0 nothing_told whole) why
    objects-fault view known why read =
        bind-fault (object_blocks_in frame view i told bits) (λ object. blocks_in (count - (i + 1)) frame view (suc i) object.0 object.1)
        (object_step view known) why read

    -- one object more was read
    pub objects-more : (next : Told) (rest : List Bool)
        → ((view : RulesView) → IsWholeTable view table → object_blocks_in frame view i told bits ≡ Ok (next, rest))
        → AreObjectsRead table frame count (i + 1) next rest whole
    objects-more next rest read = record {
      read = λ view known.
          let up : i + 1 ≡ suc i = omega arith in
          ap (λ n. blocks_in (count - (i + 1)) frame view n next rest) up
          ∙ sym (object_step view known ∙ bind-ok (object_blocks_in frame view i told bits)
          (λ object. blocks_in (count - (i + 1)) frame view (suc i) object.0 object.1) (next, rest) (read view known));
    }
