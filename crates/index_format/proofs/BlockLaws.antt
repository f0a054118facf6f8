-- Blocks: what was put is read.
use Rattle.std.proofs.Common.{◌≡◌, ℕ, zero, suc, ◌+◌, ◌-◌, ◌*◌, ◌/◌, ◌<◌, ◌≤◌, ◌^◌, ℤ, pos, ◌+ℤ◌, ◌-ℤ◌, ◌≤ℤ◌, w64, eqb, true, false, Bool, List, [], ◌∷◌, ◌++◌, length, take, drop, min, Option, None, Some, Ok, inl, inr, refl, sym, ap, subst, ◌∙◌, arith, append_assoc, append-nil, lit<, lit≤}
use Rattle.std.specs.Prelude.{⊤, All, if◌then◌else◌, nat_lt, unsigned_abs}
use Rattle.std.specs.Int.{cast_unsigned}
use Rattle.std.specs.List.{flat_map, range_with_len, sum_by}
use Rattle.std.proofs.Math.Nat.{div-eq_of_lt-le, mul-le-mul_right, pow-le-pow_right}
use Rattle.std.proofs.lemmas.Bool.{and_parts, cases_lt}
use Rattle.std.proofs.lemmas.List.Elements.{All-head, All-tail, All-weaker}
use Rattle.std.proofs.lemmas.List.Sums.{sum_by-append, sum_by-cons}
use Rattle.list_laws.proofs.FrontLemmas.{All-back}
use Rattle.std.proofs.lemmas.Bool.Decides.{nat_tests}
use Rattle.std.proofs.lemmas.Int.{ints}
use Rattle.std.proofs.lemmas.List.{length-append, length-take-le, nil_from_length, take-append-drop}
use Rattle.packed_bits.specs.Words.{low_bits}
use Rattle.bit_stream.specs.Numbers.{number_bits}
use Rattle.spiral_code.specs.Spiral.{code_of, move_of, ring_of, square}
use Rattle.spiral_code.proofs.SpiralLemmas.{code_of-below, move_of-code_of}
use Rattle.rule_store.specs.Cells.{moved}
use Rattle.rule_store.specs.Entry.{duration_of}
use Rattle.rule_store.specs.View.{RulesView}
use Rattle.rule_store.proofs.CellLemmas.{same_cell}
use Rattle.rule_store.proofs.FlawLemmas.{reach_limit-high}
use Rattle.track_types.specs.Limits.{limit_of}
use Rattle.track_types.specs.declared.cell.Cell.{Cell}
use Rattle.track_types.specs.declared.flaw.Section.TheVariants.{Anchors, Gaps, Starts}
use Rattle.track_types.specs.declared.frame.Frame.{Frame}
use Rattle.track_types.specs.declared.limit.LimitKind.TheVariants.{Symbols}
use Rattle.track_types.specs.declared.limit.TheConstants.{MAX_HEIGHT, MAX_SPAN}
use Rattle.index_format.specs.Elements.{Element}
use Rattle.index_format.specs.Fields.{flaw_at}
use Rattle.index_format.specs.OutlineBlocks.{Told, anchor_bits, anchor_in, anchor_instant, block_in, blocks_in, blocks_bits, cell_after, end_bits, entry_width, further_in, is_in_grid, object_bits, object_blocks_in, period_end, when_bits}
use Rattle.index_format.specs.IsOutline.{IsBlock, all_follow, blocks_with_logs, comes_after}
use Rattle.index_format.specs.BlockSteps.{IsKept, IsLogFrom, IsPlaced, log_with, next_anchor_in, nothing_told}
use Rattle.index_format.specs.declared.outline.OutlineBlock.{OutlineBlock}
use Rattle.index_format.proofs.BlockLemmas.{block_in-ok, blocks_in-more, blocks_in-none, further_from, further_in-step, further_in-told, object_blocks_in-none, object_begun, object_blocks_in-ok}
use Rattle.rule_store.specs.Log.{log_values}
use Rattle.index_format.proofs.AlongLemmas.{end-inside}
use Rattle.index_format.proofs.BlockPuttingLemmas.{object_bits-nil}
use Rattle.index_format.proofs.BlockOrderLemmas.{all_length, blocks_bits-step, follow-back, follow-front, follow-tail, logs-back, logs-blocks, logs-front, logs-taken, object_bits-taken, parted}
use Rattle.index_format.proofs.ElementLemmas.{bind-ok, told_at-number_bits, wide_at-low_bits}
use Rattle.index_format.proofs.EntryLaws.{AreLasting, log-again}
use Rattle.index_format.proofs.GridLemmas.{from_coordinate, in_grid-bounds, ring_of-within}
use Rattle.index_format.proofs.AnchorLemmas.{anchor_in-first, anchor_in-further, next_anchor_in-none, next_anchor_in-some}

-- a coordinate of a grid, as a number
coordinate : (height : ℕ) (z : ℤ) → height ≤ MAX_HEIGHT → pos 0 ≤ℤ z → z ≤ℤ pos (2 ^ height - 1)
    → (n : ℕ) × (z ≡ pos n) × (n < 2 ^ height) × (cast_unsigned w64 z ≡ n)
coordinate height z fits low high =
    let n = unsigned_abs z in
    let is : z ≡ pos n = omega (arith, ints, low) in
    let some : 1 ≤ 2 ^ height = pow-le-pow_right {n = 2} (lit< tt) {i = 0} {j = height} (omega arith) in
    let below : n < 2 ^ height = omega (arith, ints, low, high, some) in
    (n, is, below, ap (cast_unsigned w64) is ∙ from_coordinate height n fits below)

-- an anchor that was put is read
pub anchor-again : (frame : Frame) (period index : ℕ) (last : Option Cell) (cell : Cell) (rest : List Bool) → frame.height ≤ MAX_HEIGHT
    → IsKept frame.height last → is_in_grid frame.height cell ≡ true
    → anchor_in frame period index last (anchor_bits frame.height last cell ++ rest) ≡ Ok (cell, rest)
unfolding anchor_bits
anchor-again frame period index None cell rest fits kept inside =
    let is = in_grid-bounds frame.height cell inside in
    let x = coordinate frame.height cell.x fits is.left is.right in
    let y = coordinate frame.height cell.y fits is.below is.above in
    let first = low_bits frame.height (cast_unsigned w64 cell.x) in
    let second = low_bits frame.height (cast_unsigned w64 cell.y) in
    let x_small : cast_unsigned w64 cell.x < 2 ^ frame.height = subst (λ n. n < 2 ^ frame.height) (sym x.3) x.2 in
    let y_small : cast_unsigned w64 cell.y < 2 ^ frame.height = subst (λ n. n < 2 ^ frame.height) (sym y.3) y.2 in
    ap (anchor_in frame period index None) (append_assoc first second rest)
    ∙ anchor_in-first frame period index (first ++ (second ++ rest)) (cast_unsigned w64 cell.x) (second ++ rest)
    (wide_at-low_bits (flaw_at Anchors period index) frame.height (cast_unsigned w64 cell.x) (second ++ rest) x_small)
    (cast_unsigned w64 cell.y) rest (wide_at-low_bits (flaw_at Anchors period index) frame.height (cast_unsigned w64 cell.y) rest y_small)
    ∙ ap (λ cell. Ok (cell, rest)) (same_cell (pos (cast_unsigned w64 cell.x)) (pos (cast_unsigned w64 cell.y)) cell.x cell.y
    (ap pos x.3 ∙ sym x.1) (ap pos y.3 ∙ sym y.1))
anchor-again frame period index (Some last) cell rest fits kept inside =
    let dx = cell.x -ℤ last.x in
    let dy = cell.y -ℤ last.y in
    let code = code_of dx dy in
    let there : moved last (dx, dy) ≡ cell = same_cell (last.x +ℤ dx) (last.y +ℤ dy) cell.x cell.y (omega (arith, ints)) (omega (arith, ints)) in
    let back : moved last (move_of code) ≡ cell = ap (moved last) (move_of-code_of dx dy) ∙ there in
    let short = ring_of-within frame.height last (dx, dy) (in_grid-bounds frame.height last kept)
    (in_grid-bounds frame.height (moved last (dx, dy)) (subst (λ cell. is_in_grid frame.height cell ≡ true) (sym there) inside)) in
    let high = reach_limit-high frame.height fits in
    let near : ring_of dx dy ≤ 2 ^ 24 - 1 = omega (arith, short, high) in
    let small : code < square (2 ^ 25 - 1) = (code_of-below dx dy (2 ^ 24 - 1)).1 near in
    anchor_in-further frame period index (number_bits code ++ rest) last code rest
    (told_at-number_bits (flaw_at Anchors period index) code rest (omega (arith, small)))
    (subst (λ cell. is_in_grid frame.height cell ≡ true) (sym back) inside)
    ∙ ap (λ cell. Ok (cell, rest)) back

-- when a block is: its period, where that ends, and what is left of it behind the anchor
pub record IsTimed (frame : Frame) (block : OutlineBlock) (left : ℕ) : Type 0 where
  pub period : anchor_instant frame block / frame.period ≡ block.period
  pub offset : anchor_instant frame block - anchor_instant frame block / frame.period * frame.period ≡ block.offset
  pub ends : period_end frame (anchor_instant frame block) ≡ min frame.span (block.period * frame.period + frame.period)
  pub fills : period_end frame (anchor_instant frame block) - 1 - anchor_instant frame block ≡ left
  pub before : anchor_instant frame block < period_end frame (anchor_instant frame block)
  pub within : anchor_instant frame block < frame.span

pub timed : (frame : Frame) (view : RulesView) (objects : ℕ) (it : OutlineBlock × List ℕ) → 0 < frame.period → IsBlock frame view objects it
    → IsTimed frame it.0 (sum_by (duration_of view) it.1)
timed frame view objects it some is =
    let p = it.0.period in
    let start = p * frame.period in
    let at = start + it.0.offset in
    let sum = sum_by (duration_of view) it.1 in
    let next : (p + 1) * frame.period ≡ start + frame.period = grind arith in
    let number : at / frame.period ≡ p = div-eq_of_lt-le {k = p} frame.period {m = at} (omega (arith)) (omega (arith, next, is.offset)) in
    let ends : period_end frame at ≡ min frame.span (start + frame.period) = ap (λ k. min frame.span ((k + 1) * frame.period)) number ∙ ap (min frame.span) next in
    record {
      period = number;
      offset = ap (λ k. at - k * frame.period) number ∙ (omega arith);
      ends = ends;
      fills = omega (arith, ends, is.offset, is.fills);
      before = omega (arith, ends, is.offset);
      within = omega (arith, is.offset);
    }

-- the log of a block begins at its anchor
pub block-log : (frame : Frame) (view : RulesView) (objects : ℕ) (it : OutlineBlock × List ℕ) → IsBlock frame view objects it
    → IsLogFrom frame.height view it.0.cell it.1
block-log frame view objects it is = record { begins = is.anchor; known = is.known; inside = is.inside }

-- the blocks of an outline have their logs, which begin at their anchors
pub placed : (frame : Frame) (view : RulesView) (objects : ℕ) (its : List (OutlineBlock × List ℕ)) → All (IsBlock frame view objects) its
    → All (IsPlaced frame.height view) its
placed frame view objects its each = All-weaker (IsBlock frame view objects) (IsPlaced frame.height view)
    (λ it is. record { whole = is.whole; log = block-log frame view objects it is }) its each

-- what is told after a block that was put
abbrev pub told_with : Frame → RulesView → Told → OutlineBlock → List ℕ → Told
told_with frame view told block own = record {
  blocks = told.blocks ++ block ∷ [];
  symbols = told.symbols ++ own;
  next = period_end frame (anchor_instant frame block);
  last = Some (cell_after view block.cell own);
}

module _ (frame : Frame) (some : 0 < frame.period) (high : frame.height ≤ MAX_HEIGHT) (short : frame.span ≤ MAX_SPAN)
    (view : RulesView) (lasting : AreLasting view) (objects : ℕ) where
  -- a block that was put is read
  pub block-again : (told : Told) (block : OutlineBlock) (own : List ℕ) (rest : List Bool) → IsBlock frame view objects (block, own)
      → IsKept frame.height told.last → length told.symbols + length own ≤ limit_of Symbols
      → block_in frame view block.index told (anchor_instant frame block)
      (anchor_bits frame.height told.last block.cell ++ (flat_map (low_bits (entry_width view)) own ++ rest))
      ≡ Ok (told_with frame view told block own, rest)
  block-again told block own rest is kept room =
      let at = anchor_instant frame block in
      let time = timed frame view objects (block, own) some is in
      let entries = flat_map (low_bits (entry_width view)) own ++ rest in
      let anchor = anchor-again frame (at / frame.period) block.index told.last block.cell entries high kept is.anchor in
      let left = period_end frame at - 1 - at in
      let log = log-again frame view lasting (at / frame.period) own block.cell told.symbols left left rest
      (block-log frame view objects (block, own) is) (sym time.fills) (omega arith) room in
      let long : length (told.symbols ++ own) - length told.symbols ≡ block.length = omega (arith, length-append told.symbols own, is.whole) in
      block_in-ok frame view block.index told at (anchor_bits frame.height told.last block.cell ++ entries) block.cell entries anchor
      (log_with (told.symbols ++ own) (record { rest = 0; cell = cell_after view block.cell own })) rest log
      ∙ ap (λ (new : OutlineBlock). Ok (
        record {
          blocks = told.blocks ++ new ∷ [];
          symbols = told.symbols ++ own;
          next = period_end frame at;
          last = Some (cell_after view block.cell own);
        },
        rest,
      )) (rw (time.offset, time.period, long) refl)

-- the next block's period begins no earlier
abbrev pub FitsAfter : Frame → ℕ → List OutlineBlock → Type 0
FitsAfter frame next [] = ⊤
FitsAfter frame next (block ∷ blocks) = next ≤ block.period * frame.period

-- blocks of one object stand by period: the next one begins no earlier than this one's period ends
pub fits-next : (frame : Frame) (index left : ℕ) (block : OutlineBlock) (blocks : List OutlineBlock) → IsTimed frame block left
    → all_follow comes_after (block ∷ blocks) ≡ true → All (λ (block : OutlineBlock). block.index ≡ index) (block ∷ blocks)
    → FitsAfter frame (period_end frame (anchor_instant frame block)) blocks
unfolding all_follow
fits-next frame index left block [] time order same = tt
fits-next frame index left block (second ∷ rest) time order same =
    let follow = (and_parts (comes_after block second) (all_follow comes_after (second ∷ rest)) order).0 in
    let first : block.index ≡ index = All-head (λ (block : OutlineBlock). block.index ≡ index) block (second ∷ rest) same in
    let next : second.index ≡ index = All-head (λ (block : OutlineBlock). block.index ≡ index) second rest
    (All-tail (λ (block : OutlineBlock). block.index ≡ index) block (second ∷ rest) same) in
    let later : block.period + 1 ≤ second.period = grind (arith, nat_tests, follow, first, next) in
    let up : (block.period + 1) * frame.period ≤ second.period * frame.period = mul-le-mul_right frame.period later in
    let end : (block.period + 1) * frame.period ≡ block.period * frame.period + frame.period = grind arith in
    omega (arith, up, end, time.ends)

module _ (frame : Frame) (index next : ℕ) (rest : List Bool) where
  -- where the next anchor is was put, and is read
  pub next_anchor-again : (at : ℕ) → 0 < next → next ≤ at → at < frame.span → frame.span ≤ MAX_SPAN
      → next_anchor_in frame index next (when_bits next at ++ rest) ≡ Ok (Some at, rest)
  unfolding when_bits
  next_anchor-again at some later within short =
      let gap = if eqb at next then 0 else (at - next + 1) in
      let begun : eqb next 0 ≡ false = grind (arith, nat_tests, some) in
      let small : gap + 2 ≤ 2 ^ 56 = grind (arith, nat_tests, within, short) in
      let at_is : at ≡ next + (gap - 1) = grind (arith, nat_tests, later) in
      let more : gap ≡ 1 → ⊥ = λ one. grind (arith, nat_tests, one, later) in
      rw begun (next_anchor_in-some frame index next (number_bits gap ++ rest) gap rest
      (told_at-number_bits (flaw_at Gaps (next / frame.period) index) gap rest small) at (omega (arith, later, within)) more at_is within)

  -- that there is none was put, and is read
  pub no_anchor-again : next_anchor_in frame index next (number_bits 1 ++ rest) ≡ Ok (None, rest)
  no_anchor-again = next_anchor_in-none frame index next (number_bits 1 ++ rest) 1 rest
      (told_at-number_bits (flaw_at Gaps (next / frame.period) index) 1 rest (lit≤ tt)) refl

-- the end of an object's blocks was put, and is read
pub end-again : (frame : Frame) (view : RulesView) (index : ℕ) (told : Told) (most : ℕ) (rest : List Bool) → 0 < told.next
    → frame.span ≤ told.next + most → further_in most frame view index told (end_bits frame told.next ++ rest) ≡ Ok (told, rest)
unfolding end_bits
end-again frame view index told most rest some enough =
    let begun : eqb told.next 0 ≡ false = grind (arith, nat_tests, some) in
    elim (cases_lt told.next frame.span) [
      | inr over ↦
          let test : nat_lt told.next frame.span ≡ false = grind (arith, nat_tests, over) in
          rw (begun, test) (further_in-told frame view index told rest most over)
      | inl under ↦
          let test : nat_lt told.next frame.span ≡ true = grind (arith, nat_tests, under) in
          let m = most - 1 in
          let more : most ≡ suc m = omega (arith, enough, under) in
          rw (begun, test) (ap (λ most. further_in most frame view index told (number_bits 1 ++ rest)) more
          ∙ further_in-step frame view index told (number_bits 1 ++ rest) m under
          ∙ bind-ok (next_anchor_in frame index told.next (number_bits 1 ++ rest)) (further_from m frame view index told) (None, rest)
          (no_anchor-again frame index told.next rest))
    ]

-- a block's bits, one part after the other
pub object_bits-text : (frame : Frame) (view : RulesView) (next : ℕ) (last : Option Cell) (block : OutlineBlock) (blocks : List OutlineBlock) (log : List ℕ)
    → object_bits frame view next last (block ∷ blocks) log
    ≡ when_bits next (anchor_instant frame block) ++ anchor_bits frame.height last block.cell ++ flat_map (low_bits (entry_width view)) (take block.length log)
    ++ object_bits frame view (period_end frame (anchor_instant frame block)) (Some (cell_after view block.cell (take block.length log))) blocks (drop block.length log)
unfolding object_bits
object_bits-text frame view next last block blocks log = refl

-- each part before the others
pub block_text : (when anchor entries others rest all : List Bool) → all ≡ when ++ anchor ++ entries ++ others
    → all ++ rest ≡ when ++ (anchor ++ (entries ++ (others ++ rest)))
block_text when anchor entries others rest all is =
    ap (λ all. all ++ rest) is ∙ append_assoc (when ++ anchor ++ entries) others rest ∙ append_assoc (when ++ anchor) entries (others ++ rest)
    ∙ append_assoc when anchor (entries ++ (others ++ rest))

-- reading goes on from what is told to these blocks and symbols more, and leaves these bits
pub record ReadsOn (told : Told) (blocks : List OutlineBlock) (log : List ℕ) (rest : List Bool) (read : Element Told) : Type 0 where
  pub done : Told
  pub read_is : read ≡ Ok (done, rest)
  pub blocks_are : done.blocks ≡ told.blocks ++ blocks
  pub symbols_are : done.symbols ≡ told.symbols ++ log

module _ (frame : Frame) (some : 0 < frame.period) (high : frame.height ≤ MAX_HEIGHT) (short : frame.span ≤ MAX_SPAN)
    (view : RulesView) (lasting : AreLasting view) (objects : ℕ) where
  -- the cell after a block's log is in the grid
  kept-after : (block : OutlineBlock) (own : List ℕ) → IsBlock frame view objects (block, own)
      → IsKept frame.height (Some (cell_after view block.cell own))
  kept-after block own is = end-inside frame.height block.cell (log_values view own) is.anchor is.inside

  -- further blocks that were put are read
  pub further-again : (blocks : List OutlineBlock) (index : ℕ) (told : Told) (log : List ℕ) (most : ℕ) (rest : List Bool)
      → All (IsBlock frame view objects) (blocks_with_logs blocks log) → All (λ (block : OutlineBlock). block.index ≡ index) blocks
      → all_follow comes_after blocks ≡ true → all_length blocks ≡ length log → FitsAfter frame told.next blocks → 0 < told.next
      → IsKept frame.height told.last → frame.span ≤ told.next + most → length told.symbols + length log ≤ limit_of Symbols
      → ReadsOn told blocks log rest (further_in most frame view index told (object_bits frame view told.next told.last blocks log ++ rest))
  unfolding blocks_with_logs
  further-again [] index told log most rest each same order long fits begun kept enough room = record {
    done = told;
    read_is = ap (λ bits. further_in most frame view index told (bits ++ rest)) (object_bits-nil frame view told.next told.last log)
        ∙ end-again frame view index told most rest begun enough;
    blocks_are = sym (append-nil told.blocks);
    symbols_are = sym (ap (λ log. told.symbols ++ log) (nil_from_length log (sym long)) ∙ append-nil told.symbols);
  }
  further-again (block ∷ blocks) index told log most rest each same order long fits begun kept enough room =
      let own = take block.length log in
      let behind = drop block.length log in
      let at = anchor_instant frame block in
      let it : OutlineBlock × List ℕ = (block, own) in
      let is : IsBlock frame view objects it = All-head (IsBlock frame view objects) it (blocks_with_logs blocks behind) each in
      let time = timed frame view objects it some is in
      let number : block.index ≡ index = All-head (λ (block : OutlineBlock). block.index ≡ index) block blocks same in
      let later : told.next ≤ at = omega (arith, fits) in
      let m = most - 1 in
      let more : most ≡ suc m = omega (arith, enough, later, time.within) in
      let next : Told = told_with frame view told block own in
      let others = object_bits frame view next.next next.last blocks behind in
      let when = when_bits told.next at in
      let anchor = anchor_bits frame.height told.last block.cell in
      let entries = flat_map (low_bits (entry_width view)) own in
      let sum = sum_by-cons (λ (block : OutlineBlock). block.length) block blocks in
      let own_long : length own ≡ block.length = is.whole in
      let parts = ap length (take-append-drop block.length log) in
      let joined = length-append own behind in
      let one : block_in frame view index told at (anchor ++ (entries ++ (others ++ rest))) ≡ Ok (next, others ++ rest) =
      ap (λ index. block_in frame view index told at (anchor ++ (entries ++ (others ++ rest)))) (sym number)
      ∙ block-again frame some high short view lasting objects told block own (others ++ rest) is kept (omega (arith, room, parts, joined)) in
      let on = further-again blocks index next behind m rest (All-tail (IsBlock frame view objects) it (blocks_with_logs blocks behind) each)
      (All-tail (λ (block : OutlineBlock). block.index ≡ index) block blocks same) (follow-tail comes_after block blocks order)
      (omega (arith, long, sum, own_long, parts, joined)) (fits-next frame index (sum_by (duration_of view) own) block blocks time order same)
      (omega (arith, time.before)) (kept-after block own is) (omega (arith, enough, more, later, time.before))
      (omega (arith, room, parts, joined, length-append told.symbols own)) in
      let bits = anchor ++ (entries ++ (others ++ rest)) in
      record {
        done = on.done;
        read_is =
            ap (further_in most frame view index told) (block_text when anchor entries others rest (object_bits frame view told.next told.last (block ∷ blocks) log)
            (object_bits-text frame view told.next told.last block blocks log))
            ∙ ap (λ most. further_in most frame view index told (when ++ bits)) more
            ∙ further_in-step frame view index told (when ++ bits) m (omega (arith, later, time.within))
            ∙ bind-ok (next_anchor_in frame index told.next (when ++ bits)) (further_from m frame view index told) (Some at, bits)
            (next_anchor-again frame index told.next bits at begun later time.within short)
            ∙ bind-ok (block_in frame view index told at bits) (λ block. further_in m frame view index block.0 block.1) (next, others ++ rest) one
            ∙ on.read_is;
        blocks_are = on.blocks_are ∙ append_assoc told.blocks (block ∷ []) blocks;
        symbols_are = on.symbols_are ∙ append_assoc told.symbols own behind ∙ ap (λ log. told.symbols ++ log) (take-append-drop block.length log);
      }

  -- all blocks of an object that were put are read
  pub object-again : (blocks : List OutlineBlock) (index : ℕ) (before : Told) (log : List ℕ) (rest : List Bool)
      → All (IsBlock frame view objects) (blocks_with_logs blocks log) → All (λ (block : OutlineBlock). block.index ≡ index) blocks
      → all_follow comes_after blocks ≡ true → all_length blocks ≡ length log → 0 < frame.span → length before.symbols + length log ≤ limit_of Symbols
      → ReadsOn before blocks log rest (object_blocks_in frame view index before (object_bits frame view 0 None blocks log ++ rest))
  unfolding blocks_with_logs when_bits end_bits
  object-again [] index before log rest each same order long lasts room = record {
    done = object_begun before;
    read_is = ap (λ bits. object_blocks_in frame view index before (bits ++ rest)) (object_bits-nil frame view 0 None log)
        ∙ object_blocks_in-none frame view index before (number_bits frame.span ++ rest) frame.span rest
        (told_at-number_bits (flaw_at Starts 0 index) frame.span rest (omega (arith, short))) refl;
    blocks_are = sym (append-nil before.blocks);
    symbols_are = sym (ap (λ log. before.symbols ++ log) (nil_from_length log (sym long)) ∙ append-nil before.symbols);
  }
  object-again (block ∷ blocks) index before log rest each same order long lasts room =
      let own = take block.length log in
      let behind = drop block.length log in
      let at = anchor_instant frame block in
      let it : OutlineBlock × List ℕ = (block, own) in
      let is : IsBlock frame view objects it = All-head (IsBlock frame view objects) it (blocks_with_logs blocks behind) each in
      let time = timed frame view objects it some is in
      let number : block.index ≡ index = All-head (λ (block : OutlineBlock). block.index ≡ index) block blocks same in
      let told = object_begun before in
      let next : Told = told_with frame view told block own in
      let others = object_bits frame view next.next next.last blocks behind in
      let anchor = anchor_bits frame.height None block.cell in
      let entries = flat_map (low_bits (entry_width view)) own in
      let sum = sum_by-cons (λ (block : OutlineBlock). block.length) block blocks in
      let own_long : length own ≡ block.length = is.whole in
      let parts = ap length (take-append-drop block.length log) in
      let joined = length-append own behind in
      let bits = anchor ++ (entries ++ (others ++ rest)) in
      let one : block_in frame view index told at bits ≡ Ok (next, others ++ rest) =
      ap (λ index. block_in frame view index told at bits) (sym number)
      ∙ block-again frame some high short view lasting objects told block own (others ++ rest) is tt (omega (arith, room, parts, joined)) in
      let on = further-again blocks index next behind frame.span rest (All-tail (IsBlock frame view objects) it (blocks_with_logs blocks behind) each)
      (All-tail (λ (block : OutlineBlock). block.index ≡ index) block blocks same) (follow-tail comes_after block blocks order)
      (omega (arith, long, sum, own_long, parts, joined)) (fits-next frame index (sum_by (duration_of view) own) block blocks time order same)
      (omega (arith, time.before)) (kept-after block own is) (omega arith)
      (omega (arith, room, parts, joined, length-append before.symbols own)) in
      record {
        done = on.done;
        read_is =
            ap (object_blocks_in frame view index before) (block_text (number_bits at) anchor entries others rest
            (object_bits frame view 0 None (block ∷ blocks) log) (object_bits-text frame view 0 None block blocks log))
            ∙ object_blocks_in-ok frame view index before (number_bits at ++ bits) at bits
            (told_at-number_bits (flaw_at Starts 0 index) at bits (omega (arith, time.within, short))) time.within next (others ++ rest) one
            (on.done, rest) on.read_is;
        blocks_are = on.blocks_are ∙ append_assoc before.blocks (block ∷ []) blocks;
        symbols_are = on.symbols_are ∙ append_assoc before.symbols own behind ∙ ap (λ log. before.symbols ++ log) (take-append-drop block.length log);
      }

  -- the blocks of objects from a place on that were put are read
  pub objects-again : (n from : ℕ) (before : Told) (blocks : List OutlineBlock) (log : List ℕ) (rest : List Bool)
      → All (IsBlock frame view objects) (blocks_with_logs blocks log) → all_follow comes_after blocks ≡ true
      → All (λ (block : OutlineBlock). from ≤ block.index) blocks → All (λ (block : OutlineBlock). block.index < from + n) blocks
      → all_length blocks ≡ length log → 0 < frame.span → length before.symbols + length log ≤ limit_of Symbols
      → ReadsOn before blocks log rest (blocks_in n frame view from before (blocks_bits frame view blocks (range_with_len from n) log ++ rest))
  unfolding blocks_bits
  objects-again zero from before [] log rest each order above below long lasts room = record {
    done = before;
    read_is = blocks_in-none frame view from before rest;
    blocks_are = sym (append-nil before.blocks);
    symbols_are = sym (ap (λ log. before.symbols ++ log) (nil_from_length log (sym long)) ∙ append-nil before.symbols);
  }
  objects-again zero from before (block ∷ blocks) log rest each order above below long lasts room =
      absurd (omega (
        arith,
        All-head (λ (block : OutlineBlock). from ≤ block.index) block blocks above,
        All-head (λ (block : OutlineBlock). block.index < from + 0) block blocks below,
      ))
  objects-again (suc n) from before blocks log rest each order above below long lasts room =
      let split = parted from blocks order above in
      let own = split.own in
      let others = split.others in
      let first = take (all_length own) log in
      let behind = drop (all_length own) log in
      let both = subst (λ blocks. All (IsBlock frame view objects) (blocks_with_logs blocks log)) (sym split.joined) each in
      let sorted = subst (λ blocks. all_follow comes_after blocks ≡ true) (sym split.joined) order in
      let front = logs-front (IsBlock frame view objects) own others log both in
      let back = logs-back (IsBlock frame view objects) own others log both in
      let lengths : all_length own + all_length others ≡ length log =
      sym (sum_by-append (λ (block : OutlineBlock). block.length) own others) ∙ ap all_length split.joined ∙ long in
      let parts = ap length (take-append-drop (all_length own) log) in
      let joined = length-append first behind in
      let own_long : length first ≡ all_length own = length-take-le (all_length own) log (omega (arith, lengths)) in
      let tail = blocks_bits frame view others (range_with_len (from + 1) n) behind in
      let object = object-again own from before first (tail ++ rest)
      (subst (All (IsBlock frame view objects)) (sym (logs-taken own log (all_length own) (omega arith))) front) split.same
      (follow-front comes_after own others sorted) (sym own_long) lasts (omega (arith, room, own_long, lengths)) in
      let up : suc from ≡ from + 1 = omega arith in
      let below_back = subst (All (λ (block : OutlineBlock). block.index < from + suc n)) (sym split.joined) below in
      let next = objects-again n (from + 1) object.done others behind rest back (follow-back comes_after own others sorted)
      (λ k d within. omega (arith, split.later k d within))
      (λ k d within. omega (arith, All-back (λ (block : OutlineBlock). block.index < from + suc n) own others below_back k d within))
      (omega (arith, lengths, parts, joined, own_long)) lasts
      (omega (arith, room, lengths, parts, joined, own_long, ap length object.symbols_are, length-append before.symbols first)) in
      let here = object_bits frame view 0 None own log in
      record {
        done = next.done;
        read_is =
            ap (λ bits. blocks_in (suc n) frame view from before (bits ++ rest))
            (ap (λ blocks. blocks_bits frame view blocks (range_with_len from (suc n)) log) (sym split.joined)
            ∙ blocks_bits-step frame view own others from n log split.same split.later)
            ∙ ap (blocks_in (suc n) frame view from before) (append_assoc here tail rest
            ∙ ap (λ front. front ++ (tail ++ rest)) (sym (object_bits-taken frame view 0 None own log (all_length own) (omega arith))))
            ∙ blocks_in-more n frame view from before (object_bits frame view 0 None own first ++ (tail ++ rest))
            ∙ bind-ok (object_blocks_in frame view from before (object_bits frame view 0 None own first ++ (tail ++ rest)))
            (λ object. blocks_in n frame view (suc from) object.0 object.1) (object.done, tail ++ rest) object.read_is
            ∙ ap (λ from. blocks_in n frame view from object.done (tail ++ rest)) up ∙ next.read_is;
        blocks_are = next.blocks_are ∙ ap (λ blocks. blocks ++ others) object.blocks_are ∙ append_assoc before.blocks own others
            ∙ ap (λ blocks. before.blocks ++ blocks) split.joined;
        symbols_are = next.symbols_are ∙ ap (λ log. log ++ behind) object.symbols_are ∙ append_assoc before.symbols first behind
            ∙ ap (λ log. before.symbols ++ log) (take-append-drop (all_length own) log);
      }

  -- the blocks of an outline that were put are read
  pub blocks-again : (blocks : List OutlineBlock) (symbols : List ℕ) (rest : List Bool)
      → All (IsBlock frame view objects) (blocks_with_logs blocks symbols) → all_follow comes_after blocks ≡ true
      → all_length blocks ≡ length symbols → 0 < frame.span → length symbols ≤ limit_of Symbols
      → ReadsOn nothing_told blocks symbols rest (blocks_in objects frame view 0 nothing_told (blocks_bits frame view blocks (range_with_len 0 objects) symbols ++ rest))
  blocks-again blocks symbols rest each order long lasts room =
      objects-again objects 0 nothing_told blocks symbols rest each order
      (λ k d within. omega arith)
      (logs-blocks (λ block. block.index < 0 + objects) blocks symbols (λ k d within. omega (arith, (each k d within).object)))
      long lasts (omega (arith, room))
