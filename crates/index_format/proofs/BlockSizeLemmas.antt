-- How many bits the blocks of an outline take at most.
use Rattle.std.proofs.Common.{All, ◌≡◌, ℕ, zero, suc, ◌+◌, ◌-◌, ◌*◌, ◌^◌, ◌<◌, ◌≤◌, true, eqb, List, [], ◌∷◌, ◌++◌, length, take, drop, None, Some, sym, ap, subst, ◌∙◌, inl, inr, arith}
use Rattle.std.specs.Prelude.{◌-ℤ◌, nat_lt, Option}
use Rattle.std.specs.Int.{w64, cast_unsigned}
use Rattle.std.specs.List.{flat_map, range_with_len}
use Rattle.std.proofs.Math.Nat.{mul-le-mul_right}
use Rattle.std.proofs.lemmas.Bool.{and_parts, cases_Bool, cases_lt}
use Rattle.std.proofs.lemmas.Bool.Decides.{nat_tests}
use Rattle.std.proofs.lemmas.Int.{ints}
use Rattle.std.proofs.lemmas.List.{length-append, take-append-drop}
use Rattle.std.proofs.lemmas.List.Elements.{All-head, All-tail}
use Rattle.list_laws.proofs.LengthLemmas.{length-flat_map-alike}
use Rattle.packed_bits.specs.Words.{low_bits}
use Rattle.packed_bits.proofs.WordLemmas.{length-low_bits}
use Rattle.spiral_code.specs.Spiral.{code_of, ring_of, square}
use Rattle.spiral_code.proofs.SpiralLemmas.{code_of-below}
use Rattle.track_types.specs.declared.cell.Cell.{Cell}
use Rattle.track_types.specs.declared.limit.TheConstants.{MAX_HEIGHT}
use Rattle.rule_store.specs.Flaws.{reach_limit}
use Rattle.rule_store.specs.Log.{log_values}
use Rattle.rule_store.specs.View.{RulesView, symbols_in}
use Rattle.track_types.specs.Frame.{IsFrame, periods_of}
use Rattle.track_types.specs.declared.frame.Frame.{Frame}
use Rattle.index_format.specs.declared.outline.OutlineBlock.{OutlineBlock}
use Rattle.index_format.specs.BlockSteps.{IsKept}
use Rattle.index_format.specs.IsOutline.{IsBlock, all_follow, blocks_with_logs, comes_after}
use Rattle.index_format.specs.OutlineBlocks.{anchor_bits, anchor_instant, blocks_bits, cell_after, end_bits, entry_width, is_in_grid, object_bits, period_end, when_bits}
use Rattle.index_format.proofs.AlongLemmas.{end-inside}
use Rattle.index_format.proofs.AscentLemmas.{area-small}
use Rattle.index_format.proofs.BlockOrderLemmas.{all_length, blocks_bits-step, follow-back, logs-back, logs-front, logs-taken, object_bits-taken, parted}
use Rattle.index_format.proofs.GridLemmas.{in_grid-bounds}
use Rattle.index_format.proofs.SizeLemmas.{number_bits-short, number_bits-shorter}
use Rattle.index_format.proofs.WidthLemmas.{width_for-few}

-- a movement between two cells of a grid
code-small : (height : ℕ) (from to : Cell) → is_in_grid height from ≡ true → is_in_grid height to ≡ true
    → code_of (to.x -ℤ from.x) (to.y -ℤ from.y) < square (2 * reach_limit height + 1)
code-small height from to here there =
    let a = in_grid-bounds height from here in
    let b = in_grid-bounds height to there in
    let near : ring_of (to.x -ℤ from.x) (to.y -ℤ from.y) ≤ reach_limit height =
    omega (arith, ints, a.left, a.right, a.below, a.above, b.left, b.right, b.below, b.above) in
    (code_of-below (to.x -ℤ from.x) (to.y -ℤ from.y) (reach_limit height)).1 near

module _ (frame : Frame) (view : RulesView) (objects : ℕ) where
  -- blocks from one on are at most as many as there are places of an object and a period from its own on
  count-after : (block : OutlineBlock) (blocks : List OutlineBlock) (symbols : List ℕ) → all_follow comes_after (block ∷ blocks) ≡ true
      → All (IsBlock frame view objects) (blocks_with_logs (block ∷ blocks) symbols)
      → block.index * periods_of frame + block.period + length (block ∷ blocks) ≤ objects * periods_of frame
  unfolding all_follow blocks_with_logs
  count-after block [] symbols order each =
      let has = All-head (IsBlock frame view objects) (block, take block.length symbols) [] each in
      let row : (block.index + 1) * periods_of frame ≤ objects * periods_of frame =
      mul-le-mul_right (periods_of frame) (omega (arith, has.object)) in
      omega (arith, row, has.period)
  count-after block (next ∷ blocks) symbols order each =
      let rest = drop block.length symbols in
      let has = All-head (IsBlock frame view objects) (block, take block.length symbols) (blocks_with_logs (next ∷ blocks) rest) each in
      let step = and_parts (comes_after block next) (all_follow comes_after (next ∷ blocks)) order in
      let after = step.0 in
      let later = count-after next blocks rest step.1
      (All-tail (IsBlock frame view objects) (block, take block.length symbols) (blocks_with_logs (next ∷ blocks) rest) each) in
      elim (cases_lt block.index next.index) [
        | inl less ↦
            let row : (block.index + 1) * periods_of frame ≤ next.index * periods_of frame =
            mul-le-mul_right (periods_of frame) (omega (arith, less)) in
            omega (arith, row, has.period, later)
        | inr over ↦
            let same : block.index ≡ next.index = grind (arith, nat_tests, after, over) in
            let up : block.period < next.period = grind (arith, nat_tests, after, over) in
            let row : block.index * periods_of frame ≡ next.index * periods_of frame = ap (λ index. index * periods_of frame) same in
            omega (arith, row, up, later)
      ]

  -- how many blocks there are at most
  pub blocks-few : (blocks : List OutlineBlock) (symbols : List ℕ) → all_follow comes_after blocks ≡ true
      → All (IsBlock frame view objects) (blocks_with_logs blocks symbols) → length blocks ≤ objects * periods_of frame
  blocks-few [] symbols order each = omega arith
  blocks-few (block ∷ blocks) symbols order each = omega (arith, count-after block blocks symbols order each)

-- when a block begins, at an instant within the span
when_bits-short : (span next at : ℕ) → span ≤ 2 ^ 22 → at < span → length (when_bits next at) ≤ 31
unfolding when_bits
when_bits-short span next at small inside = elim (cases_Bool (eqb next 0)) [
  | inl start ↦ rw start (number_bits-shorter 22 at (omega arith) (omega (arith, small, inside)))
  | inr later ↦ rw later (elim (cases_Bool (eqb at next)) [
    | inl same ↦ rw same (number_bits-shorter 22 0 (omega arith) (omega arith))
    | inr differ ↦ rw differ (number_bits-shorter 22 (at - next + 1) (omega arith) (omega (arith, small, inside)))
  ])
]

-- the end of an object's blocks
end_bits-short : (frame : Frame) (next : ℕ) → frame.span ≤ 2 ^ 22 → length (end_bits frame next) ≤ 31
unfolding end_bits
end_bits-short frame next small = elim (cases_Bool (eqb next 0)) [
  | inl start ↦ rw start (number_bits-shorter 22 frame.span (omega arith) (omega (arith, small)))
  | inr later ↦ rw later (elim (cases_Bool (nat_lt next frame.span)) [
    | inl more ↦ rw more (number_bits-shorter 22 1 (omega arith) (omega arith))
    | inr over ↦ rw over (omega arith)
  ])
]

-- the cell of an anchor in the grid
anchor_bits-short : (height : ℕ) (last : Option Cell) (cell : Cell) → height ≤ MAX_HEIGHT → IsKept height last
    → is_in_grid height cell ≡ true → length (anchor_bits height last cell) ≤ 60
unfolding anchor_bits
anchor_bits-short height None cell low inside here =
    let x = cast_unsigned w64 cell.x in
    let y = cast_unsigned w64 cell.y in
    omega (arith, low, length-append (low_bits height x) (low_bits height y), length-low_bits height x, length-low_bits height y)
anchor_bits-short height (Some last) cell low inside here =
    let code = code_of (cell.x -ℤ last.x) (cell.y -ℤ last.y) in
    number_bits-short 49 code (omega arith) (omega (arith, area-small height low, code-small height last cell inside here))

module _ (frame : Frame) (view : RulesView) (objects : ℕ) (is : IsFrame frame) (few : symbols_in view ≤ 2 ^ 26) where
  -- the entries of a log
  entries-short : (log : List ℕ) → length (flat_map (low_bits (entry_width view)) log) ≤ 26 * length log
  entries-short log =
      let width = entry_width view in
      let most : width * length log ≤ 26 * length log = mul-le-mul_right (length log) ((width_for-few (symbols_in view) few).0) in
      omega (arith, length-flat_map-alike (low_bits width) width (length-low_bits width) log, most)

  -- the blocks of an object
  object_bits-short : (next : ℕ) (last : Option Cell) (blocks : List OutlineBlock) (symbols : List ℕ) → IsKept frame.height last
      → All (IsBlock frame view objects) (blocks_with_logs blocks symbols)
      → length (object_bits frame view next last blocks symbols) ≤ 31 + 91 * length blocks + 26 * length symbols
  unfolding object_bits blocks_with_logs
  object_bits-short next last [] symbols inside each = omega (arith, end_bits-short frame next (is.short))
  object_bits-short next last (block ∷ blocks) symbols inside each =
      let log = take block.length symbols in
      let rest = drop block.length symbols in
      let has = All-head (IsBlock frame view objects) (block, log) (blocks_with_logs blocks rest) each in
      let at = anchor_instant frame block in
      let begun : at < frame.span = omega (arith, has.offset) in
      let after = end-inside frame.height block.cell (log_values view log) has.anchor has.inside in
      let later = object_bits-short (period_end frame at) (Some (cell_after view block.cell log)) blocks rest after
      (All-tail (IsBlock frame view objects) (block, log) (blocks_with_logs blocks rest) each) in
      let first = when_bits next at in
      let anchor = anchor_bits frame.height last block.cell in
      let entries = flat_map (low_bits (entry_width view)) log in
      let others = object_bits frame view (period_end frame at) (Some (cell_after view block.cell log)) blocks rest in
      omega (
        arith,
        length-append (first ++ anchor ++ entries) others,
        length-append (first ++ anchor) entries,
        length-append first anchor,
        when_bits-short frame.span next at is.short begun,
        anchor_bits-short frame.height last block.cell is.limit inside has.anchor,
        entries-short log,
        later,
        length-append log rest,
        ap length (take-append-drop block.length symbols),
      )

  -- the blocks of so many objects from one on
  blocks_bits-from : (count index : ℕ) (blocks : List OutlineBlock) (symbols : List ℕ) → all_follow comes_after blocks ≡ true
      → All (λ (block : OutlineBlock). index ≤ block.index) blocks → All (IsBlock frame view objects) (blocks_with_logs blocks symbols)
      → length (blocks_bits frame view blocks (range_with_len index count) symbols) ≤ 31 * count + 91 * length blocks + 26 * length symbols
  unfolding blocks_bits
  blocks_bits-from zero index blocks symbols order above each = omega arith
  blocks_bits-from (suc count) index blocks symbols order above each =
      let it = parted index blocks order above in
      let n = all_length it.own in
      let log = take n symbols in
      let rest = drop n symbols in
      let both = subst (λ blocks. All (IsBlock frame view objects) (blocks_with_logs blocks symbols)) (sym it.joined) each in
      let sorted = subst (λ blocks. all_follow comes_after blocks ≡ true) (sym it.joined) order in
      let own = subst (All (IsBlock frame view objects)) (sym (logs-taken it.own symbols n (omega arith)))
      (logs-front (IsBlock frame view objects) it.own it.others symbols both) in
      let later = blocks_bits-from count (index + 1) it.others rest (follow-back comes_after it.own it.others sorted)
      (λ k d within. omega (arith, it.later k d within)) (logs-back (IsBlock frame view objects) it.own it.others symbols both) in
      let others = blocks_bits frame view it.others (range_with_len (index + 1) count) rest in
      let parts : blocks_bits frame view blocks (range_with_len index (suc count)) symbols
      ≡ object_bits frame view 0 None it.own log ++ others =
      ap (λ blocks. blocks_bits frame view blocks (range_with_len index (suc count)) symbols) (sym it.joined)
      ∙ blocks_bits-step frame view it.own it.others index count symbols it.same it.later
      ∙ ap (λ first. first ++ others) (sym (object_bits-taken frame view 0 None it.own symbols n (omega arith))) in
      omega (
        arith,
        ap length parts,
        length-append (object_bits frame view 0 None it.own log) others,
        object_bits-short 0 None it.own log tt own,
        later,
        ap length it.joined,
        length-append it.own it.others,
        ap length (take-append-drop n symbols),
        length-append log rest,
      )

  -- the blocks of all objects
  pub blocks_bits-short : (blocks : List OutlineBlock) (symbols : List ℕ) → all_follow comes_after blocks ≡ true
      → All (IsBlock frame view objects) (blocks_with_logs blocks symbols)
      → length (blocks_bits frame view blocks (range_with_len 0 objects) symbols) ≤ 31 * objects + 91 * length blocks + 26 * length symbols
  blocks_bits-short blocks symbols order each = blocks_bits-from objects 0 blocks symbols order (λ k d within. omega arith) each
