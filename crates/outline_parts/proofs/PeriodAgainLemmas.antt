-- The parts of a sound period are those that its blocks' headers make.
use Rattle.std.proofs.Common.{◌≡◌, ℕ, zero, suc, ◌<◌, ◌≤◌, ◌==◌, Bool, List, [], ◌∷◌, length, get_or, map}
use Rattle.std.proofs.Common.{refl, sym, ap, ◌∙◌, arith}
use Rattle.std.specs.Prelude.{slice_index, slice_index_or}
use Rattle.std.specs.List.{dedup, list_any, range_with_len}
use Rattle.std.proofs.lemmas.Int.{ints}
use Rattle.std.proofs.lemmas.List.{get_or-map, length-map, same_lists, get_or_default}
use Rattle.std.proofs.lemmas.List.FromFn.{get_or-map-range_with_len, length-map-range_with_len}
use Rattle.std.proofs.lemmas.Simd.{map-map}
use Rattle.list_laws.proofs.MapLemmas.{map-range_agree}
use Rattle.packed_bits.specs.Bits.{ones_of}
use Rattle.bit_rank.proofs.RankLemmas.{rank_of-le}
use Rattle.object_perm.specs.Permutation.{inverse_of}
use Rattle.object_perm.proofs.InverseLemmas.{inverse_of-at}
use Rattle.track_types.specs.declared.cell.Cell.{Cell}
use Rattle.track_types.specs.declared.frame.Frame.{Frame}
use Rattle.k2_tree.specs.Morton.{morton_of}
use Rattle.k2_tree.specs.Tree.{codes_of, tree_bits}
use Rattle.k2_tree.specs.TreeBits.{Rises, morton_bits}
use Rattle.k2_tree.proofs.RisingLemmas.{Rises-place, same_place}
use Rattle.rule_store.proofs.CellLemmas.{same_cell}
use Rattle.movement_log.specs.declared.head.Head.{Head}
use Rattle.snapshots.specs.Sound.{IsSnapshot}
use Rattle.snapshots.specs.View.{SnapshotView, all_blocks, leaf_at, tree_in, widths_in}
use Rattle.snapshots.specs.declared.anchored.Anchored.{Anchored}
use Rattle.chart_parts.specs.LeafOrder.{distinct_codes, ends_of, leaf_codes, leaf_order}
use Rattle.chart_parts.specs.PeriodWith.{codes_of_heads, period_with, presence_of}
use Rattle.chart_parts.proofs.LeafOrderLemmas.{PermutesPlaces-leaf_order, leaf_order-before, length-leaf_order}
use Rattle.outline_parts.specs.OutlineOf.{cell_in, outline_block}
use Rattle.outline_parts.specs.PartsOfOutline.{cell_from, head_of}
use Rattle.outline_parts.proofs.CodeOrderLemmas.{AreByCode, same_by_code}
use Rattle.outline_parts.proofs.KeyBitLemmas.{list_any-made}
use Rattle.outline_parts.proofs.LeafMarkLemmas.{AreMarks, ends_of-spread, length-spread, once-spread, rank-within, spread, spread-at}
use Rattle.outline_parts.proofs.RankLemmas.{any-block, blocks-by_rank, map-places}

-- a cell of the grid, counted from the base and placed again
pub cell-placed : (frame : Frame) (cell : Cell) → cell_from frame (cell_in frame cell) ≡ cell
cell-placed frame cell = same_cell _ _ cell.x cell.y (omega (arith, ints)) (omega (arith, ints))

-- numbers that rise do not fall from one place to a later one
rising-le : (n : ℕ) (xs : List ℕ) (i j : ℕ) → Rises n xs → i ≤ j → j < length xs → get_or xs i 0 ≤ get_or xs j 0
rising-le n [] i j up low within = absurd (omega arith)
rising-le n (x ∷ xs) zero zero up low within = omega arith
rising-le n (x ∷ xs) zero (suc j) up low within = omega (arith, Rises-place (suc x) j xs up.1 (omega arith))
rising-le n (x ∷ xs) (suc i) zero up low within = absurd (omega arith)
rising-le n (x ∷ xs) (suc i) (suc j) up low within = rising-le (suc x) xs i j up.1 (omega arith) (omega arith)

-- the numbers of a list in leaf order are in order
leaf_order-is : (codes : List ℕ) → AreByCode codes (leaf_order codes)
leaf_order-is codes = record {
  permutes = PermutesPlaces-leaf_order codes;
  long = length-leaf_order codes;
  low = λ p q less within. (leaf_order-before codes p q less (omega (arith, length-leaf_order codes))).low;
  tied = λ p q less within same. (leaf_order-before codes p q less (omega (arith, length-leaf_order codes))).tied same;
}

module _ (view : SnapshotView) (is : IsSnapshot view) where
  abbrev frame : Frame
  frame = view.frame

  -- the header of a block
  abbrev pub head_of_block : Anchored → Head
  head_of_block block = head_of view.frame (outline_block view.frame view.number block)

  -- the headers of all blocks, and the lengths of their logs
  abbrev pub view_heads : List Head
  view_heads = map head_of_block (all_blocks view)

  abbrev pub view_lengths : List ℕ
  view_lengths = map (λ block. block.len) (all_blocks view)

  abbrev n : ℕ
  n = ones_of view.parts.present

  abbrev perm : List ℕ
  perm = view.parts.perm

  abbrev lasts : List Bool
  lasts = view.parts.lasts

  -- the Morton numbers of the tree's cells
  abbrev tree_codes : List ℕ
  tree_codes = codes_of (tree_in view)

  -- those of the blocks
  abbrev codes : List ℕ
  codes = codes_of_heads frame view_heads

  code_at : Cell → ℕ
  code_at cell = morton_of frame.height frame.base cell

  marks : AreMarks lasts tree_codes
  marks = record {
    last = is.sound.last;
    many = is.sound.cells ∙ sym (length-map (tree_in view).cells (morton_of frame.height frame.base));
  }

  rise : Rises 0 tree_codes
  rise = is.sound.tree.is_tree.codes.rising

  own : ℕ → ℕ
  own r = code_at (cell_from frame (cell_in frame
      (slice_index_or (tree_in view).cells (leaf_at view (inverse_of perm r)) frame.base)))

  codes-are : codes ≡ map own (range_with_len 0 n)
  unfolding own code_at
  codes-are =
      map-map (λ (head : Head). morton_of frame.height frame.base head.cell) head_of_block (all_blocks view)
      ∙ blocks-by_rank view is (λ block. code_at (cell_from frame (cell_in frame block.cell))) own (λ i r. refl)

  many-codes : length codes ≡ n
  many-codes = ap length codes-are ∙ length-map-range_with_len own 0 n

  -- the number of a place in leaf order is that of its leaf
  code-of_place : (p : ℕ) → p < length perm → slice_index codes (slice_index perm p) ≡ slice_index tree_codes (leaf_at view p)
  unfolding own code_at
  code-of_place p within =
      let r : ℕ = slice_index perm p in
      let low : r < n = omega (arith, is.sound.permutes.within p within, is.shaped.perm) in
      let back : inverse_of perm r ≡ p = inverse_of-at perm p r is.sound.permutes within refl in
      let leaf : ℕ = leaf_at view p in
      let cells : List Cell = (tree_in view).cells in
      let known : leaf < length tree_codes = rank-within lasts tree_codes p marks (omega (arith, is.shaped.perm, is.shaped.lasts)) in
      let inside : leaf < length cells = omega (arith, known, length-map cells (morton_of frame.height frame.base)) in
      ap (λ all. slice_index all r) codes-are
      ∙ get_or-map-range_with_len own 0 n r r 0 low (omega arith)
      ∙ ap (λ place. code_at (cell_from frame (cell_in frame (slice_index_or cells (leaf_at view place) frame.base)))) back
      ∙ ap code_at (cell-placed frame (slice_index_or cells leaf frame.base))
      ∙ sym (get_or-map (morton_of frame.height frame.base) cells leaf frame.base 0 inside)

  perm-is : AreByCode codes perm
  perm-is =
      let long : length perm ≡ length lasts = is.shaped.perm ∙ sym is.shaped.lasts in
      record {
        permutes = is.sound.permutes;
        long = is.shaped.perm ∙ sym many-codes;
        low = λ p q less within.
            let up = rising-le 0 tree_codes (leaf_at view p) (leaf_at view q) rise (rank_of-le lasts p q (omega arith))
            (rank-within lasts tree_codes q marks (omega (arith, long))) in
            omega (arith, up, code-of_place p (omega arith), code-of_place q within);
        tied = λ p q less within same.
            let alike : slice_index tree_codes (leaf_at view p) ≡ slice_index tree_codes (leaf_at view q) =
            sym (code-of_place p (omega arith)) ∙ same ∙ code-of_place q within in
            is.sound.order p q less within
            (same_place (leaf_at view p) (leaf_at view q) tree_codes rise
            (rank-within lasts tree_codes p marks (omega (arith, long))) (rank-within lasts tree_codes q marks (omega (arith, long))) alike);
      }

  -- leaf order is the builder's
  perm-again : leaf_order codes ≡ perm
  perm-again = same_by_code codes (leaf_order codes) perm (leaf_order-is codes) perm-is

  leaf_codes-again : leaf_codes codes ≡ spread lasts tree_codes
  unfolding leaf_codes
  leaf_codes-again =
      let long : length perm ≡ length lasts = is.shaped.perm ∙ sym is.shaped.lasts in
      ap (map (slice_index codes)) perm-again
      ∙ same_lists (map (slice_index codes) perm) (spread lasts tree_codes)
      (length-map perm (slice_index codes) ∙ long ∙ sym (length-spread lasts tree_codes marks))
      (λ p d within.
      let few = length-map perm (slice_index codes) in
      let inside : p < length perm = omega (arith, few) in
      let spread_long = length-spread lasts tree_codes marks in
      get_or-map (slice_index codes) perm p 0 d inside
      ∙ code-of_place p inside
      ∙ sym (spread-at lasts tree_codes p marks (omega (arith, long)))
      ∙ get_or_default (spread lasts tree_codes) p 0 d (omega (arith, long, spread_long)))

  -- and so are the ends of cells
  lasts-again : ends_of (leaf_codes codes) ≡ lasts
  lasts-again = ap ends_of leaf_codes-again ∙ ends_of-spread 0 lasts tree_codes marks rise

  -- and the tree's bits
  tree-again : morton_bits (widths_in frame) (distinct_codes codes) ≡ view.parts.tree
  unfolding distinct_codes tree_bits
  tree-again =
      ap (λ all. morton_bits (widths_in frame) (dedup (λ a b. a == b) all)) leaf_codes-again
      ∙ ap (morton_bits (widths_in frame)) (once-spread 0 lasts tree_codes marks rise)
      ∙ is.sound.tree.same

  present-again : presence_of view.objects view_heads ≡ view.parts.present
  present-again =
      map-range_agree (λ index. list_any (λ (head : Head). head.index == index) view_heads)
      (λ index. slice_index_or view.parts.present index _) 0 view.objects
      (λ i low high. list_any-made head_of_block (λ (head : Head). head.index == i) (all_blocks view)
      ∙ any-block view is i (omega arith))
      ∙ map-places view.parts.present _ view.objects is.shaped.presence

  offsets-again : map (λ head. head.offset) view_heads ≡ view.parts.offsets
  offsets-again =
      map-map (λ (head : Head). head.offset) head_of_block (all_blocks view)
      ∙ blocks-by_rank view is (λ block. block.offset) (slice_index view.parts.offsets) (λ i r. refl)
      ∙ map-places view.parts.offsets 0 n is.shaped.offsets

  pub lengths-again : view_lengths ≡ view.parts.lengths
  lengths-again =
      blocks-by_rank view is (λ block. block.len) (slice_index view.parts.lengths) (λ i r. refl)
      ∙ map-places view.parts.lengths 0 n is.shaped.lengths

  -- the parts of the period are those of its blocks
  pub period_with-again : period_with view.frame view.objects view_heads view_lengths ≡ view.parts
  period_with-again =
      rw (present-again, offsets-again, tree-again, lasts-again, perm-again, lengths-again) refl
