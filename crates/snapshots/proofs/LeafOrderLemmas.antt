-- The blocks of a period in leaf order: a walk over all leaves comes by them, and each block of the period is one of
-- them.
use Rattle.std.proofs.Common.{◌≡◌, ℕ, ◌+◌, ◌<◌, Bool, true, List, [], ◌∷◌, ◌++◌, length, get_or, map, All, refl, ap, sym, subst, ◌∙◌, arith}
use Rattle.std.specs.List.{enumerate_from, flat_map, list_all, range_with_len}
use Rattle.std.specs.List.Sorted.{IsNonDecreasingBy}
use Rattle.std.proofs.lemmas.List.Elements.{All-map}
use Rattle.std.proofs.lemmas.List.FromFn.{get_or-range_with_len, length-range_with_len}
use Rattle.list_laws.proofs.FilterLemmas.{filter-all}
use Rattle.list_laws.proofs.KeyRangeLemmas.{by_key-sorted}
use Rattle.list_laws.proofs.MapLemmas.{map-flat_map}
use Rattle.bit_rank.proofs.RankLemmas.{rank_of-le}
use Rattle.track_types.specs.declared.cell.Cell.{Cell}
use Rattle.track_types.specs.declared.cell_box.CellBox.{CellBox}
use Rattle.k2_tree.specs.Tree.{tree_widths}
use Rattle.k2_tree.specs.Pruning.{digits_left, kept_leaves, leaves_of, passes, passes_at}
use Rattle.snapshots.specs.Objects.{blocks_of, passing_blocks, WeighSame}
use Rattle.snapshots.specs.Sound.{IsBlock, IsSnapshot}
use Rattle.snapshots.specs.Tracks.{blocks_by_leaf}
use Rattle.snapshots.specs.View.{SnapshotView, all_blocks, block_at, blocks_in, leaf_at, places_from, tree_in}
use Rattle.snapshots.specs.declared.anchored.Anchored.{Anchored}
use Rattle.snapshots.proofs.BlockFactsLemmas.{IsBlock-from_block_of, WeighSame-objects_of_leaves}
use Rattle.snapshots.proofs.BlockLemmas.{leaf_known}
use Rattle.snapshots.proofs.BlocksLemmas.{block_at-is_block, blocks_of-objects}

-- the test that keeps each box
abbrev everywhere : CellBox → Bool
everywhere area = true

-- a test that is true of all
list_all-true : {X : Type 0} (xs : List X) → list_all (λ _. true) xs ≡ true
list_all-true [] = refl
list_all-true (x ∷ xs) = grind (arith, list_all-true xs)

-- each leaf is kept where each square is
all_kept : (view : SnapshotView) → kept_leaves everywhere (tree_in view) ≡ leaves_of (tree_in view)
unfolding passes passes_at
all_kept view =
    filter-all (λ leaf. passes_at everywhere (tree_in view) leaf.1) (leaves_of (tree_in view))
    (λ k d within. list_all-true (digits_left (tree_widths (tree_in view))))

-- leaves are told by their numbers
numbered : (view : SnapshotView) (first : ℕ) (cells : List Cell)
    → blocks_of view (enumerate_from first cells) ≡ flat_map (blocks_in view) (range_with_len first (length cells))
numbered view first [] = refl
numbered view first (cell ∷ cells) = ap (λ rest. blocks_in view first ++ rest) (numbered view (first + 1) cells)

module _ (view : SnapshotView) (is : IsSnapshot view) where
  -- a place by its number
  place-is : (k d : ℕ) → k < length (range_with_len 0 (length view.parts.perm))
      → (k < length view.parts.perm) × (get_or (range_with_len 0 (length view.parts.perm)) k d ≡ k)
  place-is k d within =
      let n : ℕ = length view.parts.perm in
      let long = length-range_with_len 0 n in
      let inside : k < n = omega (arith, long) in (inside, omega (arith, get_or-range_with_len 0 n k d inside))

  -- leaves do not fall in leaf order
  leaves-ascend : IsNonDecreasingBy (leaf_at view) (range_with_len 0 (length view.parts.perm))
  leaves-ascend i j d low within =
      let a = (place-is i d (omega arith)).1 in
      let b = (place-is j d within).1 in
      rw (a, b) (rank_of-le view.parts.lasts i j low)

  -- a walk over all leaves comes by the blocks in leaf order
  by_leaf-all : blocks_of view (kept_leaves everywhere (tree_in view)) ≡ blocks_by_leaf view
  by_leaf-all =
      let n : ℕ = length view.parts.perm in
      let cells : List Cell = (tree_in view).cells in
      ap (blocks_of view) (all_kept view) ∙ numbered view 0 cells
      ∙ sym (map-flat_map (block_at view) (λ leaf. places_from view leaf 0 n) (range_with_len 0 (length cells)))
      ∙ ap (map (block_at view)) (by_key-sorted (leaf_at view) (length cells) (range_with_len 0 n) leaves-ascend
      (λ k d within.
      let place = place-is k d within in
      subst (λ p. leaf_at view p < length cells) (sym place.1) (leaf_known view k is place.0)))

  -- each is a block of the period
  pub by_leaf-are : All (IsBlock view) (blocks_by_leaf view)
  by_leaf-are =
      All-map (IsBlock view) (block_at view) (range_with_len 0 (length view.parts.perm)) (λ k d within.
      let place = place-is k d within in
      subst (λ p. IsBlock view (block_at view p)) (sym place.1)
      (IsBlock-from_block_of view is (block_at view k).index (block_at view k) (block_at-is_block view k is place.0)))

  -- and each block of the period comes once
  pub by_leaf-weighs : WeighSame (blocks_by_leaf view) (all_blocks view)
  unfolding passing_blocks passes passes_at
  by_leaf-weighs =
      let all : List Anchored = all_blocks view in
      let kept : passing_blocks everywhere view ≡ all =
      filter-all (λ (block : Anchored). passes_at everywhere (tree_in view) block.cell) all
      (λ k d within. list_all-true (digits_left (tree_widths (tree_in view)))) in
      subst (λ xs. WeighSame xs all)
      (sym (blocks_of-objects view (kept_leaves everywhere (tree_in view)) is) ∙ by_leaf-all)
      (subst (WeighSame _) kept (WeighSame-objects_of_leaves view everywhere is))
