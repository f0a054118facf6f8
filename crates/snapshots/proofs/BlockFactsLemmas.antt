-- What holds of every block that a snapshot gives, and how often it gives each.
use Rattle.std.proofs.Common.{◌≡◌, ℕ, zero, suc, ◌+◌, ◌-◌, ◌<◌, Bool, true, false, List, [], ◌∷◌, length, get_or, All}
use Rattle.std.proofs.Common.{map, filter, None, Some, inl, inr, refl, sym, ap, ◌∙◌, arith, subst}
use Rattle.std.specs.Prelude.{if◌then◌else◌, slice_get, slice_index_or}
use Rattle.std.specs.List.{filter_map, range_with_len, sum_by}
use Rattle.std.specs.List.Sorted.{IsStrictlyIncreasing}
use Rattle.std.proofs.lemmas.Bool.{and_parts, cases_Bool, eqb-true, false≢true}
use Rattle.std.proofs.lemmas.List.Elements.{All-get_or, All-map, All-weaker, filter_passes}
use Rattle.std.proofs.lemmas.List.Kept.{IsStrictlyIncreasing-filter}
use Rattle.std.proofs.lemmas.List.FromFn.{get_or-range_with_len, length-range_with_len}
use Rattle.std.proofs.lemmas.List.Sums.{sum_by_more_le}
use Rattle.std.proofs.lemmas.List.{map-id}
use Rattle.std.proofs.lemmas.Simd.{map-map}
use Rattle.std.proofs.lemmas.Option.{get_or_from_slice_get, none-some, same_Some, slice_get_within}
use Rattle.list_laws.proofs.FilterLemmas.{filter_implied, sum_by-filter}
use Rattle.list_laws.proofs.FlatLemmas.{All-flat_map, sum_by-flat_map, sum_by-map}
use Rattle.list_laws.proofs.SumLemmas.{All-filter_map, made_weight, sum_by-agree, sum_by-filter_map}
use Rattle.list_laws.proofs.SumLemmas.{sum_by-range_agree, sum_by-swap, sum_by-weight_at, sum_by-zeros}
use Rattle.track_types.specs.Frame.{instants_in}
use Rattle.track_types.specs.declared.cell.Cell.{Cell}
use Rattle.track_types.specs.declared.cell_box.CellBox.{CellBox}
use Rattle.k2_tree.specs.Morton.{IsInGrid}
use Rattle.k2_tree.specs.Pruning.{kept_leaves, leaves_of, passes_at, IsKeptFor}
use Rattle.k2_tree.proofs.KeptLemmas.{passes-wanted}
use Rattle.snapshots.specs.View.{SnapshotView, all_blocks, block_of, is_at, leaf_at, objects_at, place_in}
use Rattle.snapshots.specs.View.{present_block, rank_in, tree_in}
use Rattle.snapshots.specs.Sound.{IsBlock, IsSnapshot}
use Rattle.snapshots.specs.Objects.{objects_of_leaves, passing_blocks, wanted_blocks, WeighSame}
use Rattle.snapshots.specs.declared.anchored.Anchored.{Anchored}
use Rattle.snapshots.proofs.BlockLemmas.{leaf_known, rank_in-within}
use Rattle.snapshots.proofs.BlocksLemmas.{index_at-place_in}

-- a bit that is 1 is read
read_one : (bits : List Bool) (place : ℕ) → slice_index_or bits place false ≡ true → slice_get bits place ≡ Some true
read_one [] place on = absurd (false≢true on)
read_one (bit ∷ bits) zero on = ap Some on
read_one (bit ∷ bits) (suc place) on = read_one bits place on

-- an object that has a block is present, and the block is that of a present object
pub present_block-is : (view : SnapshotView) (index : ℕ) (block : Anchored) → block_of view index ≡ Some block
    → (slice_index_or view.parts.present index false ≡ true) × (present_block view index ≡ block)
present_block-is view index block has = elim (cases_Bool (slice_index_or view.parts.present index false)) [
  | inl on ↦
      let same : Some (present_block view index) ≡ Some block = rw on at has in
      (on, same_Some (present_block view index) block same)
  | inr off ↦
      let none : None ≡ Some block = rw off at has in
      absurd (none-some block none)
]

module _ (view : SnapshotView) (is : IsSnapshot view) where
  -- the block of a present object
  IsBlock-present : (index : ℕ) → slice_index_or view.parts.present index false ≡ true
      → IsBlock view (present_block view index)
  IsBlock-present index on =
      let here = read_one view.parts.present index on in
      let rank : ℕ = rank_in view index in
      let within : rank < length view.parts.perm = rank_in-within view index is here in
      let stands = index_at-place_in view index is
      (omega (arith, slice_get_within view.parts.present index true here, is.shaped.presence)) on in
      let log = sum_by_more_le (λ x. x) view.parts.lengths rank 0
      (omega (arith, is.shaped.perm, is.shaped.lengths)) in
      record {
        its = rw on refl;
        present = here;
        offset = All-get_or (λ x. x < instants_in view.frame view.number) view.parts.offsets rank 0
            (omega (arith, is.shaped.perm, is.shaped.offsets)) is.sound.offsets;
        cell = All-get_or (IsInGrid view.frame.height view.frame.base) (tree_in view).cells
            (leaf_at view (place_in view index)) view.frame.base
            (leaf_known view (place_in view index) is stands.0) is.sound.tree.is_tree.inside;
        from = omega arith;
        to = omega (arith, log);
      }

  -- the block that an object has
  pub IsBlock-from_block_of : (index : ℕ) (block : Anchored) → block_of view index ≡ Some block → IsBlock view block
  IsBlock-from_block_of index block has =
      let same = present_block-is view index block has in
      subst (IsBlock view) same.1 (IsBlock-present index same.0)

  -- all blocks of the period
  pub All-all_blocks : All (IsBlock view) (all_blocks view)
  unfolding all_blocks
  All-all_blocks =
      All-filter_map (IsBlock view) (block_of view) (range_with_len 0 view.objects) IsBlock-from_block_of

  -- the blocks of a leaf
  pub All-objects_at : (leaf : ℕ) → All (IsBlock view) (objects_at view leaf)
  All-objects_at leaf =
      let indices : List ℕ = range_with_len 0 view.objects in
      All-map (IsBlock view) (present_block view) (filter (is_at view leaf) indices)
      (All-weaker (λ index. is_at view leaf index ≡ true) (λ index. IsBlock view (present_block view index))
      (λ index at. IsBlock-present index (and_parts _ _ at).0) (filter (is_at view leaf) indices)
      (filter_passes (is_at view leaf) indices))

  -- and those of leaves
  pub All-objects_of_leaves : (leaves : List (ℕ × Cell)) → All (IsBlock view) (objects_of_leaves view leaves)
  All-objects_of_leaves leaves =
      All-flat_map (IsBlock view) (λ leaf. objects_at view leaf.0) leaves
      (λ k d within. All-objects_at (get_or leaves k d).0)

  -- the blocks of a leaf are in its cell
  pub objects_at-cell : (leaf : ℕ) (cell : Cell) → slice_get (tree_in view).cells leaf ≡ Some cell
      → All (λ block. block.cell ≡ cell) (objects_at view leaf)
  objects_at-cell leaf cell known =
      let indices : List ℕ = range_with_len 0 view.objects in
      All-map (λ (block : Anchored). block.cell ≡ cell) (present_block view) (filter (is_at view leaf) indices)
      (All-weaker (λ index. is_at view leaf index ≡ true) (λ index. (present_block view index).cell ≡ cell)
      (λ index at.
      ap (λ l. slice_index_or (tree_in view).cells l view.frame.base)
      (eqb-true (leaf_at view (place_in view index)) leaf (and_parts _ _ at).1)
      ∙ get_or_from_slice_get (tree_in view).cells leaf cell view.frame.base known)
      (filter (is_at view leaf) indices) (filter_passes (is_at view leaf) indices))

  -- and ascend by object
  pub objects_at-order : (leaf : ℕ) → IsStrictlyIncreasing (map (λ block. block.index) (objects_at view leaf))
  objects_at-order leaf =
      let kept : List ℕ = filter (is_at view leaf) (range_with_len 0 view.objects) in
      subst IsStrictlyIncreasing
      (sym (map-map (λ (block : Anchored). block.index) (present_block view) kept ∙ map-id kept))
      (IsStrictlyIncreasing-filter (is_at view leaf) (range_with_len 0 view.objects)
      (λ k within.
      let long = length-range_with_len 0 view.objects in
      omega (
        arith,
        get_or-range_with_len 0 view.objects k 0 (omega (arith, long)),
        get_or-range_with_len 0 view.objects (k + 1) 0 (omega (arith, long)),
      )))

-- a leaf that passes gives a block what it weighs, where the block is the leaf's
abbrev share : SnapshotView → (Cell → Bool) → (Anchored → ℕ) → ℕ × Cell → ℕ → ℕ
share view passes weight leaf index =
    if passes leaf.1 then (if is_at view leaf.0 index then weight (present_block view index) else 0) else 0

-- what a block weighs, where its cell passes
abbrev weighed : (Cell → Bool) → (Anchored → ℕ) → Anchored → ℕ
weighed passes weight block = if passes block.cell then weight block else 0

-- the leaves that pass give each block of the period what it weighs, if its cell passes, and no other
shared : (view : SnapshotView) (passes : Cell → Bool) (weight : Anchored → ℕ) (index : ℕ) → IsSnapshot view
    → index < view.objects
    → sum_by (λ leaf. share view passes weight leaf index) (leaves_of (tree_in view))
    ≡ made_weight (weighed passes weight) (block_of view index)
shared view passes weight index is within = elim (cases_Bool (slice_index_or view.parts.present index false)) [
  | inl on ↦
      let stands = index_at-place_in view index is within on in
      let place : ℕ = leaf_at view (place_in view index) in
      let leaf = leaf_known view (place_in view index) is stands.0 in
      let value : ℕ = weight (present_block view index) in
      let all = sum_by-weight_at passes place value 0 (tree_in view).cells view.frame.base (omega arith) (omega arith)
      in
      let from_zero : place - 0 ≡ place = omega arith in
      let its = ap (λ p. if passes (slice_index_or (tree_in view).cells p view.frame.base) then value else 0) from_zero
      in
      rw on (all ∙ its)
  | inr off ↦
      let none : (leaf : ℕ × Cell) → share view passes weight leaf index ≡ 0 =
      λ leaf. elim (cases_Bool (passes leaf.1)) [
        | inl passed ↦ rw (passed, off) refl
        | inr failed ↦ rw failed refl
      ] in
      sum_by-agree (λ leaf. share view passes weight leaf index) (λ _. 0) none (leaves_of (tree_in view))
      ∙ sum_by-zeros (leaves_of (tree_in view)) ∙ (rw off refl)
]

-- the blocks of leaves that pass weigh what all blocks of the period weigh whose cells pass
pub WeighSame-objects_of_leaves : (view : SnapshotView) (keep : CellBox → Bool) → IsSnapshot view
    → WeighSame (objects_of_leaves view (kept_leaves keep (tree_in view))) (passing_blocks keep view)
unfolding WeighSame passing_blocks all_blocks
WeighSame-objects_of_leaves view keep is = λ weight.
    let passes : Cell → Bool = passes_at keep (tree_in view) in
    let leaves : List (ℕ × Cell) = leaves_of (tree_in view) in
    let indices : List ℕ = range_with_len 0 view.objects in
    let one : (leaf : ℕ × Cell) → (if passes leaf.1 then sum_by weight (objects_at view leaf.0) else 0)
    ≡ sum_by (share view passes weight leaf) indices =
    λ leaf. elim (cases_Bool (passes leaf.1)) [
      | inl passed ↦ rw passed
          (sum_by-map weight (present_block view) (filter (is_at view leaf.0) indices)
          ∙ sum_by-filter (λ index. weight (present_block view index)) (is_at view leaf.0) indices)
      | inr failed ↦ rw failed (sym (sum_by-zeros indices))
    ] in
    sum_by-flat_map weight (λ leaf. objects_at view leaf.0) (kept_leaves keep (tree_in view))
    ∙ sum_by-filter (λ leaf. sum_by weight (objects_at view leaf.0)) (λ leaf. passes leaf.1) leaves
    ∙ sum_by-agree (λ leaf. if passes leaf.1 then sum_by weight (objects_at view leaf.0) else 0)
    (λ leaf. sum_by (share view passes weight leaf) indices) one leaves
    ∙ sum_by-swap (share view passes weight) leaves indices
    ∙ sum_by-range_agree (λ index. sum_by (λ leaf. share view passes weight leaf index) leaves)
    (λ index. made_weight (weighed passes weight) (block_of view index)) 0 view.objects
    (λ index low within. shared view passes weight index is (omega arith))
    ∙ sym (sum_by-filter weight (λ block. passes block.cell) (filter_map (block_of view) indices)
    ∙ sum_by-filter_map (weighed passes weight) (block_of view) indices)

-- where a test keeps all that is wanted, no wanted block is lost
pub WeighSame-wanted : (view : SnapshotView) (keep : CellBox → Bool) (wanted : Cell → Bool) (blocks : List Anchored)
    → IsSnapshot view → IsKeptFor keep wanted → WeighSame blocks (passing_blocks keep view)
    → WeighSame (wanted_blocks wanted blocks) (wanted_blocks wanted (all_blocks view))
unfolding WeighSame passing_blocks
WeighSame-wanted view keep wanted blocks is only same = λ weight.
    let passes : Cell → Bool = passes_at keep (tree_in view) in
    let all : List Anchored = all_blocks view in
    let each : All (λ block. wanted block.cell ≡ true → passes block.cell ≡ true) all =
    All-weaker (IsBlock view) (λ block. wanted block.cell ≡ true → passes block.cell ≡ true)
    (λ block its. passes-wanted keep wanted (tree_in view) is.sound.tree.is_tree only block.cell its.cell)
    all (All-all_blocks view is) in
    sum_by-filter weight (λ block. wanted block.cell) blocks
    ∙ same (weighed wanted weight)
    ∙ sym (sum_by-filter weight (λ block. wanted block.cell) (filter (λ block. passes block.cell) all))
    ∙ ap (sum_by weight) (filter_implied (λ block. wanted block.cell) (λ block. passes block.cell) all each)
