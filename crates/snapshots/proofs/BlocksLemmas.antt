-- The blocks of a snapshot: one at each place in leaf order, and those of a leaf are its objects', by object.
use Rattle.std.proofs.Common.{◌≡◌, ℕ, ◌+◌, ◌<◌, true, false, List, [], ◌∷◌, ◌++◌, length}
use Rattle.std.proofs.Common.{map, filter, refl, sym, ap, ◌∙◌, arith}
use Rattle.std.specs.List.{range_with_len}
use Rattle.std.specs.Prelude.{◌==◌, Some, slice_get, slice_index, slice_index_or}
use Rattle.std.specs.Cmp.{both_ways}
use Rattle.std.proofs.lemmas.Bool.{and_from, and_parts, eq-eqb, eqb-true}
use Rattle.std.proofs.lemmas.List.{map-id}
use Rattle.std.proofs.lemmas.Option.{get_or_from_slice_get, slice_get-get_or, slice_get_within}
use Rattle.list_laws.proofs.RangeLemmas.{map-filter_range}
use Rattle.bit_rank.specs.Bits.{IsSelected, select_of}
use Rattle.bit_rank.proofs.RankLemmas.{lt-from_rank_of, IsSelected-select_of}
use Rattle.bit_rank.proofs.RankLemmas.{select_of-from_IsSelected}
use Rattle.object_perm.specs.Permutation.{inverse_of}
use Rattle.object_perm.proofs.InverseLemmas.{at-inverse_of, inverse_of-at}
use Rattle.object_perm.proofs.OntoLemmas.{inverse_of-within}
use Rattle.k2_tree.specs.TreeBits.{is_in, Rises}
use Rattle.k2_tree.proofs.RisingLemmas.{same_from_rising}
use Rattle.track_types.specs.declared.cell.Cell.{Cell}
use Rattle.snapshots.specs.View.{SnapshotView, block_at, block_of, block_with, blocks_in, is_at, leaf_at, objects_at}
use Rattle.snapshots.specs.View.{place_in, places_from, present_block, rank_in, IsPlaced}
use Rattle.snapshots.specs.Objects.{blocks_of, objects_of_leaves}
use Rattle.snapshots.specs.Sound.{IsSnapshot}
use Rattle.snapshots.proofs.BlockLemmas.{block_found, rank_within}
use Rattle.snapshots.proofs.ChosenLemmas.{in-from_made, IsMade-from_in, Rises-made}

-- the object at a place in leaf order
abbrev pub index_at : SnapshotView → ℕ → ℕ
index_at view place = select_of view.parts.present (slice_index view.parts.perm place + 1)

-- the objects of a leaf, in leaf order
abbrev pub indices_in : SnapshotView → ℕ → List ℕ
indices_in view leaf = map (index_at view) (places_from view leaf 0 (length view.parts.perm))

-- the object at a place is the present one of the rank that stands there
selected_at : (view : SnapshotView) (place : ℕ) → IsSnapshot view → place < length view.parts.perm
    → IsSelected view.parts.present (slice_index view.parts.perm place + 1) (index_at view place)
selected_at view place is within =
    let below = is.sound.permutes.within place within in
    IsSelected-select_of view.parts.present (slice_index view.parts.perm place + 1) (omega arith)
    (omega (arith, below, is.shaped.perm))

rank_at : (view : SnapshotView) (place : ℕ) → IsSnapshot view → place < length view.parts.perm
    → rank_in view (index_at view place) ≡ slice_index view.parts.perm place
rank_at view place is within = omega (arith, (selected_at view place is within).rank)

-- and its place is this one
place_back : (view : SnapshotView) (place : ℕ) → IsSnapshot view → place < length view.parts.perm
    → place_in view (index_at view place) ≡ place
place_back view place is within =
    ap (inverse_of view.parts.perm) (rank_at view place is within)
    ∙ inverse_of-at view.parts.perm place (slice_index view.parts.perm place) is.sound.permutes within refl

-- so the block at a place is the block of the object there
pub block_back : (view : SnapshotView) (place : ℕ) → IsSnapshot view → place < length view.parts.perm
    → block_at view place ≡ present_block view (index_at view place)
block_back view place is within =
    let index : ℕ = index_at view place in
    sym (ap (λ rank. block_with view index rank (place_in view index)) (rank_at view place is within)
    ∙ ap (block_with view index (slice_index view.parts.perm place)) (place_back view place is within))

-- the block at a place is the one that its object has
pub block_at-is_block : (view : SnapshotView) (place : ℕ) → IsSnapshot view → place < length view.parts.perm
    → block_of view (block_at view place).index ≡ Some (block_at view place)
block_at-is_block view place is within =
    sym (block_found view (index_at view place) (block_at view place) (selected_at view place is within).one
    (block_back view place is within))

-- the objects of a leaf ascend
pub Rises-indices_in : (view : SnapshotView) (leaf : ℕ) → IsSnapshot view → Rises 0 (indices_in view leaf)
Rises-indices_in view leaf is =
    Rises-made (index_at view) (λ place. leaf_at view place == leaf) 0 (length view.parts.perm) 0
    (λ p from to passes. omega arith) (grows is)
  where
    grows : IsSnapshot view → (p q : ℕ) → p < q → q < 0 + length view.parts.perm → (leaf_at view p == leaf) ≡ true
        → (leaf_at view q == leaf) ≡ true → index_at view p < index_at view q
    grows is p q less within p_here q_here =
        let p_leaf = eqb-true (leaf_at view p) leaf p_here in
        let q_leaf = eqb-true (leaf_at view q) leaf q_here in
        let up = is.sound.order p q less (omega arith) (p_leaf ∙ sym q_leaf) in
        let p_rank = rank_at view p is (omega arith) in
        let q_rank = rank_at view q is (omega arith) in
        lt-from_rank_of view.parts.present (index_at view p) (index_at view q) (omega arith)

-- the object at a place of the leaf is one of the leaf
pub index_at-is_at : (view : SnapshotView) (leaf place : ℕ) → IsSnapshot view → place < length view.parts.perm
    → leaf_at view place ≡ leaf → (index_at view place < view.objects) × (is_at view leaf (index_at view place) ≡ true)
index_at-is_at view leaf place is within here =
    let selected = selected_at view place is within in
    let inside = slice_get_within view.parts.present (index_at view place) true selected.one in
    let there : leaf_at view (place_in view (index_at view place)) ≡ leaf =
    ap (leaf_at view) (place_back view place is within) ∙ here in (
      omega (arith, inside, is.shaped.presence),
      and_from _ _ (get_or_from_slice_get view.parts.present (index_at view place) true false selected.one)
          (eq-eqb (leaf_at view (place_in view (index_at view place))) leaf there),
    )

-- a present object has a place, and is the one there
pub index_at-place_in : (view : SnapshotView) (index : ℕ) → IsSnapshot view → index < view.objects
    → slice_index_or view.parts.present index false ≡ true
    → (place_in view index < length view.parts.perm) × (index_at view (place_in view index) ≡ index)
index_at-place_in view index is within on =
    let inside : index < length view.parts.present = omega (arith, is.shaped.presence) in
    let read = slice_get-get_or view.parts.present index false inside ∙ ap Some on in
    let rank : rank_in view index < length view.parts.perm =
    omega (arith, is.shaped.perm, rank_within view.parts.present index read inside) in
    let place = inverse_of-within view.parts.perm (rank_in view index) is.sound.permutes rank in
    let stands = at-inverse_of view.parts.perm (rank_in view index) place in (
      place,
      ap (λ rank. select_of view.parts.present (rank + 1)) stands
          ∙ select_of-from_IsSelected view.parts.present (rank_in view index + 1) index
          (record { one = read; rank = refl }),
    )

-- so its block is the one at its place
pub IsPlaced-present : (view : SnapshotView) (index : ℕ) → IsSnapshot view → slice_get view.parts.present index ≡ Some true
    → IsPlaced view index (place_in view index) (rank_in view index)
IsPlaced-present view index is present =
    let inside = slice_get_within view.parts.present index true present in
    let on = get_or_from_slice_get view.parts.present index true false present in
    let at = index_at-place_in view index is (omega (arith, inside, is.shaped.presence)) on in
    let stands = at-inverse_of view.parts.perm (rank_in view index) at.0 in
    record {
      within = at.0;
      ranked = sym stands;
      selected = sym at.1 ∙ ap (λ rank. select_of view.parts.present (rank + 1)) stands;
      block = sym (block_found view index (block_at view (place_in view index)) present
          (block_back view (place_in view index) is at.0 ∙ ap (present_block view) at.1));
    }

-- the objects of a leaf in leaf order are those in order that are in it
pub indices_in-by_object : (view : SnapshotView) (leaf : ℕ) → IsSnapshot view
    → indices_in view leaf ≡ filter (is_at view leaf) (range_with_len 0 view.objects)
indices_in-by_object view leaf is =
    same_from_rising 0 (indices_in view leaf) (map (λ index. index) kept) (Rises-indices_in view leaf is)
    (Rises-made (λ index. index) (is_at view leaf) 0 view.objects 0 (λ p from to passes. omega arith)
    (λ p q less to p_passes q_passes. less))
    (λ c. both_ways (is_in (indices_in view leaf) c) (is_in (map (λ index. index) kept) c) (to c) (from c))
    ∙ map-id kept
  where
    kept : List ℕ
    kept = filter (is_at view leaf) (range_with_len 0 view.objects)

    to : (c : ℕ) → is_in (indices_in view leaf) c ≡ true → is_in (map (λ index. index) kept) c ≡ true
    to c found =
        let made =
        IsMade-from_in (index_at view) (λ place. leaf_at view place == leaf) 0 (length view.parts.perm) c found in
        let at = index_at-is_at view leaf made.place is (omega (arith, made.to))
        (eqb-true (leaf_at view made.place) leaf made.passes) in
        let there =
        in-from_made (λ index. index) (is_at view leaf) 0 view.objects (index_at view made.place) (omega arith)
        (omega (arith, at.0)) at.1 in
        ap (λ i. is_in (map (λ index. index) kept) i) (sym made.stands) ∙ there

    from : (c : ℕ) → is_in (map (λ index. index) kept) c ≡ true → is_in (indices_in view leaf) c ≡ true
    from c found =
        let made = IsMade-from_in (λ index. index) (is_at view leaf) 0 view.objects c found in
        let both = and_parts _ _ made.passes in
        let at = index_at-place_in view made.place is (omega (arith, made.to)) both.0 in
        let there = in-from_made (index_at view) (λ place. leaf_at view place == leaf) 0 (length view.parts.perm)
        (place_in view made.place) (omega arith) (omega (arith, at.0)) both.1 in
        ap (λ i. is_in (indices_in view leaf) i) (sym (at.1 ∙ made.stands)) ∙ there

-- the blocks of a leaf are those of its objects, by object
pub blocks_in-by_object : (view : SnapshotView) (leaf : ℕ) → IsSnapshot view
    → blocks_in view leaf ≡ objects_at view leaf
blocks_in-by_object view leaf is =
    map-filter_range (block_at view) (present_block view) (index_at view) (λ place. leaf_at view place == leaf) 0
    (length view.parts.perm) (λ place within. block_back view place is (omega arith))
    ∙ ap (map (present_block view)) (indices_in-by_object view leaf is)

-- so are the blocks of leaves, leaf by leaf
pub blocks_of-objects : (view : SnapshotView) (leaves : List (ℕ × Cell)) → IsSnapshot view
    → blocks_of view leaves ≡ objects_of_leaves view leaves
blocks_of-objects view [] is = refl
blocks_of-objects view (leaf ∷ leaves) is =
    ap (λ blocks. blocks ++ blocks_of view leaves) (blocks_in-by_object view leaf.0 is)
    ∙ ap (λ blocks. objects_at view leaf.0 ++ blocks) (blocks_of-objects view leaves is)
