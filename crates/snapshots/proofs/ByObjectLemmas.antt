-- The blocks of a period by object, and where each of them stands in leaf order.
use Rattle.std.proofs.Common.{◌≡◌, ◌≢◌, ℕ, zero, suc, ◌+◌, ◌*◌, ◌<◌, ◌≤◌, Bool, true, false, List, [], ◌∷◌, ◌++◌, length, get_or, set, map, Option, None, Some, inl, inr, refl, ap, sym, ◌∙◌, arith, subst}
use Rattle.std.specs.Prelude.{slice_index, slice_index_or}
use Rattle.std.specs.List.{cons_option, filter_map, range_with_len, sum_by}
use Rattle.std.proofs.lemmas.Bool.{cases_Bool, cases_lt}
use Rattle.std.proofs.lemmas.List.{append-nil, same_lists, get_or-map, get_or-set_same, get_or-set_other, length-map, length-set, map-append}
use Rattle.std.proofs.lemmas.List.Sums.{sum_by-cons}
use Rattle.std.proofs.lemmas.List.FromFn.{get_or-map-range_with_len}
use Rattle.std.proofs.lemmas.Option.{slice_get-get_or}
use Rattle.list_laws.proofs.RangeLemmas.{filter_map-range_more}
use Rattle.bit_rank.specs.Bits.{rank_of, select_of}
use Rattle.bit_rank.specs.Cost.{window_reads}
use Rattle.bit_rank.proofs.RankLemmas.{rank_of-all}
use Rattle.object_perm.specs.Permutation.{inverse_of, PermutesPlaces}
use Rattle.object_perm.proofs.InverseLemmas.{at-inverse_of}
use Rattle.object_perm.proofs.OntoLemmas.{inverse_of-within}
use Rattle.k2_tree.specs.TreeSquares.{squares_of}
use Rattle.snapshots.specs.IndexCost.{blocks_reads}
use Rattle.snapshots.specs.Cost.{block_reads}
use Rattle.snapshots.specs.Found.{ArePut}
use Rattle.snapshots.specs.Objects.{WeighSame}
use Rattle.snapshots.specs.Ones.{first_ones}
use Rattle.snapshots.specs.Sound.{IsSnapshot}
use Rattle.snapshots.specs.Tracks.{blocks_by_leaf}
use Rattle.snapshots.specs.View.{SnapshotView, all_blocks, block_at, block_of, present_block, tree_in}
use Rattle.snapshots.specs.declared.anchored.Anchored.{Anchored}
use Rattle.snapshots.proofs.BlockFactsLemmas.{present_block-is}
use Rattle.snapshots.proofs.BlocksLemmas.{block_back}
use Rattle.snapshots.proofs.OnesLemmas.{first_ones-at, first_ones-begin, first_ones-here, first_ones-none, length-first_ones}

-- what is made of the places of ones alone
module _ {X : Type 0} (make : ℕ → Option X) (f : ℕ → X) (bits : List Bool)
    (ones : (i : ℕ) → slice_index_or bits i false ≡ true → make i ≡ Some (f i))
    (zeros : (i : ℕ) → slice_index_or bits i false ≡ false → make i ≡ None) where
  made_of_ones : (n : ℕ) → n ≤ length bits → filter_map make (range_with_len 0 n) ≡ map f (first_ones bits (rank_of bits n))
  made_of_ones zero short = ap (map f) (sym (first_ones-begin bits))
  made_of_ones (suc n) short =
      let next : suc n ≡ n + 1 = omega arith in
      let inside : n < length bits = omega arith in
      let so_far : List ℕ = first_ones bits (rank_of bits n) in
      let step : filter_map make (range_with_len 0 (suc n)) ≡ map f so_far ++ cons_option (make n) [] =
      ap (λ k. filter_map make (range_with_len 0 k)) next ∙ filter_map-range_more make n
      ∙ ap (λ xs. xs ++ cons_option (make n) []) (made_of_ones n (omega arith)) in
      let back : map f (first_ones bits (rank_of bits (n + 1))) ≡ map f (first_ones bits (rank_of bits (suc n))) =
      ap (λ k. map f (first_ones bits (rank_of bits k))) (sym next) in
      elim (cases_Bool (slice_index_or bits n false)) [
        | inl on ↦
            step ∙ ap (λ y. map f so_far ++ cons_option y []) (ones n on) ∙ sym (map-append f so_far (n ∷ []))
            ∙ ap (map f) (sym (first_ones-here bits n inside (slice_get-get_or bits n false inside ∙ ap Some on))) ∙ back
        | inr off ↦
            step ∙ ap (λ y. map f so_far ++ cons_option y []) (zeros n off) ∙ append-nil (map f so_far)
            ∙ ap (map f) (sym (first_ones-none bits n inside (slice_get-get_or bits n false inside ∙ ap Some off))) ∙ back
      ]

module _ (view : SnapshotView) (is : IsSnapshot view) where
  -- the blocks by object are those of the present ones
  all_blocks-present : all_blocks view ≡ map (present_block view) (first_ones view.parts.present (length view.parts.perm))
  unfolding all_blocks
  all_blocks-present =
      made_of_ones (block_of view) (present_block view) view.parts.present (λ i on. rw on refl) (λ i off. rw off refl)
      view.objects (omega (arith, is.shaped.presence))
      ∙ ap (λ n. map (present_block view) (first_ones view.parts.present n))
      (rank_of-all view.parts.present view.objects (omega (arith, is.shaped.presence)) ∙ sym is.shaped.perm)

  pub length-all_blocks : length (all_blocks view) ≡ length view.parts.perm
  length-all_blocks =
      ap length all_blocks-present
      ∙ length-map (first_ones view.parts.present (length view.parts.perm)) (present_block view)
      ∙ length-first_ones view.parts.present (length view.parts.perm)

  -- the block at a place by object
  pub all_blocks-at : (rank : ℕ) (d : Anchored) → rank < length view.parts.perm
      → get_or (all_blocks view) rank d ≡ present_block view (select_of view.parts.present (rank + 1))
  all_blocks-at rank d within =
      let count : ℕ = length view.parts.perm in
      let long = length-first_ones view.parts.present count in
      ap (λ (xs : List Anchored). get_or xs rank d) all_blocks-present
      ∙ get_or-map (present_block view) (first_ones view.parts.present count) rank 0 d (omega (arith, long))
      ∙ ap (present_block view) (first_ones-at view.parts.present count rank 0 within)

  -- it is the one at its place in leaf order
  pub all_blocks-placed : (place : ℕ) (d : Anchored) → place < length view.parts.perm
      → get_or (all_blocks view) (slice_index view.parts.perm place) d ≡ block_at view place
  all_blocks-placed place d within =
      all_blocks-at (slice_index view.parts.perm place) d (is.sound.permutes.within place within)
      ∙ sym (block_back view place is within)

  -- once all blocks are put to their places by object, the table has them by object
  pub put-all : (table : List Anchored) → ArePut view.parts.perm (blocks_by_leaf view) (length view.parts.perm) table
      → table ≡ all_blocks view
  put-all table are =
      same_lists table (all_blocks view) (are.long ∙ sym length-all_blocks) (λ rank d within.
      let perm : List ℕ = view.parts.perm in
      let place : ℕ = inverse_of perm rank in
      let inside : place < length perm = inverse_of-within perm rank is.sound.permutes (omega (arith, are.long)) in
      let stands : slice_index perm place ≡ rank = at-inverse_of perm rank inside in
      ap (λ r. get_or table r d) (sym stands) ∙ are.put place d inside
      ∙ get_or-map-range_with_len (block_at view) 0 (length perm) place place d inside (omega arith)
      ∙ sym (all_blocks-placed place d inside) ∙ ap (λ r. get_or (all_blocks view) r d) stands)

-- blocks that are put to places which are all different
module _ (places : List ℕ) (blocks : List Anchored) where
  pub put-none : (table : List Anchored) → length table ≡ length places → ArePut places blocks 0 table
  put-none table same = record { long = same; put = λ k d below. absurd (omega arith) }

  pub put-more : (table : List Anchored) (count : ℕ) (block : Anchored) → ArePut places blocks count table
      → PermutesPlaces places → count < length places → ((d : Anchored) → block ≡ get_or blocks count d)
      → ArePut places blocks (count + 1) (set table (slice_index places count) block)
  put-more table count block are permutes within its =
      let there : ℕ = slice_index places count in
      let inside : there < length table = omega (arith, are.long, permutes.within count within) in
      record {
        long = length-set table there block ∙ are.long;
        put = λ k d below. elim (cases_lt k count) [
          | inl earlier ↦
              let apart : slice_index places k ≢ there =
              λ same. (let one = permutes.apart k count (omega arith) within same in absurd (omega (arith, one))) in
              get_or-set_other table there (slice_index places k) block d apart ∙ are.put k d earlier
          | inr last ↦
              let same : count ≡ k = omega arith in
              subst (λ n. get_or (set table there block) (slice_index places n) d ≡ get_or blocks n d) same
              (get_or-set_same table there block d inside ∙ its d)
        ];
      }

-- there are as many of them
pub length-weighed : (xs ys : List Anchored) → WeighSame xs ys → length xs ≡ length ys
unfolding WeighSame
length-weighed xs ys same = sym (ones xs) ∙ same (λ _. 1) ∙ ones ys
  where
    ones : (zs : List Anchored) → sum_by (λ _. 1) zs ≡ length zs
    ones [] = refl
    ones (z ∷ zs) = omega (arith, ones zs, sum_by-cons (λ _. 1) z zs)

-- the block of an object is its own
pub index-from_block_of : (view : SnapshotView) (index : ℕ) (block : Anchored) → block_of view index ≡ Some block
    → block.index ≡ index
index-from_block_of view index block has =
    sym (ap (λ (b : Anchored). b.index) (present_block-is view index block has).1)

-- the reads of a list of all cells, and of all blocks
pub blocks_reads-listed : (view : SnapshotView) (steps before : ℕ) → IsSnapshot view
    → steps ≤ before + (window_reads * length (squares_of (tree_in view)) + block_reads * length view.parts.perm)
    → steps ≤ before + blocks_reads view
unfolding blocks_reads
blocks_reads-listed view steps before is reads = omega (arith, reads, length-all_blocks view is)
