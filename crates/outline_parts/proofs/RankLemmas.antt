-- The blocks of a snapshot, one for each present object: what is taken of each of them goes by their ranks.
use Rattle.std.proofs.Common.{◌≡◌, ℕ, zero, suc, ◌+◌, ◌<◌, ◌≤◌, ◌==◌, Bool, true, false, cond, List, ◌∷◌, length, filter, get_or, map, None, Some, Option}
use Rattle.std.proofs.Common.{refl, sym, ap, ◌∙◌, arith, inl, inr}
use Rattle.std.specs.Prelude.{if◌then◌else◌, slice_index_or}
use Rattle.std.specs.List.{filter_map, list_any, range_with_len}
use Rattle.std.proofs.lemmas.Bool.{cases_Bool, eq-eqb, ne_eqb}
use Rattle.std.proofs.lemmas.List.{get_or_default, same_lists}
use Rattle.std.proofs.lemmas.List.Elements.{All-contains}
use Rattle.std.proofs.lemmas.List.Folds.{list_any_at}
use Rattle.std.proofs.lemmas.List.FromFn.{get_or-map-range_with_len, length-map-range_with_len}
use Rattle.std.proofs.lemmas.Option.{get_or_from_slice_get}
use Rattle.list_laws.proofs.MemberLemmas.{list_any-none}
use Rattle.list_laws.proofs.PieceLemmas.{Contains-filter_map}
use Rattle.packed_bits.specs.Bits.{ones_of}
use Rattle.bit_rank.specs.Bits.{rank_of}
use Rattle.bit_rank.proofs.RankLemmas.{ones_of-map, rank_of-step, rank_of-zero}
use Rattle.object_perm.specs.Permutation.{inverse_of}
use Rattle.snapshots.specs.Sound.{IsBlock, IsSnapshot}
use Rattle.snapshots.specs.View.{SnapshotView, all_blocks, block_of, block_with, present_block}
use Rattle.snapshots.specs.declared.anchored.Anchored.{Anchored}
use Rattle.snapshots.proofs.BlockFactsLemmas.{All-all_blocks}
use Rattle.outline_parts.proofs.KeyBitLemmas.{Contains-range}

-- what is read of a list at each of its places
pub map-places : {X : Type 0} (xs : List X) (d : X) (n : ℕ) → length xs ≡ n → map (λ k. get_or xs k d) (range_with_len 0 n) ≡ xs
map-places xs d n long =
    same_lists (map (λ k. get_or xs k d) (range_with_len 0 n)) xs (length-map-range_with_len (λ k. get_or xs k d) 0 n ∙ sym long)
    (λ k e within.
    let few = length-map-range_with_len (λ j. get_or xs j d) 0 n in
    get_or-map-range_with_len (λ j. get_or xs j d) 0 n k k e (omega arith) (omega arith)
    ∙ get_or_default xs k d e (omega arith))

-- numbers that pass a test, each with its rank
module _ {X Y : Type 0} (make : ℕ → ℕ → X) (test : ℕ → Bool) (rank : ℕ → ℕ) (part : X → Y) (own : ℕ → Y)
    (part-is : (i r : ℕ) → part (make i r) ≡ own r) where
  abbrev pub made_if : ℕ → Option X
  made_if i = if test i then Some (make i (rank i)) else None

  by-rank : (first n : ℕ) → ((i : ℕ) → first ≤ i → i < first + n → rank (i + 1) ≡ rank i + cond (test i) 1 0) →
      map part (filter_map made_if (range_with_len first n))
      ≡ map own (range_with_len (rank first) (length (filter test (range_with_len first n))))
  by-rank first zero step = refl
  by-rank first (suc n) step =
      let rest = by-rank (first + 1) n (λ i low high. step i (omega arith) (omega arith)) in
      let next = step first (omega arith) (omega arith) in
      elim (cases_Bool (test first)) [
        | inl on ↦
            let up : rank (first + 1) ≡ rank first + 1 = next ∙ ap (λ b. rank first + cond b 1 0) on in
            rw on (ap (λ y. y ∷ map part (filter_map made_if (range_with_len (first + 1) n))) (part-is first (rank first))
            ∙ ap (λ ys. own (rank first) ∷ ys) rest
            ∙ ap (λ r. own (rank first) ∷ map own (range_with_len r (length (filter test (range_with_len (first + 1) n))))) up)
        | inr off ↦
            let same : rank (first + 1) ≡ rank first = next ∙ ap (λ b. rank first + cond b 1 0) off ∙ omega arith in
            rw off (rest ∙ ap (λ r. map own (range_with_len r (length (filter test (range_with_len (first + 1) n))))) same)
      ]

module _ (view : SnapshotView) (is : IsSnapshot view) where
  -- what is taken of each block, where that follows from its rank
  pub blocks-by_rank : {Y : Type 0} (part : Anchored → Y) (own : ℕ → Y) →
      ((i r : ℕ) → part (block_with view i r (inverse_of view.parts.perm r)) ≡ own r) →
      map part (all_blocks view) ≡ map own (range_with_len 0 (ones_of view.parts.present))
  unfolding all_blocks
  blocks-by_rank part own part-is =
      let test : ℕ → Bool = λ i. slice_index_or view.parts.present i false in
      let rank : ℕ → ℕ = λ i. rank_of view.parts.present i in
      let long : length view.parts.present ≡ view.objects = is.shaped.presence in
      let all : ones_of view.parts.present ≡ length (filter test (range_with_len 0 view.objects)) =
      ap ones_of (sym (map-places view.parts.present false view.objects long)) ∙ ones_of-map test (range_with_len 0 view.objects) in
      by-rank (λ i r. block_with view i r (inverse_of view.parts.perm r)) test rank part own part-is 0 view.objects
      (λ i low high. rank_of-step view.parts.present i (omega arith))
      ∙ ap (λ r. map own (range_with_len r (length (filter test (range_with_len 0 view.objects))))) (rank_of-zero view.parts.present)
      ∙ ap (λ n. map own (range_with_len 0 n)) (sym all)

  -- an object is present if and only if one of the blocks is its
  pub any-block : (i : ℕ) → i < view.objects →
      list_any (λ (block : Anchored). block.index == i) (all_blocks view) ≡ slice_index_or view.parts.present i false
  unfolding all_blocks
  any-block i within = elim (cases_Bool (slice_index_or view.parts.present i false)) [
    | inl on ↦
        let has : block_of view i ≡ Some (present_block view i) = rw on refl in
        let there = Contains-filter_map (block_of view) (range_with_len 0 view.objects) i (present_block view i)
        (Contains-range 0 view.objects i (omega arith) (omega arith)) has in
        let at = there.2 in
        list_any_at (λ (block : Anchored). block.index == i) (filter_map (block_of view) (range_with_len 0 view.objects))
        there.0 (present_block view i) there.1 (eq-eqb _ i (ap (λ (block : Anchored). block.index) at)) ∙ sym on
    | inr off ↦
        list_any-none (λ (block : Anchored). block.index == i) (filter_map (block_of view) (range_with_len 0 view.objects))
        (λ block inside. ne_eqb block.index i (λ same.
        let its = All-contains (IsBlock view) (all_blocks view) block (All-all_blocks view is) inside in
        let on : slice_index_or view.parts.present block.index false ≡ true =
        get_or_from_slice_get view.parts.present block.index true false its.present in
        let clash : true ≡ false = sym on ∙ ap (λ j. slice_index_or view.parts.present j false) same ∙ off in cc)) ∙ sym off
  ]
