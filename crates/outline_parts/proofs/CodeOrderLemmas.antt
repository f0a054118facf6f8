-- Places by the numbers that they have: there is one order of them in which the numbers ascend, and the places of each
-- number.
use Rattle.std.proofs.Common.{◌≡◌, ℕ, ◌+◌, ◌<◌, ◌≤◌, List, length, get_or, arith, subst}
use Rattle.std.specs.Prelude.{slice_index}
use Rattle.std.specs.Cmp.{IsTotalOrder}
use Rattle.std.specs.List.{Contains}
use Rattle.std.specs.List.Sorted.{IsStrictlySortedBy}
use Rattle.std.specs.Ordering.{nat_cmp, ordering_then}
use Rattle.std.specs.declared.cmp.Ordering.{Ordering}
use Rattle.std.specs.declared.cmp.Ordering.TheVariants.{Less}
use Rattle.std.proofs.lemmas.Bool.Decides.{nat_tests}
use Rattle.std.proofs.lemmas.Cmp.{nat_cmp_total, on_total, then_total}
use Rattle.std.proofs.lemmas.List.{get_or_default}
use Rattle.std.proofs.lemmas.List.Elements.{Contains-get_or}
use Rattle.std.proofs.lemmas.Map.Keys.{sorted_from_all_adjacent}
use Rattle.object_perm.specs.Permutation.{PermutesPlaces, inverse_of}
use Rattle.object_perm.proofs.InverseLemmas.{at-inverse_of}
use Rattle.object_perm.proofs.OntoLemmas.{inverse_of-within}
use Rattle.list_laws.proofs.AscendingLemmas.{same_from_members}

module _ (codes : List ℕ) where
  abbrev code_order : ℕ → ℕ → Ordering
  code_order a b = ordering_then (nat_cmp (slice_index codes a) (slice_index codes b)) (nat_cmp a b)

  code_order_total : IsTotalOrder code_order
  code_order_total = then_total (on_total (slice_index codes) nat_cmp_total) nat_cmp_total

  -- all places, by their numbers, and those of one number in their order
  pub record AreByCode (places : List ℕ) : Type 0 where
    pub permutes : PermutesPlaces places
    pub long : length places ≡ length codes
    pub low : (p q : ℕ) → p < q → q < length places →
        slice_index codes (slice_index places p) ≤ slice_index codes (slice_index places q)
    pub tied : (p q : ℕ) → p < q → q < length places →
        slice_index codes (slice_index places p) ≡ slice_index codes (slice_index places q) →
        slice_index places p < slice_index places q

  order-less : (a b : ℕ) → slice_index codes a ≤ slice_index codes b → (slice_index codes a ≡ slice_index codes b → a < b) →
      code_order a b ≡ Less
  order-less a b low tied = grind (arith, nat_tests, tied)

  module _ (places : List ℕ) (are : AreByCode places) where
    sorted : IsStrictlySortedBy code_order places
    sorted =
        sorted_from_all_adjacent code_order_total places 0 (λ k within.
        order-less (get_or places k 0) (get_or places (k + 1) 0) (are.low k (k + 1) (omega arith) within)
        (are.tied k (k + 1) (omega arith) within))

    each-within : (place : ℕ) → Contains places place → place < length codes
    each-within place there =
        let low : there.0 < length places = there.1 in
        let at : get_or places there.0 place ≡ place = there.2 in
        let below = are.permutes.within there.0 low in
        omega (arith, below, are.long, at, get_or_default places there.0 0 place low)

    within-each : (place : ℕ) → place < length codes → Contains places place
    within-each place below =
        let inside = inverse_of-within places place are.permutes (omega (arith, are.long)) in
        subst (Contains places) (at-inverse_of places place inside) (Contains-get_or places (inverse_of places place) 0 inside)

  -- there is one such order
  pub same_by_code : (xs ys : List ℕ) → AreByCode xs → AreByCode ys → xs ≡ ys
  same_by_code xs ys are also =
      same_from_members code_order_total xs ys (sorted xs are) (sorted ys also)
      (λ place there. within-each ys also place (each-within xs are place there))
      (λ place there. within-each xs are place (each-within ys also place there))
