-- Lists in strict order: how many elements come before each, and the new numbers of symbols, which are places.
use Rattle.std.proofs.Common.{◌≡◌, ℕ, zero, suc, ◌+◌, ◌<◌, Bool, false, List, [], ◌∷◌, Ordering, filter, length, get_or, refl, ap, sym, ◌∙◌, arith, inl, inr}
use Rattle.std.specs.Cmp.{IsTotalOrder}
use Rattle.std.specs.Prelude.{if◌then◌else◌}
use Rattle.std.specs.List.{Contains, IsDistinct, range_with_len}
use Rattle.std.specs.List.Sorted.{IsPermutation, IsStrictlySortedBy}
use Rattle.std.specs.Ordering.{eq_by_cmp, is_eq, is_lt, nat_cmp, ordering_reverse}
use Rattle.std.specs.declared.cmp.Ordering.TheVariants.{Less, Equal, Greater}
use Rattle.std.proofs.lemmas.Bool.{cases_order}
use Rattle.std.proofs.lemmas.Cmp.{nat_cmp_total, tied_itself}
use Rattle.std.proofs.lemmas.List.{get_or_default}
use Rattle.std.proofs.lemmas.List.FromFn.{get_or-range_with_len, length-range_with_len}
use Rattle.std.proofs.lemmas.List.Sorted.{Contains-permutation, length_permutation, sum_by-IsPermutation}
use Rattle.std.proofs.lemmas.Map.Keys.{IsDistinct-from_apart, Less-from_sorted, sorted_from_all_adjacent, sorted_tail}
use Rattle.list_laws.proofs.ApartLemmas.{AreApart-distinct}
use Rattle.list_laws.proofs.AscendingLemmas.{first_below}
use Rattle.list_laws.proofs.FilterLemmas.{sum_by_if}
use Rattle.list_laws.proofs.KeyedLemmas.{filter_alike, member_of_range}
use Rattle.list_laws.proofs.MemberLemmas.{filter-none}
use Rattle.list_laws.proofs.OrderedLemmas.{IsPermutation-ordered, IsStrictlySortedBy-ordered}
use Rattle.rule_order.specs.Layers.{symbol_count}
use Rattle.rule_order.specs.Order.{new_symbol, symbol_order, symbols_in_order}
use Rattle.rule_order.proofs.OrderLemmas.{nat_cmp-greater, nat_cmp-less, nat_cmp-same, order_to-apart, order_to-total}

-- a test passes for as many of moved elements
pub length-filter-IsPermutation : {X : Type 0} (p : X → Bool) (xs ys : List X) → IsPermutation xs ys →
    length (filter p ys) ≡ length (filter p xs)
length-filter-IsPermutation p xs ys moved =
    omega (arith, sum_by_if 1 p xs, sum_by_if 1 p ys, sum_by-IsPermutation (λ x. if p x then 1 else 0) xs ys moved)

module _ {X : Type 0} {R : X → X → Ordering} (o : IsTotalOrder R) where
  not_back : (x y : X) → R x y ≡ Less → is_lt (R y x) ≡ false
  not_back x y less = ap is_lt (o.antisymm y x ∙ ap ordering_reverse less)

  -- in strict order as many elements come before one as stand before it
  pub length-before : (xs : List X) (i : ℕ) (d : X) → IsStrictlySortedBy R xs → i < length xs →
      length (filter (λ x. is_lt (R x (get_or xs i d))) xs) ≡ i
  length-before [] i d up within = absurd (omega arith)
  length-before (x ∷ xs) zero d up within =
      let itself : is_lt (R x x) ≡ false = ap is_lt (tied_itself o x) in
      let none : filter (λ y. is_lt (R y x)) xs ≡ [] =
      filter-none (λ y. is_lt (R y x)) xs (λ y inside. not_back x y (first_below R x y xs up inside)) in
      rw (itself, none) refl
  length-before (x ∷ xs) (suc i) d up within =
      let before : R x (get_or xs i d) ≡ Less = Less-from_sorted R (x ∷ xs) 0 (suc i) d up (omega arith) within in
      rw before (ap suc (length-before xs i d (sorted_tail R x xs up) (omega arith)))

untied : (o : Ordering) → (o ≡ Equal → ⊥) → is_eq o ≡ false
untied Less apart = refl
untied Equal apart = absurd (apart refl)
untied Greater apart = refl

-- a range, by places
pub get_or-range : (count k d : ℕ) → k < count → get_or (range_with_len 0 count) k d ≡ k
get_or-range count k d within = omega (arith, get_or-range_with_len 0 count k d within)

pub rising-range : (count : ℕ) → IsStrictlySortedBy nat_cmp (range_with_len 0 count)
rising-range count =
    sorted_from_all_adjacent nat_cmp_total (range_with_len 0 count) 0
    (λ k within.
    let first = get_or-range count k 0 (omega (arith, length-range_with_len 0 count)) in
    let next = get_or-range count (k + 1) 0 (omega (arith, length-range_with_len 0 count)) in
    rw (first, next) (nat_cmp-less k (k + 1) (omega arith)))

Contains-range : (count k : ℕ) → k < count → Contains (range_with_len 0 count) k
Contains-range count k within = (k, omega (arith, length-range_with_len 0 count), get_or-range count k k within)

module _ (alphabet : ℕ) (rules : List (ℕ × ℕ)) where
  pub symbols_in_order-permutation : IsPermutation (range_with_len 0 (symbol_count alphabet rules)) (symbols_in_order alphabet rules)
  unfolding symbols_in_order
  symbols_in_order-permutation =
      IsPermutation-ordered (symbol_order alphabet rules) (range_with_len 0 (symbol_count alphabet rules))

  pub distinct-range : (count : ℕ) → IsDistinct (eq_by_cmp (symbol_order alphabet rules)) (range_with_len 0 count)
  distinct-range count =
      IsDistinct-from_apart (eq_by_cmp (symbol_order alphabet rules)) (range_with_len 0 count)
      (λ i j d before within. untied _ (λ tied.
      let same = order_to-apart alphabet rules (length rules) _ _ tied in
      absurd (omega (
        arith,
        same,
        length-range_with_len 0 count,
        get_or-range count i d (omega (arith, length-range_with_len 0 count)),
        get_or-range count j d (omega (arith, length-range_with_len 0 count)),
      ))))

  pub symbols_in_order-rise : IsStrictlySortedBy (symbol_order alphabet rules) (symbols_in_order alphabet rules)
  unfolding symbols_in_order
  symbols_in_order-rise =
      IsStrictlySortedBy-ordered (symbol_order alphabet rules) (order_to-total alphabet rules (length rules))
      (range_with_len 0 (symbol_count alphabet rules))
      (AreApart-distinct (symbol_order alphabet rules) (range_with_len 0 (symbol_count alphabet rules))
      (distinct-range (symbol_count alphabet rules)))

  pub length-symbols_in_order : length (symbols_in_order alphabet rules) ≡ symbol_count alphabet rules
  length-symbols_in_order =
      length_permutation _ _ symbols_in_order-permutation ∙ length-range_with_len 0 (symbol_count alphabet rules)

  -- the new number of a symbol is its place
  pub new_symbol-place : (i d : ℕ) → i < symbol_count alphabet rules →
      new_symbol alphabet rules (get_or (symbols_in_order alphabet rules) i d) ≡ i
  unfolding new_symbol
  new_symbol-place i d within =
      let symbol = get_or (symbols_in_order alphabet rules) i d in
      sym (length-filter-IsPermutation (λ other. is_lt (symbol_order alphabet rules other symbol)) _ _ symbols_in_order-permutation)
      ∙ length-before (order_to-total alphabet rules (length rules)) (symbols_in_order alphabet rules) i d symbols_in_order-rise
      (omega (arith, length-symbols_in_order))

  -- and at that place it stands
  pub place-new_symbol : (symbol d : ℕ) → symbol < symbol_count alphabet rules →
      (new_symbol alphabet rules symbol < symbol_count alphabet rules)
      × (get_or (symbols_in_order alphabet rules) (new_symbol alphabet rules symbol) d ≡ symbol)
  place-new_symbol symbol d within =
      let inside = Contains-permutation _ _ symbol symbols_in_order-permutation
      (Contains-range (symbol_count alphabet rules) symbol within) in
      let place : ℕ = inside.0 in
      let short : place < symbol_count alphabet rules = omega (arith, inside.1, length-symbols_in_order) in
      let is : new_symbol alphabet rules symbol ≡ place =
      ap (new_symbol alphabet rules) (sym inside.2) ∙ new_symbol-place place symbol short in (
        omega (arith, is),
        ap (λ k. get_or (symbols_in_order alphabet rules) k d) is
            ∙ get_or_default (symbols_in_order alphabet rules) place d symbol inside.1 ∙ inside.2,
      )

  -- symbols stand by their new numbers
  pub symbol_order-new : (a b : ℕ) → a < symbol_count alphabet rules → b < symbol_count alphabet rules →
      symbol_order alphabet rules a b ≡ nat_cmp (new_symbol alphabet rules a) (new_symbol alphabet rules b)
  symbol_order-new a b within also =
      let total = order_to-total alphabet rules (length rules) in
      let first = place-new_symbol a 0 within in
      let second = place-new_symbol b 0 also in
      let long = length-symbols_in_order in
      elim (cases_order (new_symbol alphabet rules a) (new_symbol alphabet rules b)) [
        | inl same ↦
            let is : a ≡ b = sym first.1 ∙ ap (λ k. get_or (symbols_in_order alphabet rules) k 0) same ∙ second.1 in
            ap (symbol_order alphabet rules a) (sym is) ∙ tied_itself total a ∙ sym (nat_cmp-same _ _ same)
        | inr differ ↦ elim differ [
          | inl before ↦
              let less = Less-from_sorted (symbol_order alphabet rules) (symbols_in_order alphabet rules) _ _ 0 symbols_in_order-rise before
              (omega (arith, second.0)) in
              rw (first.1, second.1) at less ∙ sym (nat_cmp-less _ _ before)
          | inr after ↦
              let less = Less-from_sorted (symbol_order alphabet rules) (symbols_in_order alphabet rules) _ _ 0 symbols_in_order-rise after
              (omega (arith, first.0)) in
              total.antisymm a b ∙ ap ordering_reverse (rw (first.1, second.1) at less) ∙ sym (nat_cmp-greater _ _ after)
        ]
      ]

  -- a symbol before which stand those of lesser numbers keeps its number
  pub new_symbol-same : (symbol : ℕ) → symbol < symbol_count alphabet rules →
      ((other : ℕ) → other < symbol_count alphabet rules → symbol_order alphabet rules other symbol ≡ nat_cmp other symbol) →
      new_symbol alphabet rules symbol ≡ symbol
  unfolding new_symbol
  new_symbol-same symbol within agree =
      let count = symbol_count alphabet rules in
      let here : get_or (range_with_len 0 count) symbol 0 ≡ symbol = get_or-range count symbol 0 within in
      ap length (filter_alike (λ other. is_lt (symbol_order alphabet rules other symbol)) (λ other. is_lt (nat_cmp other symbol))
      (range_with_len 0 count) (λ other inside. ap is_lt (agree other (omega (arith, (member_of_range 0 count other inside).1)))))
      ∙ ap (λ s. length (filter (λ other. is_lt (nat_cmp other s)) (range_with_len 0 count))) (sym here)
      ∙ length-before nat_cmp_total (range_with_len 0 count) symbol 0 (rising-range count)
      (omega (arith, length-range_with_len 0 count))
