-- The key that a round takes.
use Rattle.std.proofs.Common.{◌≡◌, ℕ, ◌<◌, Bool, false, nat_lt, List, [], ◌∷◌, map, filter, Some, None, Ordering, refl, sym, arith, inl, inr}
use Rattle.std.specs.Cmp.{IsTotalOrder}
use Rattle.std.specs.List.{Contains, flat_map, sum_by}
use Rattle.std.specs.Ordering.{is_lt, ordering_reverse}
use Rattle.std.specs.declared.cmp.Ordering.TheVariants.{Less, Equal, Greater}
use Rattle.std.proofs.lemmas.Bool.{cases_lt, not-true, not_from_false, ltb-true, lt-ltb, le-ltb}
use Rattle.std.proofs.lemmas.Map.Lookups.{exact_pairs, exact_unsigned}
use Rattle.std.proofs.lemmas.Cmp.{then_total, on_total, back_total, nat_cmp_total}
use Rattle.std.proofs.lemmas.List.Elements.{Contains-append_left, Contains-append_right}
use Rattle.std.proofs.lemmas.List.Sums.{sum_by-cons}
use Rattle.std.proofs.lemmas.Bool.Decides.{nat_tests}
use Rattle.list_laws.proofs.MemberLemmas.{Contains-map, Contains-filter, find-only, filter-none, member_of_filter, member_of_map, member_of_find, list_any-none, none_from_list_any}
use Rattle.repair_grammar.specs.declared.key.Key.{Key}
use Rattle.repair_grammar.specs.RePair.{replacement_count, pair_count, pairs_in, key_of, key_cmp, key_order, is_first_of, keys_of, first_key}
use Rattle.repair_grammar.specs.Counts.{IsFirst, AllBelowTwo}
use Rattle.repair_grammar.proofs.PassLemmas.{met_stands}

-- keys have a total order
pub key_order_total : IsTotalOrder key_order
unfolding key_order
key_order_total = then_total (back_total (on_total (λ (key : Key). key.count) nat_cmp_total))
    (then_total (on_total (λ (key : Key). key.pair.0) nat_cmp_total)
    (on_total (λ (key : Key). key.pair.1) nat_cmp_total))

-- keys that the order does not tell apart are one
pub exact_keys : (a b : Key) → key_order a b ≡ Equal → a ≡ b
unfolding key_order
exact_keys a b tied = grind (arith, nat_tests, exact_pairs, exact_unsigned)

-- the greater key is the one that rounds take first
pub key_cmp-is : (a b : Key) → key_cmp a b ≡ key_order b a
unfolding key_order
key_cmp-is a b = refl

neither_before : (r s : Ordering) → r ≡ ordering_reverse s → is_lt r ≡ false → is_lt s ≡ false → r ≡ Equal
neither_before Less s back not_less not_greater = absurd (cc)
neither_before Equal s back not_less not_greater = refl
neither_before Greater Less back not_less not_greater = absurd (cc)
neither_before Greater Equal back not_less not_greater = absurd (cc)
neither_before Greater Greater back not_less not_greater = absurd (cc)

same_key : (a b : Key) → is_lt (key_order a b) ≡ false → is_lt (key_order b a) ≡ false → a ≡ b
same_key a b not_before not_after = exact_keys a b
    (neither_before (key_order a b) (key_order b a) (key_order_total.antisymm a b) not_before not_after)

-- a key of the list before which none is, is the one that is taken
pub first_key-only : (keys : List Key) (key : Key) → Contains keys key →
    ((other : Key) → Contains keys other → is_lt (key_order other key) ≡ false) → first_key keys ≡ Some key
unfolding first_key is_first_of
first_key-only keys key inside none = find-only (is_first_of keys) keys key inside
    (not_from_false _ (list_any-none (λ other. is_lt (key_order other key)) keys none))
    (λ other among is. same_key other key (none other among)
    (none_from_list_any (λ third. is_lt (key_order third other)) keys key (not-true _ is) inside))

-- a pair that counts stands in some block
pub counted_stands : (blocks : List (List ℕ)) (pair : ℕ × ℕ) → 0 < sum_by (replacement_count pair) blocks →
    Contains (flat_map pairs_in blocks) pair
counted_stands [] pair some = absurd (omega arith)
counted_stands (block ∷ blocks) pair some = elim (cases_lt 0 (replacement_count pair block)) [
  | inl here ↦ Contains-append_left (pairs_in block) (flat_map pairs_in blocks) pair (met_stands pair block here)
  | inr none ↦ Contains-append_right (pairs_in block) (flat_map pairs_in blocks) pair
      (counted_stands blocks pair (omega (arith, sum_by-cons (replacement_count pair) block blocks)))
]

-- a pair that counts two has a key
pub key_stands : (blocks : List (List ℕ)) (pair : ℕ × ℕ) → 1 < pair_count blocks pair →
    Contains (keys_of blocks) (key_of blocks pair)
unfolding keys_of pair_count
key_stands blocks pair two =
    let pairs = flat_map pairs_in blocks in
    Contains-filter (λ key. nat_lt 1 key.count) (map (key_of blocks) pairs) (key_of blocks pair)
    (lt-ltb 1 (pair_count blocks pair) two)
    (Contains-map (key_of blocks) pairs pair (counted_stands blocks pair (omega (arith, two))))

-- the first pair's key is taken
pub key_taken : (blocks : List (List ℕ)) (pair : ℕ × ℕ) → IsFirst (pair_count blocks) pair →
    first_key (keys_of blocks) ≡ Some (key_of blocks pair)
unfolding keys_of
key_taken blocks pair first =
    let pairs = flat_map pairs_in blocks in
    let test : Key → Bool = λ key. nat_lt 1 key.count in
    first_key-only (keys_of blocks) (key_of blocks pair) (key_stands blocks pair first.two)
    (λ other among. let from = member_of_map (key_of blocks) pairs other
    (member_of_filter test (map (key_of blocks) pairs) other among).0 in
    rw (sym from.2) (first.first from.0))

-- where no pair counts two, no key is taken
pub no_key : (blocks : List (List ℕ)) → AllBelowTwo (pair_count blocks) → first_key (keys_of blocks) ≡ None
unfolding keys_of first_key
no_key blocks small =
    let pairs = flat_map pairs_in blocks in
    let test : Key → Bool = λ key. nat_lt 1 key.count in
    let none : filter test (map (key_of blocks) pairs) ≡ [] = filter-none test (map (key_of blocks) pairs) (λ key among.
    let from = member_of_map (key_of blocks) pairs key among in
    rw (sym from.2) (le-ltb 1 (pair_count blocks from.0) (omega (arith, small from.0)))) in
    rw none refl

-- what is known of a key that is taken
pub record IsTaken (blocks : List (List ℕ)) (key : Key) : Type 0 where
  pub count : key.count ≡ pair_count blocks key.pair
  pub two : 1 < key.count
  pub stands : Contains (flat_map pairs_in blocks) key.pair

pub taken_is : (blocks : List (List ℕ)) (key : Key) → first_key (keys_of blocks) ≡ Some key → IsTaken blocks key
unfolding keys_of first_key
taken_is blocks key taken =
    let pairs = flat_map pairs_in blocks in
    let test : Key → Bool = λ key. nat_lt 1 key.count in
    let inside = member_of_filter test (map (key_of blocks) pairs) key (member_of_find (is_first_of (keys_of blocks))
    (keys_of blocks) key taken) in
    let from = member_of_map (key_of blocks) pairs key inside.0 in
    record {
      count = rw (sym from.2) refl;
      two = ltb-true 1 key.count inside.1;
      stands = rw (sym from.2) from.1;
    }
