-- An alphabet: the place of a value in it, and that sorted values, each kept once, are the alphabet.
use Rattle.std.proofs.Common.{◌≡◌, ◌≢◌, ℕ, suc, ◌+◌, ◌<◌, ◌≤◌, true, List, [], ◌∷◌, ◌++◌, length, get_or, arith, ◌∙◌, ap, sym, eq-eqb, ne_eqb, inl, inr, eqb, zero-add, subst}
use Rattle.std.specs.Prelude.{fold, max, ◌==◌}
use Rattle.std.specs.List.{Contains, dedup, dedup_from, list_any, range_with_len}
use Rattle.std.specs.List.Sorted.{IsPermutation, IsSorted, IsStrictlyIncreasing}
use Rattle.std.specs.Ordering.{nat_cmp}
use Rattle.std.proofs.lemmas.Bool.Decides.{nat_tests}
use Rattle.std.proofs.lemmas.Bool.{cases_lt, eqb-true}
use Rattle.std.proofs.lemmas.Cmp.{nat_cmp_total}
use Rattle.std.proofs.lemmas.List.{get_or_default}
use Rattle.std.proofs.lemmas.List.Elements.{Contains-append_cases, Contains-append_left, Contains-append_right}
use Rattle.std.proofs.lemmas.List.Folds.{Any-from_list_any, list_any_at}
use Rattle.std.proofs.lemmas.List.FromFn.{get_or-range_with_len, length-range_with_len}
use Rattle.std.proofs.lemmas.List.Kept.{Contains-dedup_nat, Contains-from_dedup}
use Rattle.std.proofs.lemmas.List.Kept.{IsStrictlyIncreasing-filter, IsStrictlySortedBy-filter}
use Rattle.std.proofs.lemmas.List.Sums.{fails_before_first, passes_at_first, position_or_len_is}
use Rattle.std.proofs.lemmas.List.Sorted.{Contains-permutation, IsPermutation-sym, length_permutation}
use Rattle.std.proofs.lemmas.Map.Keys.{IsStrictlyIncreasing-dedup, sorted_from_strictly_increasing}
use Rattle.list_laws.specs.Ordered.{ordered}
use Rattle.list_laws.proofs.GreatestLemmas.{fold_max-at}
use Rattle.list_laws.proofs.IncreasingLemmas.{increasing-below}
use Rattle.list_laws.proofs.MemberLemmas.{Contains-filter, member_of_filter}
use Rattle.list_laws.proofs.OrderedLemmas.{IsPermutation-ordered, IsSortedBy-ordered}
use Rattle.list_laws.proofs.AscendingLemmas.{same_from_members}
use Rattle.movement_log.specs.Logs.{ascending_of, terminal_of}

-- a value's terminal is its place, and the alphabet's length where it has none
pub terminal_at : (alphabet : List ℕ) (value place : ℕ) → IsStrictlyIncreasing alphabet → place < length alphabet →
    get_or alphabet place 0 ≡ value → terminal_of alphabet value ≡ place
terminal_at alphabet value place up within is =
    position_or_len_is (λ other. other == value) alphabet place 0 (omega arith)
    (λ k below. let less = increasing-below alphabet up k place below within in ne_eqb (get_or alphabet k 0) value (λ e. omega arith))
    (λ _. eq-eqb (get_or alphabet place 0) value is)

pub terminal_none : (alphabet : List ℕ) (value : ℕ) → ((k : ℕ) → k < length alphabet → get_or alphabet k 0 ≢ value) →
    terminal_of alphabet value ≡ length alphabet
terminal_none alphabet value differ =
    position_or_len_is (λ other. other == value) alphabet (length alphabet) 0 (omega arith)
    (λ k below. ne_eqb (get_or alphabet k 0) value (differ k below)) (λ less. absurd (omega arith))

-- numbers from one on rise
range-rises : (a n : ℕ) → IsStrictlyIncreasing (range_with_len a n)
range-rises a n k below =
    let within : k + 1 < n = omega (arith, length-range_with_len a n) in
    omega (arith, get_or-range_with_len a n k 0 (omega arith), get_or-range_with_len a n (k + 1) 0 within)

-- the values that stand in a list are those of its alphabet, which ascends
pub Contains-ascending_of : (values : List ℕ) (n : ℕ) → Contains values n → Contains (ascending_of values) n
unfolding ascending_of
Contains-ascending_of values n member =
    let k : ℕ = member.0 in
    let within : k < length values = member.1 in
    let at : get_or values k n ≡ n = member.2 in
    let here : (get_or values k n == n) ≡ true = eq-eqb (get_or values k n) n at in
    let least = fold_max-at values 0 k in
    let same : get_or values k n ≡ get_or values k 0 = get_or_default values k n 0 within in
    let many : ℕ = suc (fold max 0 values) in
    Contains-filter (λ m. list_any (λ x. x == m) values) (range_with_len 0 many) n
    (list_any_at (λ x. x == n) values k n within here)
    (n, omega (arith, length-range_with_len 0 many), get_or-range_with_len 0 many n n (omega arith) ∙ zero-add n)

pub member_of_ascending_of : (values : List ℕ) (n : ℕ) → Contains (ascending_of values) n → Contains values n
unfolding ascending_of
member_of_ascending_of values n inside =
    let passes =
    (member_of_filter (λ m. list_any (λ x. x == m) values) (range_with_len 0 (suc (fold max 0 values))) n inside).1 in
    let any = Any-from_list_any (λ x. x == n) values passes in
    let k : ℕ = any.0 in
    let x : ℕ = any.1 in
    let within : k < length values = any.2 in
    let at : get_or values k x ≡ x = any.3 in
    let test : (x == n) ≡ true = any.4 in
    let is : x ≡ n = grind (arith, nat_tests) in
    subst (Contains values) is (k, within, at)

pub IsStrictlyIncreasing-ascending_of : (values : List ℕ) → IsStrictlyIncreasing (ascending_of values)
unfolding ascending_of
IsStrictlyIncreasing-ascending_of values =
    IsStrictlyIncreasing-filter (λ n. list_any (λ x. x == n) values) (range_with_len 0 (suc (fold max 0 values)))
    (range-rises 0 (suc (fold max 0 values)))

-- a terminal of a value that is in the alphabet is below its length, and stands for the value
pub terminal_of-member : (alphabet : List ℕ) (value : ℕ) → Contains alphabet value →
    (terminal_of alphabet value < length alphabet) × (get_or alphabet (terminal_of alphabet value) 0 ≡ value)
terminal_of-member alphabet value member =
    let k : ℕ = member.0 in
    let within : k < length alphabet = member.1 in
    let at : get_or alphabet k value ≡ value = member.2 in
    let here : (get_or alphabet k value == value) ≡ true = eq-eqb (get_or alphabet k value) value at in
    elim (cases_lt (terminal_of alphabet value) (length alphabet)) [
      | inl less ↦ (less, eqb-true _ value (passes_at_first (λ other. other == value) alphabet 0 less))
      | inr not ↦
          let fails = fails_before_first (λ other. other == value) alphabet k value (omega arith) in
          absurd (cc)
    ]

-- what is sorted, each number once, is the alphabet
module _ (values sorted : List ℕ) (moved : IsPermutation values sorted) (up : IsSorted nat_cmp sorted) where
  into : (n : ℕ) → Contains (dedup eqb sorted) n → Contains (ascending_of values) n
  into n inside =
      Contains-ascending_of values n
      (Contains-permutation sorted values n (IsPermutation-sym values sorted moved) (Contains-from_dedup eqb sorted n inside))

  back : (n : ℕ) → Contains (ascending_of values) n → Contains (dedup eqb sorted) n
  back n inside =
      Contains-dedup_nat sorted n (Contains-permutation values sorted n moved (member_of_ascending_of values n inside))

  pub ascending_of-dedup : dedup eqb sorted ≡ ascending_of values
  unfolding ascending_of
  ascending_of-dedup =
      same_from_members nat_cmp_total (dedup eqb sorted) (ascending_of values)
      (sorted_from_strictly_increasing (dedup eqb sorted) (IsStrictlyIncreasing-dedup sorted up))
      (IsStrictlySortedBy-filter nat_cmp (λ n. list_any (λ x. x == n) values) (range_with_len 0 (suc (fold max 0 values)))
      (sorted_from_strictly_increasing (range_with_len 0 (suc (fold max 0 values))) (range-rises 0 (suc (fold max 0 values)))))
      into back

-- an alphabet is no longer than the list
length-dedup_from : (x : ℕ) (xs : List ℕ) → length (dedup_from eqb x xs) ≤ suc (length xs)
length-dedup_from x [] = omega arith
length-dedup_from x (y ∷ xs) = grind (arith, nat_tests, length-dedup_from x xs, length-dedup_from y xs)

length-dedup : (xs : List ℕ) → length (dedup eqb xs) ≤ length xs
length-dedup [] = omega arith
length-dedup (x ∷ xs) = length-dedup_from x xs

pub length-ascending_of : (values : List ℕ) → length (ascending_of values) ≤ length values
length-ascending_of values =
    let sorted : List ℕ = ordered nat_cmp values in
    let moved : IsPermutation values sorted = IsPermutation-ordered nat_cmp values in
    let is = ascending_of-dedup values sorted moved (IsSortedBy-ordered nat_cmp nat_cmp_total values) in
    omega (arith, ap length is, length-dedup sorted, length_permutation values sorted moved)

-- lists with the same members have one alphabet
pub ascending_of-same : (xs ys : List ℕ) → ((n : ℕ) → Contains xs n → Contains ys n) → ((n : ℕ) → Contains ys n → Contains xs n)
    → ascending_of xs ≡ ascending_of ys
ascending_of-same xs ys into back =
    same_from_members nat_cmp_total (ascending_of xs) (ascending_of ys)
    (sorted_from_strictly_increasing (ascending_of xs) (IsStrictlyIncreasing-ascending_of xs))
    (sorted_from_strictly_increasing (ascending_of ys) (IsStrictlyIncreasing-ascending_of ys))
    (λ n inside. Contains-ascending_of ys n (into n (member_of_ascending_of xs n inside)))
    (λ n inside. Contains-ascending_of xs n (back n (member_of_ascending_of ys n inside)))

-- an alphabet's alphabet is itself
pub ascending_of-twice : (xs : List ℕ) → ascending_of (ascending_of xs) ≡ ascending_of xs
ascending_of-twice xs = ascending_of-same (ascending_of xs) xs (member_of_ascending_of xs) (Contains-ascending_of xs)

-- members after those of one alphabet
more_members : (xs ys more : List ℕ) → ascending_of xs ≡ ascending_of ys → (n : ℕ) → Contains (xs ++ more) n
    → Contains (ys ++ more) n
more_members xs ys more same n inside = elim (Contains-append_cases xs more n inside) [
  | inl old ↦ Contains-append_left ys more n
      (member_of_ascending_of ys n (subst (λ all. Contains all n) same (Contains-ascending_of xs n old)))
  | inr new ↦ Contains-append_right ys more n new
]

-- what comes after lists of one alphabet leaves them so
pub ascending_of-after : (xs ys more : List ℕ) → ascending_of xs ≡ ascending_of ys
    → ascending_of (xs ++ more) ≡ ascending_of (ys ++ more)
ascending_of-after xs ys more same =
    ascending_of-same (xs ++ more) (ys ++ more) (more_members xs ys more same) (more_members ys xs more (sym same))
