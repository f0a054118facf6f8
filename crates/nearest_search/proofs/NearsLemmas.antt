-- Nears in order: which are below a distance, what lies beyond those that are kept, and that lists of the same ones are
-- put in one order.
use Rattle.std.proofs.Common.{◌≡◌, ℕ, zero, suc, ◌+◌, ◌-◌, ◌*◌, ◌^◌, ◌<◌, ◌≤◌, true, false, List, [], ◌∷◌, ◌++◌, length}
use Rattle.std.proofs.Common.{take, All, refl, sym, ◌∙◌, ap, add-one, arith, inl, inr}
use Rattle.std.specs.Prelude.{nat_le, nat_lt, slice_get, if◌then◌else◌}
use Rattle.std.specs.List.{AllByRecursion, sum_by}
use Rattle.std.specs.List.Sorted.{IsSortedBy}
use Rattle.std.specs.Ordering.{is_lt}
use Rattle.std.proofs.lemmas.Bool.{cases_Bool, cases_order}
use Rattle.std.proofs.lemmas.Bool.Decides.{nat_tests}
use Rattle.std.proofs.lemmas.List.{take_at}
use Rattle.std.proofs.lemmas.List.Elements.{All-head, All-tail}
use Rattle.std.proofs.lemmas.List.Sorted.{All-permutation, sum_by-IsPermutation}
use Rattle.std.proofs.lemmas.List.Sums.{sum_by-cons}
use Rattle.list_laws.specs.Ordered.{ordered, insert_in_order}
use Rattle.list_laws.proofs.LeastLemmas.{insert_in_order-after, take-insert_in_order}
use Rattle.list_laws.proofs.OrderedLemmas.{IsPermutation-ordered, IsSortedBy-ordered}
use Rattle.list_laws.proofs.WeightLemmas.{same_from_weights, IsRising}
use Rattle.track_types.specs.ByFilter.{near_order}
use Rattle.track_types.specs.declared.near.Near.{Near}
use Rattle.track_types.proofs.NearLemmas.{near_order_total}
use Rattle.nearest_search.specs.Cost.{is_no_farther}

-- how far it is
abbrev pub far : Near → ℕ
far near = near.dist2

-- distance and object in one number
abbrev pub rank_of : Near → ℕ
rank_of near = near.dist2 * 2 ^ 32 + near.object

-- one that does not come before another is as far
far-le : (a b : Near) → is_lt (near_order b a) ≡ false → far a ≤ far b
far-le a b after = grind (arith, nat_tests)

rank-le : (a b : Near) → a.object < 2 ^ 32 → is_lt (near_order b a) ≡ false → rank_of a ≤ rank_of b
rank-le a b small after = elim (cases_order a.dist2 b.dist2) [
  | inl same ↦
      let below : a.object ≤ b.object = grind (arith, nat_tests) in omega (arith, same, below)
  | inr differ ↦ elim differ [
    | inl less ↦ omega (arith, less, small)
    | inr more ↦ let no = far-le a b after in absurd (omega (arith, more, no))
  ]
]

-- and one that is nearer comes before
nearer-before : (a b : Near) → far a < far b → is_lt (near_order a b) ≡ true
nearer-before a b less = grind (arith, nat_tests)

-- lists in order rise by a number that the order keeps
module _ (key : Near → ℕ) (P : Near → Type 0)
    (keeps : (a b : Near) → P a → is_lt (near_order b a) ≡ false → key a ≤ key b) where
  rising-sorted : (xs : List Near) → All P xs → IsSortedBy (λ a b. is_lt (near_order a b)) xs → IsRising key xs
  rising-sorted [] all sorted = tt
  rising-sorted (x ∷ []) all sorted = tt
  rising-sorted (x ∷ y ∷ ys) all sorted = (
    keeps x y (All-head P x (y ∷ ys) all) (sorted 0 x (omega arith) (omega arith)),
    rising-sorted (y ∷ ys) (All-tail P x (y ∷ ys) all) (λ k d low high. rw add-one (rw add-one at (sorted (suc k) d (omega arith) (omega arith)))),
  )

  pub rising-ordered : (xs : List Near) → All P xs → IsRising key (ordered near_order xs)
  rising-ordered xs all =
      rising-sorted (ordered near_order xs)
      (All-permutation P xs (ordered near_order xs) (IsPermutation-ordered near_order xs) all)
      (IsSortedBy-ordered near_order near_order_total xs)

-- in order they do not come nearer
pub far-rises : (xs : List Near) → IsRising far (ordered near_order xs)
far-rises xs = rising-ordered far (λ _. Unit {0}) (λ a b any after. far-le a b after) xs (λ k d within. tt)

-- how many are nearer than a distance
abbrev pub is_nearer : ℕ → Near → ℕ
is_nearer dist2 near = if nat_lt near.dist2 dist2 then 1 else 0

abbrev pub nearer_count : ℕ → List Near → ℕ
nearer_count dist2 nears = sum_by (is_nearer dist2) nears

-- none is after one that is not
nearer-none : (dist2 : ℕ) (x : Near) (xs : List Near) → dist2 ≤ far x → IsRising far (x ∷ xs) → nearer_count dist2 xs ≡ 0
nearer-none dist2 x [] most rise = refl
nearer-none dist2 x (y ∷ ys) most rise =
    let past : dist2 ≤ far y = omega (arith, most, rise.0) in
    let not : nat_lt y.dist2 dist2 ≡ false = grind (arith, nat_tests) in
    let here : is_nearer dist2 y ≡ 0 = rw not refl in
    omega (arith, sum_by-cons (is_nearer dist2) y ys, here, nearer-none dist2 y ys past rise.1)

-- a distance is at most that of the one at a place if and only if no more than those before it are nearer
no-farther-counted : (dist2 : ℕ) (xs : List Near) (j : ℕ) → IsRising far xs
    → is_no_farther (slice_get xs j) dist2 ≡ nat_lt (nearer_count dist2 xs) (suc j)
no-farther-counted dist2 [] j rise = grind (arith, nat_tests)
no-farther-counted dist2 (x ∷ xs) zero rise = elim (cases_Bool (nat_lt x.dist2 dist2)) [
  | inl less ↦
      let here : is_nearer dist2 x ≡ 1 = rw less refl in
      let count = sum_by-cons (is_nearer dist2) x xs in
      let no : nat_le dist2 x.dist2 ≡ false = grind (arith, nat_tests) in
      let more : nat_lt (nearer_count dist2 (x ∷ xs)) 1 ≡ false = grind (arith, nat_tests) in
      no ∙ sym more
  | inr most ↦
      let here : is_nearer dist2 x ≡ 0 = rw most refl in
      let past : dist2 ≤ far x = grind (arith, nat_tests) in
      let none = nearer-none dist2 x xs past rise in
      let count = sum_by-cons (is_nearer dist2) x xs in
      let zero_is : nearer_count dist2 (x ∷ xs) ≡ 0 = omega (arith, here, none, count) in
      let yes : nat_le dist2 x.dist2 ≡ true = grind (arith, nat_tests) in
      let few : nat_lt (nearer_count dist2 (x ∷ xs)) 1 ≡ true = rw zero_is (grind (arith, nat_tests)) in
      yes ∙ sym few
]
no-farther-counted dist2 (x ∷ xs) (suc j) rise =
    let rest = no-farther-counted dist2 xs j (rising-tail x xs rise) in
    let count = sum_by-cons (is_nearer dist2) x xs in
    elim (cases_Bool (nat_lt x.dist2 dist2)) [
      | inl less ↦
          let here : is_nearer dist2 x ≡ 1 = rw less refl in
          let same : nat_lt (nearer_count dist2 xs) (suc j) ≡ nat_lt (nearer_count dist2 (x ∷ xs)) (suc (suc j)) =
          grind (arith, nat_tests) in
          rest ∙ same
      | inr most ↦
          let here : is_nearer dist2 x ≡ 0 = rw most refl in
          let past : dist2 ≤ far x = grind (arith, nat_tests) in
          let none = nearer-none dist2 x xs past rise in
          let same : nat_lt (nearer_count dist2 xs) (suc j) ≡ nat_lt (nearer_count dist2 (x ∷ xs)) (suc (suc j)) =
          grind (arith, nat_tests) in
          rest ∙ same
    ]
  where
    rising-tail : (x : Near) (xs : List Near) → IsRising far (x ∷ xs) → IsRising far xs
    rising-tail x [] rise = tt
    rising-tail x (y ∷ ys) rise = rise.1

slice_get-take : (n : ℕ) (xs : List Near) (j : ℕ) → j < n → slice_get (take n xs) j ≡ slice_get xs j
slice_get-take zero xs j low = absurd (omega arith)
slice_get-take (suc n) [] j low = refl
slice_get-take (suc n) (x ∷ xs) zero low = refl
slice_get-take (suc n) (x ∷ xs) (suc j) low = slice_get-take n xs j (omega arith)

-- of lists of which as many are nearer, the one at a place is farther than a distance or not alike
pub last-agrees : (dist2 count : ℕ) (xs ys : List Near) → 0 < count → nearer_count dist2 xs ≡ nearer_count dist2 ys
    → is_no_farther (slice_get (take count (ordered near_order xs)) (count - 1)) dist2
    ≡ is_no_farther (slice_get (take count (ordered near_order ys)) (count - 1)) dist2
last-agrees dist2 zero xs ys some same = absurd (omega arith)
last-agrees dist2 (suc j) xs ys some same =
    let place : suc j - 1 ≡ j = omega arith in
    rw place (ap (λ o. is_no_farther o dist2) (slice_get-take (suc j) (ordered near_order xs) j (omega arith))
    ∙ no-farther-counted dist2 (ordered near_order xs) j (far-rises xs)
    ∙ ap (λ n. nat_lt n (suc j)) (sum_by-IsPermutation (is_nearer dist2) xs (ordered near_order xs)
    (IsPermutation-ordered near_order xs)
    ∙ same
    ∙ sym (sum_by-IsPermutation (is_nearer dist2) ys (ordered near_order ys) (IsPermutation-ordered near_order ys)))
    ∙ sym (no-farther-counted dist2 (ordered near_order ys) j (far-rises ys))
    ∙ sym (ap (λ o. is_no_farther o dist2) (slice_get-take (suc j) (ordered near_order ys) j (omega arith))))

-- as many are kept as are wanted, and all are nearer than a distance
pub record AreNearer (count dist2 : ℕ) (kept : List Near) : Type 0 where
  pub full : length kept ≡ count
  pub nearer : AllByRecursion (λ near. near.dist2 < dist2) kept

are-nearer : (dist2 : ℕ) (xs : List Near) (j : ℕ) → IsRising far xs → is_no_farther (slice_get xs j) dist2 ≡ false
    → AreNearer (suc j) dist2 (take (suc j) xs)
are-nearer dist2 [] j rise beyond = absurd (cc)
are-nearer dist2 (x ∷ xs) zero rise beyond =
    let less : x.dist2 < dist2 = grind (arith, nat_tests) in record { full = refl; nearer = (less, tt) }
are-nearer dist2 (x ∷ []) (suc j) rise beyond = absurd (cc)
are-nearer dist2 (x ∷ y ∷ ys) (suc j) rise beyond =
    let rest = are-nearer dist2 (y ∷ ys) j rise.1 beyond in
    record {
      full = ap suc rest.full;
      nearer = (omega (arith, rise.0, rest.nearer.0), rest.nearer);
    }

-- so they are, where a distance is greater than that of the last one
pub kept-nearer : (dist2 count : ℕ) (xs : List Near) → 0 < count
    → is_no_farther (slice_get (take count (ordered near_order xs)) (count - 1)) dist2 ≡ false
    → AreNearer count dist2 (take count (ordered near_order xs))
kept-nearer dist2 zero xs some beyond = absurd (omega arith)
kept-nearer dist2 (suc j) xs some beyond =
    let place : suc j - 1 ≡ j = omega arith in
    are-nearer dist2 (ordered near_order xs) j (far-rises xs)
    (sym (ap (λ o. is_no_farther o dist2) (slice_get-take (suc j) (ordered near_order xs) j (omega arith)))
    ∙ rw place at beyond)

all-before : (dist2 : ℕ) (near : Near) (kept : List Near) → dist2 ≤ far near
    → AllByRecursion (λ other. other.dist2 < dist2) kept
    → AllByRecursion (λ other. is_lt (near_order other near) ≡ true) kept
all-before dist2 near [] most all = tt
all-before dist2 near (x ∷ xs) most all =
    (nearer-before x near (omega (arith, most, all.0)), all-before dist2 near xs most all.1)

-- those that are as far do not count among the first so many
pub take-beyond : (dist2 count : ℕ) (others xs : List Near) → All (λ near. dist2 ≤ far near) others
    → AreNearer count dist2 (take count (ordered near_order xs))
    → take count (ordered near_order (others ++ xs)) ≡ take count (ordered near_order xs)
unfolding ordered
take-beyond dist2 count [] xs all kept = refl
take-beyond dist2 count (x ∷ others) xs all kept =
    let P : Near → Type 0 = λ near. dist2 ≤ far near in
    let first : List Near = take count (ordered near_order xs) in
    take-insert_in_order near_order count x (ordered near_order (others ++ xs))
    ∙ ap (λ ys. take count (insert_in_order near_order x ys)) (take-beyond dist2 count others xs (All-tail P x others all) kept)
    ∙ ap (take count) (insert_in_order-after near_order x first (all-before dist2 x first (All-head P x others all) kept.nearer))
    ∙ take_at first (x ∷ []) count kept.full

-- Lists of the same ones are put in one order, where of each object there is at most one, whose number is below 2^32.
module _ (P : Near → Type 0) (small : (a : Near) → P a → a.object < 2 ^ 32)
    (one : (a b : Near) → P a → P b → a.object ≡ b.object → a ≡ b) where
  pub ordered-same : (xs ys : List Near) → All P xs → All P ys
      → ((weight : Near → ℕ) → sum_by weight xs ≡ sum_by weight ys) → ordered near_order xs ≡ ordered near_order ys
  ordered-same xs ys all also weigh =
      let keeps : (a b : Near) → P a → is_lt (near_order b a) ≡ false → rank_of a ≤ rank_of b =
      λ a b is after. rank-le a b (small a is) after in
      same_from_weights rank_of P
      (λ a b is its same. one a b is its (omega (arith, same, small a is, small b its)))
      (ordered near_order xs) (ordered near_order ys)
      (All-permutation P xs (ordered near_order xs) (IsPermutation-ordered near_order xs) all)
      (All-permutation P ys (ordered near_order ys) (IsPermutation-ordered near_order ys) also)
      (rising-ordered rank_of P keeps xs all) (rising-ordered rank_of P keeps ys also)
      (λ weight.
      sum_by-IsPermutation weight xs (ordered near_order xs) (IsPermutation-ordered near_order xs)
      ∙ weigh weight
      ∙ sym (sum_by-IsPermutation weight ys (ordered near_order ys) (IsPermutation-ordered near_order ys)))
