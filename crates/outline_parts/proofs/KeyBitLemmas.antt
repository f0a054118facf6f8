-- Bits that tell which numbers are keys of a list whose keys rise: a one for each element, whose rank is the element's
-- place.
use Rattle.std.proofs.Common.{All, ◌≡◌, ℕ, zero, suc, ◌+◌, ◌<◌, ◌≤◌, Bool, true, false, List, [], ◌∷◌, length, filter, get_or, map, take}
use Rattle.std.proofs.Common.{refl, sym, ap, ◌∙◌, arith, inl, inr, subst}
use Rattle.std.specs.Prelude.{◌==◌}
use Rattle.std.specs.List.{AllByRecursion, Contains, list_any, range_with_len}
use Rattle.std.specs.List.Sorted.{IsStrictlyIncreasing, IsStrictlySortedBy}
use Rattle.std.specs.Ordering.{nat_cmp}
use Rattle.std.specs.declared.cmp.Ordering.TheVariants.{Less}
use Rattle.std.proofs.lemmas.Bool.{cases_lt, eq-eqb, eqb-true, ne_eqb}
use Rattle.std.proofs.lemmas.Bool.Decides.{nat_tests}
use Rattle.std.proofs.lemmas.Cmp.{nat_cmp_total}
use Rattle.std.proofs.lemmas.List.{get_or-map, length-map}
use Rattle.std.proofs.lemmas.List.Elements.{All-contains, Contains-get_or}
use Rattle.std.proofs.lemmas.List.Folds.{Any-from_list_any, list_any_at}
use Rattle.std.proofs.lemmas.List.FromFn.{get_or-map-range_with_len, get_or-range_with_len, length-range_with_len}
use Rattle.std.proofs.lemmas.List.Kept.{IsStrictlySortedBy-filter}
use Rattle.std.proofs.lemmas.Map.Keys.{sorted_from_strictly_increasing}
use Rattle.packed_bits.specs.Bits.{ones_of}
use Rattle.bit_rank.specs.Bits.{rank_of}
use Rattle.bit_rank.proofs.RankLemmas.{ones_of-map, rank_of-map}
use Rattle.list_laws.proofs.AscendingLemmas.{same_from_members}
use Rattle.list_laws.proofs.IncreasingLemmas.{increasing-below}
use Rattle.list_laws.proofs.MemberLemmas.{Contains-filter, Contains-map, filter-none, first_member, later_member, member_of_filter, member_of_map, none_from_list_any}
use Rattle.list_laws.proofs.PieceLemmas.{get_or-filter}

-- a range rises, and has each number between its ends
above-range : (k a n : ℕ) → k < a → AllByRecursion (λ other. nat_cmp k other ≡ Less) (range_with_len a n)
above-range k a zero less = tt
above-range k a (suc n) less = (grind (arith, nat_tests), above-range k (a + 1) n (omega arith))

pub rising-range : (a n : ℕ) → IsStrictlySortedBy nat_cmp (range_with_len a n)
unfolding IsStrictlySortedBy
rising-range a zero = tt
rising-range a (suc n) = (above-range a (a + 1) n (omega arith), rising-range (a + 1) n)

pub Contains-range : (a n k : ℕ) → a ≤ k → k < a + n → Contains (range_with_len a n) k
Contains-range a zero k low high = absurd (omega arith)
Contains-range a (suc n) k low high = elim (cases_lt a k) [
  | inl later ↦ later_member k a (range_with_len (a + 1) n) (Contains-range (a + 1) n k (omega arith) (omega arith))
  | inr here ↦ subst (λ j. Contains (range_with_len a (suc n)) j) (omega arith) (first_member a (range_with_len (a + 1) n))
]

module _ {X : Type 0} (key : X → ℕ) (n : ℕ) (xs : List X) (up : IsStrictlyIncreasing (map key xs))
    (below : All (λ x. key x < n) xs) where
  -- whether a number is the key of an element
  abbrev pub has_key : ℕ → Bool
  has_key i = list_any (λ x. key x == i) xs

  -- the bit of each number
  abbrev pub key_bits : List Bool
  key_bits = map has_key (range_with_len 0 n)

  -- the numbers that are keys
  filter-has_key : filter has_key (range_with_len 0 n) ≡ map key xs
  filter-has_key =
      same_from_members nat_cmp_total (filter has_key (range_with_len 0 n)) (map key xs)
      (IsStrictlySortedBy-filter nat_cmp has_key (range_with_len 0 n) (rising-range 0 n))
      (sorted_from_strictly_increasing (map key xs) up)
      (λ i inside.
      let any = Any-from_list_any (λ x. key x == i) xs (member_of_filter has_key (range_with_len 0 n) i inside).1 in
      let same : key any.1 ≡ i = eqb-true (key any.1) i any.4 in
      subst (Contains (map key xs)) same (Contains-map key xs any.1 (any.0, any.2, any.3)))
      (λ i inside.
      let from = member_of_map key xs i inside in
      let x : X = from.0 in
      let there : Contains xs x = from.1 in
      let same : key x ≡ i = from.2 in
      let low : key x < n = All-contains (λ y. key y < n) xs x below there in
      let test : has_key i ≡ true = list_any_at (λ y. key y == i) xs there.0 x there.1
      (eq-eqb _ i (ap key there.2 ∙ same)) in
      Contains-filter has_key (range_with_len 0 n) i test (Contains-range 0 n i (omega arith) (omega arith)))

  -- there is a one for each element
  pub ones_of-keys : ones_of key_bits ≡ length xs
  ones_of-keys = ones_of-map has_key (range_with_len 0 n) ∙ ap length filter-has_key ∙ length-map xs key

  -- a number whose bit is one is a key, and its rank the place of the element
  pub key-of_bit : (i : ℕ) (d : X) → i < n → get_or key_bits i false ≡ true →
      (rank_of key_bits i < length xs) × (key (get_or xs (rank_of key_bits i) d) ≡ i)
  key-of_bit i d within on =
      let range : List ℕ = range_with_len 0 n in
      let at : get_or range i 0 ≡ i = get_or-range_with_len 0 n i 0 within ∙ omega arith in
      let bit : has_key i ≡ true = sym (get_or-map-range_with_len has_key 0 n i i false within (omega arith)) ∙ on in
      let kept = get_or-filter has_key range i 0 (omega (arith, length-range_with_len 0 n)) (ap has_key at ∙ bit) in
      let rank : rank_of key_bits i ≡ length (filter has_key (take i range)) = rank_of-map has_key range i in
      let long = ap length filter-has_key ∙ length-map xs key in
      let inside : rank_of key_bits i < length xs = omega (arith, kept.0) in (
        inside,
        sym (get_or-map key xs (rank_of key_bits i) d 0 inside)
            ∙ ap (λ keys. get_or keys (rank_of key_bits i) 0) (sym filter-has_key)
            ∙ ap (λ k. get_or (filter has_key range) k 0) rank ∙ kept.1 ∙ at,
      )

-- the elements of a key: one, where the keys rise
module _ {X : Type 0} (key : X → ℕ) where
  later-apart : (x : X) (xs : List X) → IsStrictlyIncreasing (map key (x ∷ xs)) → (y : X) → Contains xs y → key x < key y
  later-apart x xs up y inside =
      let k : ℕ = inside.0 in
      let low : k < length xs = inside.1 in
      let at : get_or xs k y ≡ y = inside.2 in
      let rise = increasing-below (map key (x ∷ xs)) up 0 (suc k) (omega arith) (omega (arith, length-map xs key)) in
      omega (arith, rise, get_or-map key xs k y 0 low, ap key at)

  tail-rises : (x : X) (xs : List X) → IsStrictlyIncreasing (map key (x ∷ xs)) → IsStrictlyIncreasing (map key xs)
  tail-rises x xs up k within =
      let next : suc k + 1 ≡ suc (k + 1) = omega arith in rw next at (up (suc k) (omega arith))

  pub filter-key : (xs : List X) (k : ℕ) (d : X) → IsStrictlyIncreasing (map key xs) → k < length xs →
      filter (λ x. key x == key (get_or xs k d)) xs ≡ get_or xs k d ∷ []
  filter-key [] k d up within = absurd (omega arith)
  filter-key (x ∷ xs) zero d up within =
      let here : (key x == key x) ≡ true = eq-eqb (key x) (key x) refl in
      rw here (ap (λ ys. x ∷ ys) (filter-none (λ y. key y == key x) xs (λ y inside.
      let above = later-apart x xs up y inside in ne_eqb (key y) (key x) (λ e. omega arith))))
  filter-key (x ∷ xs) (suc k) d up within =
      let above = later-apart x xs up (get_or xs k d) (Contains-get_or xs k d (omega arith)) in
      let other : (key x == key (get_or xs k d)) ≡ false = ne_eqb (key x) (key (get_or xs k d)) (λ e. omega arith) in
      rw other (filter-key xs k d (tail-rises x xs up) (omega arith))

  pub filter-no_key : (xs : List X) (i : ℕ) → list_any (λ x. key x == i) xs ≡ false → filter (λ x. key x == i) xs ≡ []
  filter-no_key xs i none =
      filter-none (λ x. key x == i) xs (λ x inside. none_from_list_any (λ y. key y == i) xs x none inside)

-- a test of what is made of elements
pub list_any-made : {X Y : Type 0} (f : X → Y) (p : Y → Bool) (xs : List X) → list_any p (map f xs) ≡ list_any (λ x. p (f x)) xs
list_any-made f p [] = refl
list_any-made f p (x ∷ xs) = rw (list_any-made f p xs) refl
