-- Prefixes of ascending numbers: what they hold, and which of the longer ones occur.
use Rattle.std.proofs.Common.{◌≡◌, ℕ, zero, suc, ◌+◌, ◌-◌, ◌*◌, ◌/◌, ◌^◌, ◌<◌, ◌≤◌, ◌==◌, ◌||◌, ◌&&◌, ◌⊎◌}
use Rattle.std.proofs.Common.{Bool, true, false, List, [], ◌∷◌, map, filter, All}
use Rattle.std.proofs.Common.{refl, ap, ◌∙◌, inl, inr, arith, lit<, subst}
use Rattle.std.proofs.lemmas.Bool.{cases_Bool}
use Rattle.std.proofs.lemmas.Nat.{div-mul-add}
use Rattle.std.proofs.lemmas.Bool.Decides.{nat_tests}
use Rattle.std.proofs.Math.Nat.{div-one, pow-suc, div-eq_of_lt}
use Rattle.std.specs.List.{dedup_from, list_any}
use Rattle.list_laws.proofs.NumberLemmas.{div-le}
use Rattle.k2_tree.specs.TreeBits.{is_in, prefixes, Rises}
use Rattle.k2_tree.proofs.RisingLemmas.{Climbs, Rises-weaker, other_test}

-- each number once
abbrev pub once_from : ℕ → List ℕ → List ℕ
once_from = dedup_from (λ a b. a == b)

-- by the test's answer
pub by_test : (x k : ℕ) → ((x ≡ k) × ((x == k) ≡ true)) ⊎ ((x ≡ k → ⊥) × ((x == k) ≡ false))
by_test x k = elim (cases_Bool (x == k)) [
  | inl e ↦ inl (grind (arith, nat_tests), e)
  | inr e ↦ inr (λ same. grind (arith, nat_tests), e)
]

-- the number of a child leads to that of its square
pub div-group : (size q x : ℕ) → size * q ≤ x → x < size * q + size → x / size ≡ q
div-group size q x low high =
    let d : ℕ = x - size * q in
    let e : x ≡ q * size + d = omega arith in
    ap (λ x. x / size) e ∙ div-mul-add q size d (omega arith)

-- what climbs, once each, rises
once_from-rises : (k : ℕ) (xs : List ℕ) → Climbs k xs → Rises k (once_from k xs)
once_from-rises k [] up = (omega arith, tt)
once_from-rises k (x ∷ xs) up = elim (by_test x k) [
  | inl same ↦ let up' : Climbs k xs = subst (λ z. Climbs z xs) same.0 up.1 in rw same.1 (once_from-rises k xs up')
  | inr differ ↦
      let low : k ≤ x = up.0 in
      let apart : k < x = omega (arith, differ.0) in
      rw differ.1 (omega arith, Rises-weaker (suc k) x (once_from x xs) (omega arith) (once_from-rises x xs up.1))
]

-- powers of the fan are not 0
pub fan_pos : (n : ℕ) → 0 < 4 ^ n
fan_pos zero = lit< tt
fan_pos (suc n) = let some = fan_pos n in rw (pow-suc 4 n) (omega arith)

Climbs-weaker : (m n : ℕ) (xs : List ℕ) → m ≤ n → Climbs n xs → Climbs m xs
Climbs-weaker m n [] less up = tt
Climbs-weaker m n (x ∷ xs) less up = (omega (arith, up.0), up.1)

-- numbers that rise, divided, climb
climbs-divided : (n k : ℕ) (xs : List ℕ) → 0 < k → Rises n xs → Climbs (n / k) (map (λ x. x / k) xs)
climbs-divided n k [] some up = tt
climbs-divided n k (x ∷ xs) some up =
    let later = climbs-divided (suc x) k xs some up.1 in
    let next = div-le k x (suc x) some (omega arith) in
    (div-le k n x some up.0, Climbs-weaker (x / k) (suc x / k) (map (λ y. y / k) xs) next later)

-- prefixes of rising numbers rise
pub prefixes-rise : (n : ℕ) (codes : List ℕ) → Rises 0 codes → Rises 0 (prefixes n codes)
unfolding prefixes
prefixes-rise n [] up = tt
prefixes-rise n (c ∷ cs) up =
    Rises-weaker 0 (c / 4 ^ n) (once_from (c / 4 ^ n) (map (λ x. x / 4 ^ n) cs)) (omega arith)
    (once_from-rises (c / 4 ^ n) (map (λ x. x / 4 ^ n) cs) (climbs-divided 0 (4 ^ n) (c ∷ cs) (fan_pos n) up).1)

-- what a test finds among the prefixes it finds of the numbers
pub any-prefixes : (p : ℕ → Bool) (n : ℕ) (codes : List ℕ)
    → list_any p (prefixes n codes) ≡ list_any (λ code. p (code / 4 ^ n)) codes
unfolding prefixes
any-prefixes p n [] = refl
any-prefixes p n (c ∷ cs) = once (c / 4 ^ n) cs
  where
    once : (k : ℕ) (xs : List ℕ)
        → list_any p (once_from k (map (λ x. x / 4 ^ n) xs)) ≡ (p k || list_any (λ x. p (x / 4 ^ n)) xs)
    once k [] = refl
    once k (x ∷ xs) = grind (arith, nat_tests, once k xs, once (x / 4 ^ n) xs)

-- a member's image is among the images
pub any-image : (f : ℕ → ℕ) (xs : List ℕ) (c : ℕ) → is_in xs c ≡ true → list_any (λ x. f x == f c) xs ≡ true
any-image f [] c is = is
any-image f (x ∷ xs) c is = grind (arith, nat_tests, any-image f xs c)

-- a number's prefix occurs
pub prefixes-of : (n : ℕ) (codes : List ℕ) (c : ℕ) → is_in codes c ≡ true → is_in (prefixes n codes) (c / 4 ^ n) ≡ true
prefixes-of n codes c is = any-prefixes (λ o. o == c / 4 ^ n) n codes ∙ any-image (λ x. x / 4 ^ n) codes c is

-- the prefixes that leave no digit away are the numbers
pub prefixes-zero : (codes : List ℕ) → Rises 0 codes → prefixes 0 codes ≡ codes
unfolding prefixes
prefixes-zero [] up = refl
prefixes-zero (x ∷ xs) up = rw (div-one x) (once_from-rising x xs up.1)
  where
    once_from-rising : (k : ℕ) (xs : List ℕ) → Rises (suc k) xs → once_from k (map (λ x. x / 4 ^ 0) xs) ≡ k ∷ xs
    once_from-rising k [] up = refl
    once_from-rising k (x ∷ xs) up =
        let low : suc k ≤ x = up.0 in
        rw (div-one x, other_test x k (λ e. omega arith)) (ap (λ ys. k ∷ ys) (once_from-rising x xs up.1))

-- no number has no prefix
pub prefixes-none : (n : ℕ) → prefixes n [] ≡ []
unfolding prefixes
prefixes-none n = refl

-- a prefix of no digits is 0
pub prefixes-top : (n code : ℕ) (codes : List ℕ) → All (λ c. c < 4 ^ n) (code ∷ codes)
    → prefixes n (code ∷ codes) ≡ 0 ∷ []
unfolding prefixes
prefixes-top n code codes small =
    ap (λ k. once_from k (map (λ x. x / 4 ^ n) codes)) (div-eq_of_lt (small 0 code (omega arith)))
    ∙ zeros codes (λ k d h. small (suc k) d (omega arith))
  where
    zeros : (codes : List ℕ) → All (λ c. c < 4 ^ n) codes → once_from 0 (map (λ x. x / 4 ^ n) codes) ≡ 0 ∷ []
    zeros [] small = refl
    zeros (c ∷ cs) small =
        let none : c / 4 ^ n ≡ 0 = div-eq_of_lt (small 0 c (omega arith)) in
        rw none (zeros cs (λ k d h. small (suc k) d (omega arith)))

-- a filter keeps the order
pub Rises-filter : (n : ℕ) (p : ℕ → Bool) (xs : List ℕ) → Rises n xs → Rises n (filter p xs)
Rises-filter n p [] up = tt
Rises-filter n p (x ∷ xs) up =
    let rest = Rises-filter (suc x) p xs up.1 in
    let low : n ≤ x = up.0 in
    elim (cases_Bool (p x)) [
      | inl kept ↦ rw kept (low, rest)
      | inr gone ↦ rw gone (Rises-weaker n (suc x) (filter p xs) (omega arith) rest)
    ]

-- what a filter holds
pub is_in-filter : (p : ℕ → Bool) (xs : List ℕ) (c : ℕ) → is_in (filter p xs) c ≡ (p c && is_in xs c)
is_in-filter p [] c = grind arith
is_in-filter p (x ∷ xs) c = grind (arith, nat_tests, is_in-filter p xs c)
