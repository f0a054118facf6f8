-- The places of a square: those of its children, and numbers with its prefix.
use Rattle.std.proofs.Common.{◌≡◌, ℕ, zero, suc, ◌+◌, ◌-◌, ◌*◌, ◌/◌, ◌^◌, ◌<◌, ◌≤◌, false, List, [], ◌∷◌}
use Rattle.std.proofs.Common.{◌++◌}
use Rattle.std.proofs.Common.{length, pow-add, refl, inl, inr, sym, ap, ◌∙◌, arith, All}
use Rattle.std.specs.Prelude.{nat_lt, slice_index}
use Rattle.std.specs.List.{flat_map, range_with_len}
use Rattle.std.proofs.lemmas.Bool.{cases_Bool, cases_lt}
use Rattle.std.proofs.lemmas.Bool.Decides.{nat_tests}
use Rattle.std.proofs.Math.Nat.{div-eq_of_lt-le}
use Rattle.std.proofs.lemmas.List.Elements.{All-nil, All-cons}
use Rattle.list_laws.proofs.FlatLemmas.{flat_map-filter}
use Rattle.list_laws.proofs.RangeLemmas.{range-parts}
use Rattle.k2_tree.specs.Pruning.{place_among}
use Rattle.box_tree.specs.Levels.{children, square_start, is_held, run}
use Rattle.box_tree.specs.Places.{Ascends}
use Rattle.box_tree.proofs.PlacesLemmas.{place_among-le}

-- a greater number has no fewer below it
pub place_among-up : (codes : List ℕ) (a b : ℕ) → a ≤ b → place_among codes a ≤ place_among codes b
place_among-up [] a b up = omega arith
place_among-up (x ∷ xs) a b up = grind (arith, nat_tests, place_among-up xs a b up)

-- a step that never falls
rises-far : (f : ℕ → ℕ) → ((k : ℕ) → f k ≤ f (k + 1)) → (a m : ℕ) → f a ≤ f (a + m)
rises-far f up a zero = let e : a + 0 ≡ a = omega arith in rw e (omega arith)
rises-far f up a (suc m) =
    let e : a + suc m ≡ a + 1 + m = omega arith in
    let here = up a in
    let rest = rises-far f up (a + 1) m in
    rw e (omega arith)

-- ranges that begin where the last one ends are one range
telescope : (f : ℕ → ℕ) → ((k : ℕ) → f k ≤ f (k + 1)) → (a m : ℕ)
    → flat_map (λ q. range_with_len (f q) (f (q + 1) - f q)) (range_with_len a m) ≡ range_with_len (f a)
    (f (a + m) - f a)
telescope f up a zero =
    let e : a + 0 ≡ a = omega arith in
    let none : f a - f a ≡ 0 = omega arith in
    rw (e, none) refl
telescope f up a (suc m) =
    let e : a + suc m ≡ a + 1 + m = omega arith in
    let here = up a in
    let later = rises-far f up (a + 1) m in
    let parts : f (a + 1 + m) - f a ≡ (f (a + 1) - f a) + (f (a + 1 + m) - f (a + 1)) = omega arith in
    let next : f a + (f (a + 1) - f a) ≡ f (a + 1) = omega arith in
    let joined = range-parts (f a) (f (a + 1) - f a) (f (a + 1 + m) - f (a + 1)) in
    ap (λ ys. range_with_len (f a) (f (a + 1) - f a) ++ ys) (telescope f up (a + 1) m)
    ∙ ap (λ k. range_with_len (f a) (f (a + 1) - f a) ++ range_with_len k (f (a + 1 + m) - f (a + 1))) (sym next)
    ∙ sym joined ∙ ap (range_with_len (f a)) (sym parts) ∙ ap (λ k. range_with_len (f a) (f k - f a)) (sym e)

-- a square begins where the one before it ends
pub square_start-up : (codes : List ℕ) (n prefix : ℕ) → square_start codes n prefix ≤ square_start codes n (prefix + 1)
unfolding square_start
square_start-up codes n prefix = place_among-up codes (prefix * 4 ^ n) ((prefix + 1) * 4 ^ n) (grind arith)

-- a square begins where its first child does
pub square_start-child : (codes : List ℕ) (n level prefix : ℕ)
    → square_start codes n (4 ^ level * prefix) ≡ square_start codes (level + n) prefix
unfolding square_start
square_start-child codes n level prefix =
    ap (place_among codes) (same (4 ^ level) (4 ^ n) (4 ^ (level + n)) (pow-add 4 level n))
  where
    same : (a b c : ℕ) → c ≡ a * b → a * prefix * b ≡ prefix * c
    same a b c e = rw e (grind arith)

-- a square that holds nothing has no place
run-empty : (codes : List ℕ) (n prefix : ℕ) → is_held codes n prefix ≡ false → run codes n prefix ≡ []
unfolding is_held run
run-empty codes n prefix none =
    let up = square_start-up codes n prefix in
    let e : square_start codes n (prefix + 1) - square_start codes n prefix ≡ 0 = grind (arith, nat_tests) in
    rw e refl

-- the places of a square are those of its children
pub run-children : (codes : List ℕ) (n level prefix : ℕ)
    → run codes (level + n) prefix ≡ flat_map (run codes n) (children codes n level prefix)
unfolding run children
run-children codes n level prefix =
    let q : ℕ = 4 ^ level * prefix in
    let past : q + 4 ^ level ≡ 4 ^ level * (prefix + 1) = grind arith in
    let f : ℕ → ℕ = square_start codes n in
    ap (λ a. range_with_len a (square_start codes (level + n) (prefix + 1) - a)) (sym (square_start-child codes n level prefix))
    ∙ ap (λ b. range_with_len (f q) (b - f q)) (sym (square_start-child codes n level (prefix + 1)) ∙ ap f (sym past))
    ∙ sym (telescope f (square_start-up codes n) q (4 ^ level))
    ∙ sym (flat_map-filter (run codes n) (is_held codes n) (range_with_len q (4 ^ level))
    (λ k d within. run-empty codes n _))

-- below all there is none
place_among-none : (n b : ℕ) (codes : List ℕ) → Ascends n codes → b ≤ n → place_among codes b ≡ 0
place_among-none n b [] up low = refl
place_among-none n b (x ∷ xs) up low =
    let first : n ≤ x = up.0 in grind (arith, nat_tests, place_among-none x b xs up.1 (omega arith))

-- what stands before the place of a number is below it
below-place : (n b k : ℕ) (codes : List ℕ) → Ascends n codes → k < place_among codes b → slice_index codes k < b
below-place n b k [] up before = absurd (omega arith)
below-place n b zero (x ∷ xs) up before = elim (cases_Bool (nat_lt x b)) [
  | inl less ↦ grind (arith, nat_tests)
  | inr not ↦ let none = place_among-none x b xs up.1 (grind (arith, nat_tests)) in absurd (grind (arith, nat_tests))
]
below-place n b (suc k) (x ∷ xs) up before = elim (cases_Bool (nat_lt x b)) [
  | inl less ↦ let rest : k < place_among xs b = grind (arith, nat_tests) in below-place x b k xs up.1 rest
  | inr not ↦ let none = place_among-none x b xs up.1 (grind (arith, nat_tests)) in absurd (grind (arith, nat_tests))
]

-- what stands in a list that climbs is at least its least
Ascends-place : (n k : ℕ) (codes : List ℕ) → Ascends n codes → k < length codes → n ≤ slice_index codes k
Ascends-place n k [] up within = absurd (omega arith)
Ascends-place n zero (x ∷ xs) up within = up.0
Ascends-place n (suc k) (x ∷ xs) up within =
    let later = Ascends-place x k xs up.1 (omega arith) in let low : n ≤ x = up.0 in omega arith

-- and what stands from there on is not
from-place : (n b k : ℕ) (codes : List ℕ) → Ascends n codes → place_among codes b ≤ k → k < length codes
    → b ≤ slice_index codes k
from-place n b k [] up behind within = absurd (omega arith)
from-place n b zero (x ∷ xs) up behind within = grind (arith, nat_tests)
from-place n b (suc k) (x ∷ xs) up behind within = elim (cases_Bool (nat_lt x b)) [
  | inl less ↦ let rest : place_among xs b ≤ k = grind (arith, nat_tests) in from-place x b k xs up.1 rest (omega arith)
  | inr not ↦
      let least : b ≤ x = grind (arith, nat_tests) in
      let later = Ascends-place x k xs up.1 (omega arith) in omega arith
]

-- a number below one stands before its place
pub place-past : (b k : ℕ) (codes : List ℕ) → Ascends 0 codes → k < length codes → slice_index codes k < b
    → k + 1 ≤ place_among codes b
place-past b k codes up within less = elim (cases_lt k (place_among codes b)) [
  | inl before ↦ omega arith
  | inr behind ↦ let least = from-place 0 b k codes up (omega arith) within in absurd (omega arith)
]

-- and one that is not stands after it
pub place-until : (b k : ℕ) (codes : List ℕ) → Ascends 0 codes → b ≤ slice_index codes k → place_among codes b ≤ k
place-until b k codes up least = elim (cases_lt k (place_among codes b)) [
  | inl before ↦ let less = below-place 0 b k codes up before in absurd (omega arith)
  | inr behind ↦ omega arith
]

-- what holds of each number from one on holds of the range
pub All-range : (P : ℕ → Type 0) (a m : ℕ) → ((j : ℕ) → a ≤ j → j < a + m → P j) → All P (range_with_len a m)
All-range P a zero each = All-nil P
All-range P a (suc m) each =
    All-cons P a (range_with_len (a + 1) m) (each a (omega arith) (omega arith))
    (All-range P (a + 1) m (λ j low high. each j (omega arith) (omega arith)))

-- the numbers at a square's places have its prefix
pub run-prefix : (codes : List ℕ) (n prefix : ℕ) → Ascends 0 codes
    → All (λ place. (slice_index codes place / 4 ^ n ≡ prefix) × (place < length codes)) (run codes n prefix)
unfolding run square_start
run-prefix codes n prefix up =
    let up' = square_start-up' codes n prefix in
    All-range (λ place. (slice_index codes place / 4 ^ n ≡ prefix) × (place < length codes))
    (place_among codes (prefix * 4 ^ n))
    (place_among codes ((prefix + 1) * 4 ^ n) - place_among codes (prefix * 4 ^ n))
    (λ j low high.
    let before : j < place_among codes ((prefix + 1) * 4 ^ n) = omega arith in
    let within : j < length codes = omega (arith, place_among-le codes ((prefix + 1) * 4 ^ n)) in
    let least = from-place 0 (prefix * 4 ^ n) j codes up low within in
    let most = below-place 0 ((prefix + 1) * 4 ^ n) j codes up before in
    (div-eq_of_lt-le (4 ^ n) least most, within))
  where
    square_start-up' : (codes : List ℕ) (n prefix : ℕ)
        → place_among codes (prefix * 4 ^ n) ≤ place_among codes ((prefix + 1) * 4 ^ n)
    square_start-up' codes n prefix = place_among-up codes (prefix * 4 ^ n) ((prefix + 1) * 4 ^ n) (grind arith)
