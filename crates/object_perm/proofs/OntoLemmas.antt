-- In a permutation of places each place stands somewhere.
use Rattle.std.proofs.Common.{◌≡◌, ℕ, zero, suc, ◌-◌, ◌<◌, ◌≤◌, ◌⊎◌, inl, inr, cond, leb, eqb, List, length}
use Rattle.std.proofs.Common.{get_or, ap, arith}
use Rattle.std.proofs.lemmas.Bool.{cases_lt, cases_order, eq-eqb, le-leb, lt-leb}
use Rattle.std.proofs.lemmas.List.Sums.{fails_before_first}
use Rattle.object_perm.specs.Permutation.{PermutesPlaces, inverse_of}

-- the numbers without v, closed up
closed_up : ℕ → ℕ → ℕ
closed_up v x = cond (leb x v) x (x - 1)

-- a number below v stays, one above it is one less
on_a_side : (v x : ℕ) → (x ≡ v → ⊥) → ((x < v) × (closed_up v x ≡ x)) ⊎ ((v < x) × (closed_up v x ≡ x - 1))
unfolding closed_up
on_a_side v x other = elim (cases_order x v) [
  | inl same ↦ absurd (other same)
  | inr apart ↦ elim apart [
    | inl less ↦ inl (less, ap (λ b. cond b x (x - 1)) (le-leb x v (omega arith)))
    | inr more ↦ inr (more, ap (λ b. cond b x (x - 1)) (lt-leb x v more))
  ]
]

-- different numbers stay different
closed_up-apart : (v x y : ℕ) → (x ≡ v → ⊥) → (y ≡ v → ⊥) → closed_up v x ≡ closed_up v y → x ≡ y
closed_up-apart v x y x_other y_other same = elim (on_a_side v x x_other) [
  | inl a ↦ elim (on_a_side v y y_other) [
    | inl b ↦ omega (arith, a.0, a.1, b.0, b.1, same)
    | inr b ↦ omega (arith, a.0, a.1, b.0, b.1, same)
  ]
  | inr a ↦ elim (on_a_side v y y_other) [
    | inl b ↦ omega (arith, a.0, a.1, b.0, b.1, same)
    | inr b ↦ omega (arith, a.0, a.1, b.0, b.1, same)
  ]
]

-- and they are one fewer
closed_up-within : (v x m : ℕ) → (x ≡ v → ⊥) → x < m → v < m → closed_up v x < m - 1
closed_up-within v x m other x_within v_within = elim (on_a_side v x other) [
  | inl a ↦ omega (arith, a.0, a.1)
  | inr a ↦ omega (arith, a.0, a.1)
]

-- different numbers below m are at most m
no_more : (n m : ℕ) (f : ℕ → ℕ) → ((i : ℕ) → i < n → f i < m)
    → ((i j : ℕ) → i < n → j < n → f i ≡ f j → i ≡ j) → n ≤ m
no_more zero m f within apart = omega arith
no_more (suc n) m f within apart =
    let last : f n < m = within n (omega arith) in
    let other : (i : ℕ) → i < n → f i ≡ f n → ⊥ =
    λ i less same. let e = apart i n (omega arith) (omega arith) same in omega (arith, e, less) in
    let fewer : n ≤ m - 1 =
    no_more n (m - 1) (λ i. closed_up (f n) (f i))
    (λ i less. closed_up-within (f n) (f i) m (other i less) (within i (omega arith)) last)
    (λ i j a b same. apart i j (omega arith) (omega arith)
    (closed_up-apart (f n) (f i) (f j) (other i a) (other j b) same)) in
    omega arith

-- a value has its place
pub inverse_of-within : (values : List ℕ) (v : ℕ) → PermutesPlaces values → v < length values
    → inverse_of values v < length values
inverse_of-within values v permutes within = elim (cases_lt (inverse_of values v) (length values)) [
  | inl less ↦ less
  | inr past ↦
      let other : (i : ℕ) → i < length values → get_or values i 0 ≡ v → ⊥ =
      λ i less there.
      let fails = fails_before_first (λ value. eqb value v) values i 0 (omega arith) in
      let passes = eq-eqb (get_or values i 0) v there in cc in
      let few : length values ≤ length values - 1 =
      no_more (length values) (length values - 1) (λ i. closed_up v (get_or values i 0))
      (λ i less. closed_up-within v (get_or values i 0) (length values) (other i less) (permutes.within i less) within)
      (λ i j a b same. permutes.apart i j a b
      (closed_up-apart v (get_or values i 0) (get_or values j 0) (other i a) (other j b) same)) in
      absurd (omega arith)
]
