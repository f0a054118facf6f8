-- The widths of the levels below a square, by the digits below it.
use Rattle.std.proofs.Common.{◌≡◌, ℕ, zero, suc, ◌+◌, ◌-◌, ◌*◌, ◌/◌, ◌<◌, ◌≤◌}
use Rattle.std.proofs.Common.{List, [], ◌∷◌, ◌++◌, refl, sym, ap, ◌∙◌, inl, inr, arith}
use Rattle.std.proofs.lemmas.Bool.{cases_lt, le-ltb, lt-ltb}
use Rattle.k2_tree.specs.Widths.{levels_with, widths_of, digits_in, width_below, widths_under}
use Rattle.k2_tree.proofs.LevelLemmas.{digits_in-append}

-- so many levels of one width take so many digits
pub digits_in-levels_with : (w b : ℕ) → digits_in (levels_with w b) ≡ w * b
unfolding digits_in levels_with
digits_in-levels_with w zero = omega arith
digits_in-levels_with w (suc b) = omega (arith, digits_in-levels_with w b)

-- all digits
pub digits_in-widths_of : (n k : ℕ) → 2 * k ≤ n → digits_in (widths_of n k) ≡ n
digits_in-widths_of n k fits =
    omega (
      arith,
      digits_in-append (levels_with 2 k) (levels_with 1 (n - 2 * k)),
      digits_in-levels_with 2 k,
      digits_in-levels_with 1 (n - 2 * k),
    )

pub digits_in-widths_under : (low n : ℕ) → digits_in (widths_under low n) ≡ n
digits_in-widths_under low n = digits_in-widths_of n ((n - low) / 2) (omega arith)

-- a tree's widths are those below its top
pub widths_under-top : (height wide : ℕ) → 2 * wide ≤ height → widths_under (height - 2 * wide) height
    ≡ widths_of height wide
widths_under-top height wide fits =
    let e : (height - (height - 2 * wide)) / 2 ≡ wide = omega arith in ap (widths_of height) e

-- below the cells there is none
pub widths_under-none : (low : ℕ) → widths_under low 0 ≡ []
unfolding levels_with
widths_under-none low =
    let e : (0 - low) / 2 ≡ 0 = omega arith in rw e refl

-- the level below a square, and those below its children
pub widths_under-opened : (low n : ℕ) → 0 < n
    → widths_under low n ≡ width_below low n ∷ widths_under low (n - width_below low n)
unfolding levels_with
widths_under-opened low n some = elim (cases_lt (low + 1) n) [
  | inl wide ↦
      let k : ℕ = (n - 2 - low) / 2 in
      let a : (n - low) / 2 ≡ suc k = omega arith in
      let b : n - 2 * suc k ≡ n - 2 - 2 * k = omega arith in
      rw (lt-ltb (low + 1) n wide, a, b) refl
  | inr narrow ↦
      let a : (n - low) / 2 ≡ 0 = omega arith in
      let b : (n - 1 - low) / 2 ≡ 0 = omega arith in
      let c : n - 2 * 0 ≡ suc (n - 1 - 2 * 0) = omega arith in
      rw (le-ltb (low + 1) n narrow, a, b, c) refl
]

-- a level takes one digit or two, and no more than there are
pub width_below-within : (low n : ℕ) → 0 < n
    → (1 ≤ width_below low n) × (width_below low n ≤ n) × (width_below low n ≤ 2)
width_below-within low n some = elim (cases_lt (low + 1) n) [
  | inl wide ↦ rw (lt-ltb (low + 1) n wide) (omega arith, omega arith, omega arith)
  | inr narrow ↦ rw (le-ltb (low + 1) n narrow) (omega arith, omega arith, omega arith)
]

-- the first of a list and the others
pub firsts : (x y : ℕ) (xs ys : List ℕ) → x ∷ xs ≡ y ∷ ys → (x ≡ y) × (xs ≡ ys)
firsts x y xs ys e = (ap first_of e, ap rest_of e)
  where
    first_of : List ℕ → ℕ
    first_of [] = 0
    first_of (z ∷ zs) = z

    rest_of : List ℕ → List ℕ
    rest_of [] = []
    rest_of (z ∷ zs) = zs

-- what stands after some levels are all levels below a square
pub widths_under-behind : (low m : ℕ) (xs ys : List ℕ) → xs ++ ys ≡ widths_under low m → ys
    ≡ widths_under low (digits_in ys)
widths_under-behind low m [] ys parted =
    parted ∙ ap (widths_under low) (sym (ap digits_in parted ∙ digits_in-widths_under low m))
widths_under-behind low m (x ∷ xs) ys parted = elim (cases_lt 0 m) [
  | inl some ↦
      widths_under-behind low (m - width_below low m) xs ys
      (firsts x (width_below low m) (xs ++ ys) (widths_under low (m - width_below low m))
      (parted ∙ widths_under-opened low m some)).1
  | inr none ↦
      let e : m ≡ 0 = omega arith in
      let clash : x ∷ xs ++ ys ≡ [] = parted ∙ ap (widths_under low) e ∙ widths_under-none low in
      absurd (cc)
]
