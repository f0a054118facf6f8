-- Morton numbers some digits at a time.
use Rattle.std.proofs.Common.{◌≡◌, ℕ, zero, suc, ◌+◌, ◌-◌, ◌*◌, ◌/◌, ◌%◌, ◌^◌, ◌<◌, ◌≤◌, ◌==◌, ◌&&◌, Bool, true, refl, sym, ap, ◌∙◌, inl, inr, arith, lit<}
use Rattle.std.proofs.Math.Nat.{div-one, div-eq_of_lt, pow-suc, pow-le-pow_right}
use Rattle.std.proofs.Math.Pow.{mod-mod-pow}
use Rattle.std.proofs.lemmas.Nat.{field_of, shr-shr}
use Rattle.std.proofs.lemmas.Bool.{and_parts, cases_lt}
use Rattle.std.proofs.lemmas.Bool.Decides.{nat_tests}
use Rattle.track_types.specs.declared.limit.TheConstants.{MAX_HEIGHT}
use Rattle.k2_tree.specs.Morton.{interleaved}
use Rattle.k2_tree.proofs.MortonLemmas.{interleaved-lt}

-- whether a test holds of all numbers below a bound
unfoldable pub all_below : ℕ → (ℕ → Bool) → Bool
all_below zero test = true
all_below (suc n) test = test n && all_below n test

-- then two functions that it compares agree
pub agree_below : (n : ℕ) (f g : ℕ → ℕ) → all_below n (λ x. f x == g x) ≡ true → (x : ℕ) → x < n → f x ≡ g x
unfolding all_below
agree_below zero f g all x below = absurd (omega arith)
agree_below (suc n) f g all x below =
    let parts = and_parts (f n == g n) (all_below n (λ y. f y == g y)) all in
    elim (cases_lt x n) [
      | inl less ↦ agree_below n f g parts.1 x less
      | inr last ↦
          let last_is : x ≡ n = omega arith in
          let same : f n ≡ g n = grind (arith, nat_tests, parts.0) in
          rw last_is same
    ]

-- a number's digits are those of its row, twice, and of its column
pub interleaved-parts : (n row column : ℕ) → interleaved n row column ≡ 2 * interleaved n 0 row + interleaved n 0 column
unfolding interleaved
interleaved-parts zero row column = omega arith
interleaved-parts (suc n) row column = omega (arith, interleaved-parts n (row / 2) (column / 2))

-- only the lowest bits count
pub interleaved-mod : (n column : ℕ) → interleaved n 0 (column % 2 ^ n) ≡ interleaved n 0 column
unfolding interleaved
interleaved-mod zero column = refl
interleaved-mod (suc n) column =
    let next : n + 1 ≡ suc n = omega arith in
    let half : column % 2 ^ suc n / 2 ≡ column / 2 % 2 ^ n = ap (λ k. column % 2 ^ k / 2) (sym next) ∙ field_of column n 1 in
    let low : column % 2 ^ suc n % 2 ≡ column % 2 = ap (λ k. column % 2 ^ k % 2) (sym next) ∙ mod-mod-pow column n 1 in
    rw (half, low) (omega (arith, interleaved-mod n (column / 2)))

-- nothing has no digits
interleaved-none : (n : ℕ) → interleaved n 0 0 ≡ 0
unfolding interleaved
interleaved-none zero = refl
interleaved-none (suc n) = omega (arith, interleaved-none n)

-- what is past a bit and m more
halved : (m x : ℕ) → x / 2 / 2 ^ m ≡ x / 2 ^ suc m
halved m x =
    let one : x / 2 ≡ x / 2 ^ 1 = omega arith in
    let next : 1 + m ≡ suc m = omega arith in
    ap (λ y. y / 2 ^ m) one ∙ shr-shr x 1 m ∙ ap (λ k. x / 2 ^ k) next

-- the m lowest digits and those above
pub interleaved-split : (m n row column : ℕ)
    → interleaved (m + n) row column ≡ 4 ^ m * interleaved n (row / 2 ^ m) (column / 2 ^ m) + interleaved m row column
unfolding interleaved
interleaved-split zero n row column = let none : 0 + n ≡ n = omega arith in rw (none, div-one row, div-one column) (omega arith)
interleaved-split (suc m) n row column =
    let rest = rw (halved m row, halved m column) at (interleaved-split m n (row / 2) (column / 2)) in
    let next : suc m + n ≡ suc (m + n) = omega arith in
    rw (next, pow-suc 4 m) (omega (arith, rest))

-- sixteen digits more
pub interleaved-half : (top half row column code : ℕ) → 0 < half → half ≤ top
    → code ≡ interleaved (16 * (top - half)) (row / 2 ^ (16 * half)) (column / 2 ^ (16 * half))
    → 4294967296 * code
    + (2 * interleaved 16 0 (row / 2 ^ (16 * (half - 1))) + interleaved 16 0 (column / 2 ^ (16 * (half - 1))))
    ≡ interleaved (16 * (top - (half - 1))) (row / 2 ^ (16 * (half - 1))) (column / 2 ^ (16 * (half - 1)))
interleaved-half top half row column code some within is =
    let n = 16 * (top - half) in
    let r = row / 2 ^ (16 * (half - 1)) in
    let c = column / 2 ^ (16 * (half - 1)) in
    let next : 16 * (half - 1) + 16 ≡ 16 * half = omega arith in
    let count : 16 * (top - (half - 1)) ≡ 16 + n = omega arith in
    let rows : r / 2 ^ 16 ≡ row / 2 ^ (16 * half) = shr-shr row (16 * (half - 1)) 16 ∙ ap (λ k. row / 2 ^ k) next in
    let columns : c / 2 ^ 16 ≡ column / 2 ^ (16 * half) =
    shr-shr column (16 * (half - 1)) 16 ∙ ap (λ k. column / 2 ^ k) next in
    let split = rw (rows, columns, ← is) at (interleaved-split 16 n r c) in
    sym (ap (λ m. interleaved m r c) count ∙ split ∙ ap (λ low. 4294967296 * code + low) (interleaved-parts 16 r c))

-- the number so far is small
pub interleaved-few : (height half row column code : ℕ) → height ≤ MAX_HEIGHT → 0 < half
    → code ≡ interleaved (16 * ((height + 15) / 16 - half)) row column → code < 2 ^ 32
interleaved-few height half row column code few some is =
    let count = 16 * ((height + 15) / 16 - half) in
    let most : 4 ^ count ≤ 4 ^ 16 = pow-le-pow_right {n = 4} (lit< tt) {i = count} {j = 16} (omega arith) in
    omega (arith, is, interleaved-lt count row column, most)

-- halves that have all digits
pub interleaved-end : (height row column code : ℕ) → row < 2 ^ height → column < 2 ^ height
    → code ≡ interleaved (16 * ((height + 15) / 16 - 0)) (row / 2 ^ (16 * 0)) (column / 2 ^ (16 * 0)) → code ≡ interleaved height row column
interleaved-end height row column code low narrow is =
    let j = 16 * ((height + 15) / 16) - height in
    let count : 16 * ((height + 15) / 16 - 0) ≡ height + j = omega arith in
    let split = rw (div-eq_of_lt low, div-eq_of_lt narrow, interleaved-none j) at (interleaved-split height j row column) in
    let whole : code ≡ interleaved (height + j) row column =
    (rw (div-one row, div-one column) at is) ∙ ap (λ n. interleaved n row column) count in
    whole ∙ split ∙ omega arith
