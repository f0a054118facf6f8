-- Digits that are read from the left, several a turn.
use Rattle.std.proofs.Common.{◌≡◌, true, ℕ, zero, suc, ◌+◌, ◌-◌, ◌*◌, ◌^◌, ◌<◌, ◌≤◌, List, [], ◌∷◌, ◌++◌, length, get_or, take, drop, ap, refl, sym, ◌∙◌, arith, length-append}
use Rattle.std.proofs.lemmas.List.{take_rest}
use Rattle.std.proofs.Math.Seq.{drop-cons}
use Rattle.std.proofs.Math.Nat.{mul-le-mul_left, mul-le-mul_right, pow-le-pow_right, pow-suc}
use Rattle.std.proofs.lemmas.Bool.{and_parts}
use Rattle.std.proofs.lemmas.Nat.{pow-add}
use Rattle.std.proofs.lemmas.List.Folds.{list_all-append}
use Rattle.std.specs.List.{list_all}
use Rattle.track_types.specs.Numeral.{is_digit, magnitude_of}
use Rattle.track_types.proofs.Magnitudes.{digit_below, le_pow, magnitude_of-append}

-- of digits, those before `left` are read, and mean a value
pub record IsReadTo (digits left : List ℕ) (value : ℕ) : Type 0 where
  pub small : (value + 1) * 10 ^ length left ≤ 10 ^ 18
  pub so_far : value * 10 ^ length left + magnitude_of left ≡ magnitude_of digits
  pub decimal : list_all is_digit left ≡ list_all is_digit digits
  pub fewer : length left ≤ length digits

-- at the start none is read
pub IsReadTo-all : (digits : List ℕ) → length digits ≤ 18 → IsReadTo digits digits 0
IsReadTo-all digits few =
    let most : 10 ^ length digits ≤ 10 ^ 18 = pow-le-pow_right {n = 10} (omega arith) {i = length digits} {j = 18} few in
    record { small = omega arith; so_far = omega arith; decimal = refl; fewer = omega arith }

-- what is read means less than 10^18
pub IsReadTo-below : (digits left : List ℕ) (value : ℕ) → IsReadTo digits left value → value < 10 ^ 18
IsReadTo-below digits left value read = omega (arith, le_pow (value + 1) (length left), read.small)

-- so it may be moved as many places to the front as there are digits left
pub IsReadTo-places : (digits left : List ℕ) (value n : ℕ) → IsReadTo digits left value → n ≤ length left →
    10 ^ n * value ≤ 10 ^ 18
IsReadTo-places digits left value n read long =
    let most : 10 ^ n ≤ 10 ^ length left = pow-le-pow_right {n = 10} (omega arith) {i = n} {j = length left} long in
    let times : (value + 1) * 10 ^ n ≤ (value + 1) * 10 ^ length left = mul-le-mul_left (value + 1) most in
    let same : (value + 1) * 10 ^ n ≡ 10 ^ n * value + 10 ^ n = grind arith in
    omega (arith, times, same, read.small)

-- digits mean less than the power of ten of their number
magnitude_of_below : (digits : List ℕ) → list_all is_digit digits ≡ true → magnitude_of digits < 10 ^ length digits
magnitude_of_below [] is = omega arith
magnitude_of_below (digit ∷ rest) is =
    let parts = and_parts (is_digit digit) (list_all is_digit rest) is in
    let less : digit - 48 ≤ 9 = omega (arith, digit_below digit parts.0) in
    let most : (digit - 48) * 10 ^ length rest ≤ 9 * 10 ^ length rest = mul-le-mul_right (10 ^ length rest) less in
    let later : magnitude_of rest < 10 ^ length rest = magnitude_of_below rest parts.1 in
    rw (pow-suc 10 (length rest)) (omega (arith, most, later))

-- places move to the front of what is left
module _ (value part front rest : ℕ) where
  places_small : (most : ℕ) → part < front → (value + 1) * (front * rest) ≤ most → (front * value + part + 1) * rest ≤ most
  places_small most less before =
      let few : front * value + part + 1 ≤ front * (value + 1) = grind (arith, less) in
      let times : (front * value + part + 1) * rest ≤ (front * (value + 1)) * rest = mul-le-mul_right rest few in
      let same : (front * (value + 1)) * rest ≡ (value + 1) * (front * rest) = grind arith in
      omega (arith, times, same, before)

  places_same : (last : ℕ) → (front * value + part) * rest + last ≡ value * (front * rest) + (part * rest + last)
  places_same last = grind arith

-- the front of what is left is read, too
read_more : (digits front rest : List ℕ) (value : ℕ) → list_all is_digit front ≡ true → IsReadTo digits (front ++ rest) value →
    IsReadTo digits rest (10 ^ length front * value + magnitude_of front)
read_more digits front rest value is read =
    let long : 10 ^ length (front ++ rest) ≡ 10 ^ length front * 10 ^ length rest = rw (length-append front rest) (pow-add 10 (length front) (length rest)) in
    let small : (value + 1) * (10 ^ length front * 10 ^ length rest) ≤ 10 ^ 18 = rw (← long) read.small in
    let so_far : value * (10 ^ length front * 10 ^ length rest) + (magnitude_of front * 10 ^ length rest + magnitude_of rest) ≡ magnitude_of digits =
    rw (← long, ← magnitude_of-append front rest) read.so_far in
    record {
      small = places_small value (magnitude_of front) (10 ^ length front) (10 ^ length rest) (10 ^ 18) (magnitude_of_below front is) small;
      so_far = places_same value (magnitude_of front) (10 ^ length front) (10 ^ length rest) (magnitude_of rest) ∙ so_far;
      decimal = grind (arith, list_all-append is_digit front rest, is, read.decimal);
      fewer = omega (arith, length-append front rest, read.fewer);
    }

-- so many of the digits that are left, from a place on
abbrev pub next_digits : List ℕ → ℕ → ℕ → List ℕ
next_digits left zero place = []
next_digits left (suc n) place = get_or left place 0 ∷ next_digits left n (suc place)

-- they are followed by the rest
next_digits-rest : (left : List ℕ) (n place : ℕ) → place + n ≤ length left →
    next_digits left n place ++ drop (place + n) left ≡ drop place left
next_digits-rest left zero place long =
    let same : place + 0 ≡ place = omega arith in
    rw same refl
next_digits-rest left (suc n) place long =
    let later = next_digits-rest left n (suc place) (omega (arith, long)) in
    let same : place + suc n ≡ suc place + n = omega arith in
    rw (same, later, drop-cons left place 0 (omega (arith, long))) refl

next_digits-all : (left : List ℕ) (n : ℕ) → n ≤ length left → next_digits left n 0 ++ drop n left ≡ left
next_digits-all left n long =
    let same : 0 + n ≡ n = omega arith in
    ap (λ k. next_digits left n 0 ++ drop k left) (sym same) ∙ next_digits-rest left n 0 (omega (arith, long))

-- their number
next_digits-length : (left : List ℕ) (n place : ℕ) → length (next_digits left n place) ≡ n
next_digits-length left zero place = refl
next_digits-length left (suc n) place = ap suc (next_digits-length left n (suc place))

-- several digits at a time
pub read_next : (digits left : List ℕ) (value n : ℕ) → n ≤ length left →
    list_all is_digit (next_digits left n 0) ≡ true →
    IsReadTo digits left value →
    IsReadTo digits (take (length left - n) (drop n left)) (10 ^ n * value + magnitude_of (next_digits left n 0))
read_next digits left value n long is read =
    let next = next_digits left n 0 in
    let split : next ++ drop n left ≡ left = next_digits-all left n long in
    let more = read_more digits next (drop n left) value is (rw split read) in
    let places : 10 ^ length next ≡ 10 ^ n = ap (λ k. 10 ^ k) (next_digits-length left n 0) in
    rw (take_rest left n, ← places) more
