-- What digits mean, one digit after another.
use Rattle.std.proofs.Common.{◌≡◌, true, ℕ, zero, suc, ◌+◌, ◌-◌, ◌*◌, ◌^◌, ◌<◌, ◌≤◌, List, [], ◌∷◌, ◌++◌, length, get_or, take, drop, refl, arith, length-append, add_assoc, subst}
use Rattle.std.proofs.Math.Nat.{mul_assoc, add-mul, pow-suc}
use Rattle.std.proofs.lemmas.Nat.{pow-add}
use Rattle.std.proofs.lemmas.List.{take_more, take-append-drop}
use Rattle.std.proofs.lemmas.Bool.Decides.{nat_tests}
use Rattle.track_types.specs.Numeral.{is_digit, magnitude_of}

-- digits before others count by the place of the last of them
pub magnitude_of-append : (front back : List ℕ) → magnitude_of (front ++ back) ≡ magnitude_of front * 10 ^ length back + magnitude_of back
magnitude_of-append [] back = omega arith
magnitude_of-append (digit ∷ front) back =
    rw (magnitude_of-append front back, length-append front back, pow-add 10 (length front) (length back), add-mul, mul_assoc, add_assoc) refl

-- one digit more
pub magnitude_of-take : (digits : List ℕ) (i : ℕ) → i < length digits →
    magnitude_of (take (i + 1) digits) ≡ 10 * magnitude_of (take i digits) + (get_or digits i 0 - 48)
magnitude_of-take digits i below = rw (take_more digits i 0 below, magnitude_of-append (take i digits) (get_or digits i 0 ∷ [])) (omega arith)

-- digits in front mean no more than with those that follow
pub le_pow : (m n : ℕ) → m ≤ m * 10 ^ n
le_pow m zero = omega arith
le_pow m (suc n) =
    let before : m ≤ m * 10 ^ n = le_pow m n in
    rw (pow-suc 10 n, ← mul_assoc m (10 ^ n) 10) (omega arith)

pub magnitude_of_front : (front back : List ℕ) → magnitude_of front ≤ magnitude_of (front ++ back)
magnitude_of_front front back = rw (magnitude_of-append front back) (omega (arith, le_pow (magnitude_of front) (length back)))

-- the digits before a place mean no more than all of them
pub magnitude_of_before : (digits : List ℕ) (i : ℕ) → magnitude_of (take i digits) ≤ magnitude_of digits
magnitude_of_before digits i =
    let P : List ℕ → Type 0 = λ all. magnitude_of (take i digits) ≤ magnitude_of all in
    subst P (take-append-drop i digits) (magnitude_of_front (take i digits) (drop i digits))

-- a digit means less than ten
pub digit_below : (digit : ℕ) → is_digit digit ≡ true → digit - 48 < 10
digit_below digit is = grind (arith, nat_tests)
