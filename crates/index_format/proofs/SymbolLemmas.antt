-- Numbers of so many bits each: what is written is read again, and what is read is written again.
use Rattle.std.proofs.Common.{◌≡◌, ℕ, zero, suc, ◌+◌, ◌*◌, ◌^◌, ◌<◌, Bool, List, [], ◌∷◌, ◌++◌, length, take, drop, refl, sym, ap, ◌∙◌, arith, All, append-nil, drop-drop}
use Rattle.std.proofs.Math.Nat.{mod-eq_of_lt}
use Rattle.std.proofs.lemmas.List.{take_at, drop_at, take-append-drop, length-append, length-drop, length-take-le}
use Rattle.std.proofs.lemmas.List.Elements.{All-nil, All-cons}
use Rattle.std.proofs.lemmas.Grind.{flat_map-append}
use Rattle.packed_bits.specs.Bits.{number_of, window_of}
use Rattle.packed_bits.specs.Words.{low_bits}
use Rattle.packed_bits.proofs.NumberLemmas.{number_of-lt, same_from_number_of}
use Rattle.packed_bits.proofs.WordLemmas.{length-low_bits, number_of-low_bits}
use Rattle.index_format.specs.Fields.{numbers_from_bits}
use Rattle.index_format.specs.Spelling.{bits_with}

-- so many bits for each number
pub length-bits_with : (width : ℕ) (numbers : List ℕ) → length (bits_with width numbers) ≡ width * length numbers
unfolding bits_with
length-bits_with width [] = omega arith
length-bits_with width (n ∷ numbers) =
    omega (arith, length-append (low_bits width n) (bits_with width numbers), length-low_bits width n, length-bits_with width numbers)

-- what was written is read again
pub numbers_from_bits-bits_with : (width : ℕ) (numbers : List ℕ) → All (λ n. n < 2 ^ width) numbers
    → numbers_from_bits width (length numbers) (bits_with width numbers) ≡ numbers
unfolding numbers_from_bits bits_with
numbers_from_bits-bits_with width [] small = refl
numbers_from_bits-bits_with width (n ∷ numbers) small =
    let front = take_at (low_bits width n) (bits_with width numbers) width (length-low_bits width n) in
    let back = drop_at (low_bits width n) (bits_with width numbers) width (length-low_bits width n) in
    let first : number_of (low_bits width n) ≡ n = number_of-low_bits width n ∙ mod-eq_of_lt (small 0 n (omega arith)) in
    rw (front, back, first)
    (ap (λ rest. n ∷ rest) (numbers_from_bits-bits_with width numbers (λ k d h. small (suc k) d (omega arith))))

-- the lowest bits of the number that bits spell are these bits
low_bits-number_of : (bits : List Bool) → low_bits (length bits) (number_of bits) ≡ bits
low_bits-number_of bits =
    same_from_number_of (low_bits (length bits) (number_of bits)) bits (length-low_bits (length bits) (number_of bits))
    (number_of-low_bits (length bits) (number_of bits) ∙ mod-eq_of_lt (number_of-lt bits))

-- what was read is written again
pub bits_with-numbers_from_bits : (width n : ℕ) (bits : List Bool) → length bits ≡ width * n → bits_with width (numbers_from_bits width n bits) ≡ bits
unfolding numbers_from_bits bits_with
bits_with-numbers_from_bits width zero [] long = refl
bits_with-numbers_from_bits width zero (bit ∷ bits) long = absurd (omega arith)
bits_with-numbers_from_bits width (suc n) bits long =
    let front : length (take width bits) ≡ width = length-take-le width bits (omega arith) in
    let first : low_bits width (number_of (take width bits)) ≡ take width bits =
    ap (λ k. low_bits k (number_of (take width bits))) (sym front) ∙ low_bits-number_of (take width bits) in
    let rest = bits_with-numbers_from_bits width n (drop width bits) (omega (arith, length-drop width bits)) in
    rw (first, rest) (take-append-drop width bits)

-- as many as were asked for
pub length-numbers_from_bits : (width n : ℕ) (bits : List Bool) → length (numbers_from_bits width n bits) ≡ n
unfolding numbers_from_bits
length-numbers_from_bits width zero bits = refl
length-numbers_from_bits width (suc n) bits = ap suc (length-numbers_from_bits width n (drop width bits))

-- each of them has that many bits
pub small-numbers_from_bits : (width n : ℕ) (bits : List Bool) → length bits ≡ width * n → All (λ n. n < 2 ^ width) (numbers_from_bits width n bits)
unfolding numbers_from_bits
small-numbers_from_bits width zero bits long = All-nil (λ n. n < 2 ^ width)
small-numbers_from_bits width (suc n) bits long =
    let front : length (take width bits) ≡ width = length-take-le width bits (omega arith) in
    let first : number_of (take width bits) < 2 ^ width = rw front at (number_of-lt (take width bits)) in
    All-cons (λ n. n < 2 ^ width) (number_of (take width bits)) (numbers_from_bits width n (drop width bits)) first
    (small-numbers_from_bits width n (drop width bits) (omega (arith, length-drop width bits)))

-- one more is the window after the others
numbers_from_bits-next : (width n : ℕ) (bits : List Bool)
    → numbers_from_bits width (suc n) bits ≡ numbers_from_bits width n bits ++ window_of bits (width * n) width ∷ []
unfolding numbers_from_bits window_of
numbers_from_bits-next width zero bits = let e : width * 0 ≡ 0 = omega arith in rw e refl
numbers_from_bits-next width (suc n) bits =
    let place : width + width * n ≡ width * suc n = omega arith in
    ap (λ rest. number_of (take width bits) ∷ rest) (numbers_from_bits-next width n (drop width bits)
    ∙ ap (λ behind. numbers_from_bits width n (drop width bits) ++ number_of (take width behind) ∷ [])
    (drop-drop (width * n) width bits ∙ ap (λ p. drop p bits) place))

pub numbers_from_bits-more : (width n : ℕ) (bits : List Bool)
    → numbers_from_bits width (n + 1) bits ≡ numbers_from_bits width n bits ++ window_of bits (width * n) width ∷ []
numbers_from_bits-more width n bits =
    let e : n + 1 ≡ suc n = omega arith in ap (λ k. numbers_from_bits width k bits) e ∙ numbers_from_bits-next width n bits

-- one number more has its bits after the others'
pub bits_with-more : (width : ℕ) (numbers : List ℕ) (n : ℕ) → bits_with width (numbers ++ n ∷ []) ≡ bits_with width numbers ++ low_bits width n
unfolding bits_with
bits_with-more width numbers n =
    flat_map-append (low_bits width) numbers (n ∷ [])
    ∙ ap (λ rest. bits_with width numbers ++ rest) (append-nil (low_bits width n))
