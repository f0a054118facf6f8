-- Bits left in bytes: how many, the window on the first of them, and what is left after some.
use Rattle.std.proofs.Common.{◌≡◌, ℕ, zero, suc, ◌+◌, ◌-◌, ◌*◌, ◌/◌, ◌%◌, ◌^◌, ◌<◌, ◌≤◌, nat_le, ltb, Bool, true, false, List, [], ◌∷◌, length, take, drop, get_or, Ok, Err, refl, sym, ap, ◌∙◌, inl, inr, arith, drop-drop, lit<}
use Rattle.std.proofs.Math.Nat.{div-eq_of_lt, mod-eq_of_lt, pow-le-pow_right}
use Rattle.std.specs.Int.{w64, bit_at, trailing_zeros}
use Rattle.std.specs.Int.Count.{trailing_of_zero}
use Rattle.std.proofs.lemmas.Nat.{pow_pos, shr-shr, field_of}
use Rattle.std.proofs.lemmas.Nat.Bits.{bit_at-trailing_zeros}
use Rattle.std.proofs.lemmas.Bool.{cases_lt, le-ltb, lt-ltb}
use Rattle.std.proofs.lemmas.Bool.Decides.{nat_tests}
use Rattle.std.proofs.lemmas.List.{length-drop, take_at, drop-take}
use Rattle.packed_bits.specs.Bits.{number_of, ones_of, window_of}
use Rattle.packed_bits.proofs.NumberLemmas.{number_of-lt, number_of-take, number_of-drop, window_of-inside}
use Rattle.packed_bits.specs.Words.{low_bits}
use Rattle.packed_bits.proofs.OnesLemmas.{ones_of-nil}
use Rattle.packed_bits.proofs.WordLemmas.{length-low_bits, number_of-low_bits}
use Rattle.bit_stream.specs.declared.fault.BitFault.{BitFault}
use Rattle.bit_stream.specs.declared.fault.BitFault.TheVariants.{Short, Large}
use Rattle.bit_stream.specs.Bytes.{bits_in, IsInside}
use Rattle.bit_stream.specs.Numbers.{low_in, zeros_in, digits_in, number_in}
use Rattle.bit_stream.proofs.BytesLemmas.{length-bits_in, drop-bits_in, any_one}

-- the bits after the used ones of the first byte
abbrev pub left_in : ℕ → List ℕ → List Bool
left_in used bytes = drop used (bits_in bytes)

module _ (used : ℕ) (bytes : List ℕ) (inside : IsInside used bytes) where
  -- eight a byte, but for the used ones
  pub length-left : length (left_in used bytes) + used ≡ 8 * length bytes
  length-left = omega (arith, length-drop used (bits_in bytes), length-bits_in bytes, inside.there)

  -- whether so many are left shows by the bytes
  pub has-left : (count : ℕ) → nat_le ((used + count + 7) / 8) (length bytes) ≡ nat_le count (length (left_in used bytes))
  has-left count = grind (arith, nat_tests, length-left, inside.there)

  module _ (count : ℕ) (there : count ≤ length (left_in used bytes)) where
    -- the byte in which the next bit stands is there
    pub skip-within : (used + count) / 8 ≤ length bytes
    skip-within = omega (arith, length-left)

    -- what is left after so many bits
    pub skip-left : left_in ((used + count) % 8) (drop ((used + count) / 8) bytes) ≡ drop count (left_in used bytes)
    skip-left =
        let k = (used + count) / 8 in
        let place : (used + count) % 8 + 8 * k ≡ count + used = omega arith in
        ap (drop ((used + count) % 8)) (sym (drop-bits_in k bytes skip-within))
        ∙ drop-drop ((used + count) % 8) (8 * k) (bits_in bytes)
        ∙ ap (λ n. drop n (bits_in bytes)) (omega (arith, place))
        ∙ sym (drop-drop count used (bits_in bytes))

    -- and the byte in which it stands
    pub skip-inside : IsInside ((used + count) % 8) (drop ((used + count) / 8) bytes)
    skip-inside =
        record { within = omega arith; there = omega (arith, length-drop ((used + count) / 8) bytes, length-left) }

-- the first word shows the next 57 bits
pub window-left : (used n word : ℕ) (bytes : List ℕ) → used < 8 → n ≤ 57 → word ≡ window_of (bits_in bytes) 0 64
    → word / 2 ^ used % 2 ^ n ≡ window_of (left_in used bytes) 0 n
unfolding window_of
window-left used n word bytes few narrow is =
    let none : 0 + used ≡ used = omega arith in
    ap (λ w. w / 2 ^ used % 2 ^ n) is ∙ sym (window_of-inside (bits_in bytes) 0 used n 64 (omega arith))
    ∙ ap (λ p. window_of (bits_in bytes) p n) none

-- bits 0 alone, too few of them
pub zeros_in-short : (most : ℕ) (bits : List Bool) → number_of (take (suc most) bits) ≡ 0 → length bits ≤ most
    → zeros_in most bits ≡ Err Short
unfolding zeros_in number_of
zeros_in-short most [] none few = refl
zeros_in-short zero (bit ∷ bits) none few = absurd (omega arith)
zeros_in-short (suc most) (true ∷ bits) none few = absurd (omega arith)
zeros_in-short (suc most) (false ∷ bits) none few = rw (zeros_in-short most bits (omega arith) (omega arith)) refl

-- bits 0 alone, too many of them
pub zeros_in-large : (most : ℕ) (bits : List Bool) → number_of (take (suc most) bits) ≡ 0 → most < length bits
    → zeros_in most bits ≡ Err Large
unfolding zeros_in number_of
zeros_in-large most [] none many = absurd (omega arith)
zeros_in-large zero (true ∷ bits) none many = absurd (omega arith)
zeros_in-large zero (false ∷ bits) none many = refl
zeros_in-large (suc most) (true ∷ bits) none many = absurd (omega arith)
zeros_in-large (suc most) (false ∷ bits) none many = rw (zeros_in-large most bits (omega arith) (omega arith)) refl

-- nothing has no digit
div-zero : (i : ℕ) → 0 / 2 ^ i ≡ 0
div-zero i = div-eq_of_lt (pow_pos i)

-- a digit behind a bit 0
next : (bits : List Bool) (i : ℕ) → (0 + 2 * number_of bits) / 2 ^ suc i % 2 ≡ number_of bits / 2 ^ i % 2
next bits i =
    let half : (0 + 2 * number_of bits) / 2 ^ 1 ≡ number_of bits = omega arith in
    let width : 1 + i ≡ suc i = omega arith in
    sym (ap (λ n. n % 2) (shr-shr (0 + 2 * number_of bits) 1 i ∙ ap (λ k. (0 + 2 * number_of bits) / 2 ^ k) width)) ∙ ap (λ n. n / 2 ^ i % 2) half

-- so many bits 0 and then a bit 1
pub zeros_in-seen : (most z : ℕ) (bits : List Bool) → z ≤ most → ((i : ℕ) → i < z → number_of bits / 2 ^ i % 2 ≡ 0)
    → number_of bits / 2 ^ z % 2 ≡ 1 → zeros_in most bits ≡ Ok (z, drop (suc z) bits)
unfolding zeros_in number_of
zeros_in-seen most z [] few zeros one = absurd (omega (arith, one, div-zero z))
zeros_in-seen zero zero (true ∷ bits) few zeros one = refl
zeros_in-seen (suc most) zero (true ∷ bits) few zeros one = refl
zeros_in-seen most zero (false ∷ bits) few zeros one = absurd (omega (arith, one))
zeros_in-seen zero (suc z) bits few zeros one = absurd (omega arith)
zeros_in-seen (suc most) (suc z) (true ∷ bits) few zeros one = absurd (omega (arith, zeros 0 (omega arith)))
zeros_in-seen (suc most) (suc z) (false ∷ bits) few zeros one =
    rw (zeros_in-seen most z bits (omega arith) (λ i below. sym (next bits i) ∙ zeros (suc i) (omega arith)) (sym (next bits z) ∙ one)) refl

-- what the reading of a number is after each of its steps
pub number_in-no_zeros : (bits : List Bool) (fault : BitFault) → zeros_in 5 bits ≡ Err fault → number_in bits ≡ Err fault
unfolding number_in
number_in-no_zeros bits fault read = rw read refl

module _ (z : ℕ) (bits left : List Bool) (zeros : zeros_in 5 bits ≡ Ok (z, left)) where
  pub number_in-no_low : (fault : BitFault) → low_in z left ≡ Err fault → number_in bits ≡ Err fault
  unfolding number_in
  number_in-no_low fault read = rw (zeros, read) refl

  module _ (low digits : ℕ) (behind : List Bool) (read : low_in z left ≡ Ok (low, behind)) (digits_is : digits ≡ 2 ^ z + low) where
    pub number_in-large : 56 < digits → number_in bits ≡ Err Large
    unfolding number_in digits_in
    number_in-large many = rw (zeros, read, ← digits_is, lt-ltb 56 digits many) refl

    module _ (few : digits ≤ 56) where
      pub number_in-no_rest : (fault : BitFault) → low_in (digits - 1) behind ≡ Err fault → number_in bits ≡ Err fault
      unfolding number_in digits_in
      number_in-no_rest fault rest = rw (zeros, read, ← digits_is, le-ltb 56 digits few, rest) refl

      pub number_in-whole : (rest : ℕ) (last : List Bool) → low_in (digits - 1) behind ≡ Ok (rest, last)
          → number_in bits ≡ Ok (2 ^ (digits - 1) + rest - 1, last)
      unfolding number_in digits_in
      number_in-whole rest last is = rw (zeros, read, ← digits_is, le-ltb 56 digits few, is) refl

-- no digit of 0 is 1
all_zeros : (n : ℕ) → n ≡ 0 → trailing_zeros w64 n ≡ 64
all_zeros n none = rw none (trailing_of_zero 64)

-- a number without a 1 among its lowest six digits
nothing : (n : ℕ) → n < 2 ^ 64 → 5 < trailing_zeros w64 n → n % 2 ^ 6 ≡ 0
nothing n small many = elim (cases_lt 0 n) [
  | inl some ↦
      let below = (bit_at-trailing_zeros w64 n some small).2 in
      omega (
        arith,
        below 0 (omega (arith, many)),
        below 1 (omega (arith, many)),
        below 2 (omega (arith, many)),
        below 3 (omega (arith, many)),
        below 4 (omega (arith, many)),
        below 5 (omega (arith, many)),
      )
  | inr none ↦ omega arith
]

module _ (window : ℕ) (bits : List Bool) (shows : (n : ℕ) → n ≤ 57 → window % 2 ^ n ≡ window_of bits 0 n) where
  -- a number of a told width is what the window shows
  pub low_in-window : (width : ℕ) → width ≤ 56 → width ≤ length bits → low_in width bits ≡ Ok (window % 2 ^ width, drop width bits)
  unfolding low_in window_of
  low_in-window width narrow there =
      rw (le-ltb (length bits) width there) (ap (λ n. Ok (n, drop width bits)) (sym (shows width (omega arith))))

  -- and so is one that stands further on
  pub low_in-further : (place width : ℕ) → place + width ≤ 57 → place + width ≤ length bits
      → low_in width (drop place bits) ≡ Ok (window / 2 ^ place % 2 ^ width, drop width (drop place bits))
  unfolding low_in window_of
  low_in-further place width narrow there =
      let same = shows (width + place) (omega arith) ∙ number_of-take (width + place) bits in
      let field = sym (field_of window width place) ∙ ap (λ n. n / 2 ^ place) same ∙ field_of (number_of bits) width place in
      let taken = number_of-take width (drop place bits) ∙ ap (λ n. n % 2 ^ width) (number_of-drop place bits) in
      rw (le-ltb (length (drop place bits)) width (omega (arith, length-drop place bits)))
      (ap (λ n. Ok (n, drop width (drop place bits))) (taken ∙ sym field))

  -- a bit as the window shows it
  shown : (i : ℕ) → i ≤ 56 → number_of bits / 2 ^ i % 2 ≡ bit_at window i
  unfolding window_of
  shown i few =
      let same = shows (1 + i) (omega arith) ∙ number_of-take (1 + i) bits in
      sym (field_of (number_of bits) 1 i) ∙ sym (ap (λ n. n / 2 ^ i) same) ∙ field_of window 1 i

  -- the first six bits are 0
  pub none-shown : 5 < trailing_zeros w64 window → window < 2 ^ 64 → number_of (take 6 bits) ≡ 0
  unfolding window_of
  none-shown many small = sym (shows 6 (omega arith)) ∙ nothing window small many

  -- the first bit 1 is among the first six
  module _ (few : trailing_zeros w64 window ≤ 5) (small : window < 2 ^ 64) where
    lowest : (bit_at window (trailing_zeros w64 window) ≡ 1) × ((i : ℕ) → i < trailing_zeros w64 window → bit_at window i ≡ 0)
    lowest = elim (cases_lt 0 window) [
      | inl some ↦ let facts = bit_at-trailing_zeros w64 window some small in (facts.1, facts.2)
      | inr none ↦ absurd (let e = all_zeros window (omega arith) in omega (arith, e, few))
    ]

    pub zeros_in-shown : zeros_in 5 bits ≡ Ok (trailing_zeros w64 window, drop (suc (trailing_zeros w64 window)) bits)
    zeros_in-shown = zeros_in-seen 5 (trailing_zeros w64 window) bits few
        (λ i below. shown i (omega (arith, few)) ∙ lowest.1 i below)
        (shown (trailing_zeros w64 window) (omega (arith, few)) ∙ lowest.0)

    -- a number that ends within the window
    pub number_in-shown : (z digits : ℕ) → z ≡ trailing_zeros w64 window → digits ≡ 2 ^ z + window / 2 ^ (z + 1) % 2 ^ z
        → 2 * z + digits ≤ 56 → 2 * z + digits ≤ length bits
        → number_in bits ≡ Ok (2 ^ (digits - 1) + window / 2 ^ (2 * z + 1) % 2 ^ (digits - 1) - 1, drop (2 * z + digits) bits)
    number_in-shown z digits z_is digits_is narrow there =
        let some : 0 < digits = omega (arith, digits_is, pow_pos z) in
        let next_is : suc z ≡ z + 1 = omega arith in
        let zeros : zeros_in 5 bits ≡ Ok (z, drop (z + 1) bits) =
        zeros_in-shown ∙ ap (λ n. Ok (n, drop (suc n) bits)) (sym z_is) ∙ ap (λ n. Ok (z, drop n bits)) next_is in
        let behind : drop z (drop (z + 1) bits) ≡ drop (2 * z + 1) bits =
        drop-drop z (z + 1) bits ∙ ap (λ n. drop n bits) (omega arith) in
        let last : drop (digits - 1) (drop (2 * z + 1) bits) ≡ drop (2 * z + digits) bits =
        drop-drop (digits - 1) (2 * z + 1) bits ∙ ap (λ n. drop n bits) (omega (arith, some)) in
        let low = low_in-further (z + 1) z (omega (arith, narrow, some)) (omega (arith, there, some)) in
        let rest = low_in-further (2 * z + 1) (digits - 1) (omega (arith, narrow, some)) (omega (arith, there, some)) in
        number_in-whole z bits (drop (z + 1) bits) zeros (window / 2 ^ (z + 1) % 2 ^ z) digits (drop (2 * z + 1) bits)
        (low ∙ ap (λ left. Ok (window / 2 ^ (z + 1) % 2 ^ z, left)) behind) digits_is (omega (arith, narrow))
        (window / 2 ^ (2 * z + 1) % 2 ^ (digits - 1)) (drop (2 * z + digits) bits)
        (rest ∙ ap (λ left. Ok (window / 2 ^ (2 * z + 1) % 2 ^ (digits - 1), left)) last)

    pub one-there : trailing_zeros w64 window + 1 ≤ length bits
    one-there = elim (cases_lt (trailing_zeros w64 window) (length bits)) [
      | inl low ↦ omega arith
      | inr past ↦ absurd (
          let z = trailing_zeros w64 window in
          let most : 2 ^ length bits ≤ 2 ^ z = pow-le-pow_right {n = 2} (lit< tt) past in
          let none : number_of bits / 2 ^ z ≡ 0 = div-eq_of_lt (omega (arith, most, number_of-lt bits)) in
          let one = shown z (omega (arith, few)) ∙ lowest.0 in
          omega (arith, one, ap (λ n. n % 2) none))
    ]

-- the bits left in the byte in which the next one stands
spare-begun : (used first : ℕ) (rest : List ℕ) → 0 < used → used < 8 → first < 256
    → ltb 0 (first / 2 ^ used) ≡ ltb 0 (ones_of (take (length (left_in used (first ∷ rest)) % 8) (left_in used (first ∷ rest))))
unfolding bits_in
spare-begun used first rest some few small =
    let bits = bits_in (first ∷ rest) in
    let long = length-drop used bits in
    let count : length (left_in used (first ∷ rest)) % 8 ≡ 8 - used = omega (arith, long, length-bits_in (first ∷ rest)) in
    let whole : used + (8 - used) ≡ 8 = omega arith in
    let front : take (8 - used) (drop used bits) ≡ drop used (low_bits 8 first) =
    sym (drop-take used (8 - used) bits) ∙ ap (λ n. drop used (take n bits)) whole
    ∙ ap (drop used) (take_at (low_bits 8 first) (bits_in rest) 8 (length-low_bits 8 first)) in
    let number : number_of (drop used (low_bits 8 first)) ≡ first / 2 ^ used =
    number_of-drop used (low_bits 8 first) ∙ ap (λ n. n / 2 ^ used) (number_of-low_bits 8 first ∙ mod-eq_of_lt small) in
    sym (ap (λ n. ltb 0 (ones_of (take n (drop used bits)))) count ∙ ap (λ xs. ltb 0 (ones_of xs)) front
    ∙ any_one (drop used (low_bits 8 first)) ∙ ap (ltb 0) number)

pub spare-left : (used : ℕ) (bytes : List ℕ) → 0 < used → IsInside used bytes → get_or bytes 0 0 < 256
    → ltb 0 (get_or bytes 0 0 / 2 ^ used) ≡ ltb 0 (ones_of (take (length (left_in used bytes) % 8) (left_in used bytes)))
spare-left used [] some inside small = absurd (omega (arith, inside.there))
spare-left used (first ∷ rest) some inside small = spare-begun used first rest some inside.within small

-- at a byte's edge there is none
pub spare-none : (bytes : List ℕ) → ltb 0 (ones_of (take (length (left_in 0 bytes) % 8) (left_in 0 bytes))) ≡ false
spare-none bytes =
    let count : length (bits_in bytes) % 8 ≡ 0 = omega (arith, length-bits_in bytes) in
    ap (λ n. ltb 0 (ones_of (take n (bits_in bytes)))) count ∙ ap (ltb 0) ones_of-nil
