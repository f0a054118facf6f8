-- Bits that are put: a number above those that wait, a word that is full, and the bytes at the end.
use Rattle.std.proofs.Common.{◌≡◌, ℕ, zero, suc, ◌+◌, ◌-◌, ◌*◌, ◌/◌, ◌%◌, ◌^◌, ◌<◌, ◌≤◌, Bool, true, false, List, [], ◌∷◌, ◌++◌, length, take, drop, replicate, refl, sym, ap, ◌∙◌, arith, append_assoc}
use Rattle.std.proofs.Math.Nat.{pow-suc, mod-eq_of_lt, mul-le-mul_right}
use Rattle.std.proofs.lemmas.Nat.{pow-add, mod-pow-add, shr_high, mod_low, mod_below, pow_pos, div-add-mod', from_le_bytes-to_le_bytes_8}
use Rattle.std.proofs.lemmas.List.{length-append, length-drop, take_all, take-append-le, drop-append-le, drop_at}
use Rattle.std.specs.Int.{w64, to_le_bytes}
use Rattle.packed_bits.specs.Bits.{number_of, window_of}
use Rattle.packed_bits.specs.Words.{low_bits}
use Rattle.packed_bits.proofs.NumberLemmas.{number_of-append}
use Rattle.packed_bits.proofs.WordLemmas.{length-low_bits, number_of-low_bits}
use Rattle.bit_stream.specs.Bytes.{bits_in, bytes_filled, bytes_for, bit_bytes}
use Rattle.bit_stream.specs.Numbers.{lg, delta_bits, number_bits}
use Rattle.bit_stream.proofs.BytesLemmas.{IsBytes, bits_in-append, length-bits_in, bytes_filled-bits_in, bytes_filled-more, take-bytes_filled, to_le_bytes-window, from_le_bytes-bits_in}
use Rattle.bit_stream.proofs.NumberLaws.{low_bits-number_of, delta_of}

-- no bits
pub no_low_bits : (word : ℕ) → low_bits 0 word ≡ []
unfolding low_bits
no_low_bits word = refl

-- the lowest bits of a remainder are those of the number
pub low_bits-rest : (width number : ℕ) → low_bits width (number % 2 ^ width) ≡ low_bits width number
low_bits-rest width number = low_bits-number_of width (number % 2 ^ width) (low_bits width number) (length-low_bits width number)
    (mod-eq_of_lt (mod_below number (2 ^ width) (pow_pos width)) ∙ sym (number_of-low_bits width number))

-- the bits of a number above those of another
pub low_bits-join : (m n low high : ℕ) → low < 2 ^ m → low_bits (m + n) (high * 2 ^ m + low) ≡ low_bits m low ++ low_bits n high
low_bits-join m n low high small =
    let front = low_bits m low in
    let behind = low_bits n high in
    let number = high * 2 ^ m + low in
    let long = length-append front behind in
    let turned : m + n ≡ n + m = omega arith in
    let split = ap (λ k. number % 2 ^ k) turned ∙ mod-pow-add number n m in
    let above : number / 2 ^ m ≡ high = shr_high high m low small in
    let below : number % 2 ^ m ≡ low = mod_low high m low small in
    let spelt = number_of-append front behind in
    low_bits-number_of (m + n) number (front ++ behind) (omega (arith, long, length-low_bits m low, length-low_bits n high))
    (split ∙ rw (above, below) (sym (spelt ∙ rw (length-low_bits m low, number_of-low_bits n high, number_of-low_bits m low, mod-eq_of_lt small) refl)))

-- a number above the bits that wait is as long as both
pub join-small : (width number waiting filled : ℕ) → number < 2 ^ width → waiting < 2 ^ filled
    → number * 2 ^ filled + waiting < 2 ^ (filled + width)
join-small width number waiting filled small low =
    let most : suc number * 2 ^ filled ≤ 2 ^ width * 2 ^ filled = mul-le-mul_right (2 ^ filled) small in
    omega (arith, most, low, pow-add 2 filled width)

-- the bytes of a word are below 256
bytes_fit : (word : ℕ) → IsBytes (to_le_bytes w64 word)
bytes_fit word zero = omega arith
bytes_fit word (suc zero) = omega arith
bytes_fit word (suc (suc zero)) = omega arith
bytes_fit word (suc (suc (suc zero))) = omega arith
bytes_fit word (suc (suc (suc (suc zero)))) = omega arith
bytes_fit word (suc (suc (suc (suc (suc zero))))) = omega arith
bytes_fit word (suc (suc (suc (suc (suc (suc zero)))))) = omega arith
bytes_fit word (suc (suc (suc (suc (suc (suc (suc zero))))))) = omega arith
bytes_fit word (suc (suc (suc (suc (suc (suc (suc (suc i)))))))) = omega arith

-- the bytes of a word are its bits
pub bits_in-word : (word : ℕ) → word < 2 ^ 64 → bits_in (to_le_bytes w64 word) ≡ low_bits 64 word
bits_in-word word small =
    let bytes = to_le_bytes w64 word in
    let fits : IsBytes bytes = bytes_fit word in
    let eight : length bytes ≡ 8 = refl in
    let number = sym (from_le_bytes-bits_in bytes fits eight) ∙ from_le_bytes-to_le_bytes_8 word small in
    sym (low_bits-number_of 64 word (bits_in bytes) (length-bits_in bytes) (mod-eq_of_lt small ∙ sym number))

-- a full word goes to the bytes, and the others wait
pub word-full : (bytes : List ℕ) (number count : ℕ) → 64 ≤ count
    → bits_in (bytes ++ to_le_bytes w64 (number % 2 ^ 64)) ++ low_bits (count - 64) (number / 2 ^ 64) ≡ bits_in bytes ++ low_bits count number
word-full bytes number count full =
    let word = number % 2 ^ 64 in
    let small = mod_below number (2 ^ 64) (pow_pos 64) in
    let front = bits_in-append bytes (to_le_bytes w64 word) ∙ ap (λ bits. bits_in bytes ++ bits) (bits_in-word word small) in
    let joined = low_bits-join 64 (count - 64) word (number / 2 ^ 64) small in
    let width : 64 + (count - 64) ≡ count = omega (arith, full) in
    ap (λ bits. bits ++ low_bits (count - 64) (number / 2 ^ 64)) front
    ∙ append_assoc (bits_in bytes) (low_bits 64 word) (low_bits (count - 64) (number / 2 ^ 64))
    ∙ ap (λ bits. bits_in bytes ++ bits) (sym joined ∙ ap (λ n. low_bits n (number / 2 ^ 64 * 2 ^ 64 + word)) width
    ∙ ap (low_bits count) (div-add-mod' number (2 ^ 64)))

-- bits that follow change no byte that is full
bytes_filled-append : (n : ℕ) (bits more : List Bool) → 8 * n ≤ length bits → bytes_filled n (bits ++ more) ≡ bytes_filled n bits
unfolding bytes_filled
bytes_filled-append zero bits more within = refl
bytes_filled-append (suc n) bits more within =
    rw (
      take-append-le 8 bits more (omega arith),
      drop-append-le 8 bits more (omega arith),
      bytes_filled-append n (drop 8 bits) more (omega (arith, length-drop 8 bits)),
    ) refl

-- whole bytes stand in front of those of the bits that follow
pub bit_bytes-append : (bytes : List ℕ) (bits : List Bool) → IsBytes bytes → bit_bytes (bits_in bytes ++ bits) ≡ bytes ++ bit_bytes bits
unfolding bit_bytes
bit_bytes-append bytes bits fits =
    let long = length-bits_in bytes in
    let all = bits_in bytes ++ bits in
    let count : bytes_for (length all) ≡ length bytes + bytes_for (length bits) = omega (arith, length-append (bits_in bytes) bits, long) in
    let front = bytes_filled-append (length bytes) (bits_in bytes) bits (omega (arith, long)) ∙ bytes_filled-bits_in bytes (bits_in bytes) fits refl in
    ap (λ n. bytes_filled n all) count ∙ bytes_filled-more (length bytes) (bytes_for (length bits)) all
    ∙ ap (λ xs. xs ++ bytes_filled (bytes_for (length bits)) (drop (8 * length bytes) all)) front
    ∙ ap (λ rest. bytes ++ bytes_filled (bytes_for (length bits)) rest) (drop_at (bits_in bytes) bits (8 * length bytes) long)

-- the bytes of bits that fill no word
pub bit_bytes-waiting : (filled waiting : ℕ) → filled < 64 → waiting < 2 ^ filled
    → take (bytes_for filled) (to_le_bytes w64 waiting) ≡ bit_bytes (low_bits filled waiting)
unfolding bit_bytes window_of
bit_bytes-waiting filled waiting few small =
    let bits = low_bits filled waiting in
    let long = length-low_bits filled waiting in
    let whole : number_of (take 64 bits) ≡ waiting =
    ap number_of (take_all 64 bits (omega (arith, long))) ∙ number_of-low_bits filled waiting ∙ mod-eq_of_lt small in
    ap (λ w. take (bytes_for filled) (to_le_bytes w64 w)) (sym whole)
    ∙ ap (take (bytes_for filled)) (to_le_bytes-window bits 0)
    ∙ take-bytes_filled (bytes_for filled) 8 bits (omega arith)
    ∙ ap (λ n. bytes_filled (bytes_for n) bits) (sym long)

-- a one behind bits 0
low_bits-one : (z : ℕ) → low_bits (z + 1) (2 ^ z) ≡ replicate z false ++ true ∷ []
unfolding low_bits
low_bits-one zero = refl
low_bits-one (suc z) =
    let twice = pow-suc 2 z in
    let even : 2 ^ suc z % 2 ≡ 0 = omega (arith, twice) in
    let half : 2 ^ suc z / 2 ≡ 2 ^ z = omega (arith, twice) in
    let next : suc z + 1 ≡ suc (z + 1) = omega arith in
    ap (λ n. low_bits n (2 ^ suc z)) next ∙ rw (even, half, low_bits-one z) refl

-- the pieces of a number that says itself how long it is
pub number_bits-pieces : (before : List Bool) (value : ℕ)
    → ((before ++ low_bits (lg (lg (value + 1)) - 1 + 1) (2 ^ (lg (lg (value + 1)) - 1)))
    ++ low_bits (lg (lg (value + 1)) - 1) (lg (value + 1))) ++ low_bits (lg (value + 1) - 1) (value + 1)
    ≡ before ++ number_bits value
unfolding number_bits delta_bits
number_bits-pieces before value = rw (low_bits-one (lg (lg (value + 1)) - 1)) (simp append_assoc refl)

-- it has at most 56 digits, and their number at most six
pub digits-few : (value : ℕ) → value + 2 ≤ 2 ^ 56 → (lg (value + 1) ≤ 56) × (lg (lg (value + 1)) ≤ 6)
digits-few value small =
    let delta = delta_of (value + 1) (omega arith) (omega (arith, small)) in
    (omega (arith, delta.2.lg_is, delta.2.few), rw delta.2.lg_is (omega (arith, delta.2.lg_lg_is, delta.2.narrow)))
