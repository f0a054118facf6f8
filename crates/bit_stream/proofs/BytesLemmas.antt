-- Bits in bytes: what the bytes spell, and that filling bytes with their bits gives them back.
use Rattle.std.proofs.Common.{◌≡◌, ℕ, zero, suc, ◌+◌, ◌*◌, ◌/◌, ◌%◌, ◌^◌, ◌<◌, ◌≤◌, Bool, List, [], ◌∷◌, ◌++◌, length, take, drop, get_or, refl, sym, ap, ◌∙◌, inl, inr, arith, ltb, drop-drop, take-add}
use Rattle.std.proofs.Math.Nat.{mod-eq_of_lt, div-eq_of_lt, pow-le-pow_right}
use Rattle.std.specs.Int.{w64, from_le_bytes, to_le_bytes}
use Rattle.std.proofs.lemmas.Nat.{le_bytes_8, mod-pow-add}
use Rattle.std.proofs.lemmas.List.{length-append, length-drop, length-take, length-take-le, take-append-drop, get_or-drop, get_or-take, get_or_past, drop_at, take_at, take_all, drop_all, drop_more}
use Rattle.std.proofs.lemmas.Bool.{cases_lt, le-ltb, lt-ltb}
use Rattle.std.proofs.lemmas.Grind.{flat_map-append}
use Rattle.packed_bits.specs.Bits.{number_of, ones_of, window_of}
use Rattle.packed_bits.specs.Words.{low_bits}
use Rattle.packed_bits.proofs.NumberLemmas.{number_of-lt, number_of-append, number_of-take, number_of-drop, number_of-zero, ones_of-zero, number_of-spare, same_from_number_of}
use Rattle.packed_bits.proofs.WordLemmas.{length-low_bits, number_of-low_bits}
use Rattle.bit_stream.specs.Bytes.{bits_in, bytes_filled, bytes_for, bit_bytes}

-- each is below 256
abbrev pub IsBytes : List ℕ → Type 0
IsBytes bytes = (i : ℕ) → get_or bytes i 0 < 256

pub IsBytes-rest : (byte : ℕ) (bytes : List ℕ) → IsBytes (byte ∷ bytes) → IsBytes bytes
IsBytes-rest byte bytes fits i = fits (suc i)

pub IsBytes-drop : (n : ℕ) (bytes : List ℕ) → IsBytes bytes → IsBytes (drop n bytes)
IsBytes-drop n bytes fits i = rw get_or-drop (fits (n + i))

pub IsBytes-take : (n : ℕ) (bytes : List ℕ) → IsBytes bytes → IsBytes (take n bytes)
IsBytes-take n bytes fits i =
    elim (cases_lt i n) [
      | inl low ↦ rw (get_or-take n bytes i 0 low) (fits i)
      | inr high ↦ rw (get_or_past (take n bytes) i 0 (omega (arith, length-take n bytes))) (omega arith)
    ]

-- the bits of the second bytes follow those of the first
pub bits_in-append : (xs ys : List ℕ) → bits_in (xs ++ ys) ≡ bits_in xs ++ bits_in ys
unfolding bits_in
bits_in-append xs ys = flat_map-append (low_bits 8) xs ys

-- each byte has eight bits
pub length-bits_in : (bytes : List ℕ) → length (bits_in bytes) ≡ 8 * length bytes
unfolding bits_in
length-bits_in [] = refl
length-bits_in (byte ∷ bytes) =
    omega (arith, length-append (low_bits 8 byte) (bits_in bytes), length-low_bits 8 byte, length-bits_in bytes)

-- a byte stands below those after it
pub number_of-bits_in : (byte : ℕ) (bytes : List ℕ) → byte < 256
    → number_of (bits_in (byte ∷ bytes)) ≡ number_of (bits_in bytes) * 256 + byte
unfolding bits_in
number_of-bits_in byte bytes small =
    let parts = number_of-append (low_bits 8 byte) (bits_in bytes) in
    let low = number_of-low_bits 8 byte in
    let long = length-low_bits 8 byte in
    parts ∙ ap (λ n. number_of (bits_in bytes) * 2 ^ n + number_of (low_bits 8 byte)) long ∙ rw low (omega arith)

-- no bytes spell 0
pub number_of-no_bits : number_of (bits_in []) ≡ 0
unfolding bits_in number_of
number_of-no_bits = refl

-- one byte spells itself
pub number_of-one_byte : (byte : ℕ) → byte < 256 → number_of (bits_in (byte ∷ [])) ≡ byte
number_of-one_byte byte small = omega (arith, number_of-bits_in byte [] small, number_of-no_bits)

-- bits that spell what the bytes do fill these bytes
pub bytes_filled-bits_in : (bytes : List ℕ) (bits : List Bool) → IsBytes bytes
    → number_of bits ≡ number_of (bits_in bytes) → bytes_filled (length bytes) bits ≡ bytes
unfolding bytes_filled
bytes_filled-bits_in [] bits fits same = refl
bytes_filled-bits_in (byte ∷ bytes) bits fits same =
    let parts = number_of-bits_in byte bytes (fits 0) in
    let low : number_of (take 8 bits) ≡ byte = number_of-take 8 bits ∙ (let e = fits 0 in omega arith) in
    let high : number_of (drop 8 bits) ≡ number_of (bits_in bytes) = number_of-drop 8 bits ∙ (let e = fits 0 in omega arith) in
    rw (low, bytes_filled-bits_in bytes (drop 8 bits) (IsBytes-rest byte bytes fits) high) refl

-- as many bytes as were asked for
pub length-bytes_filled : (n : ℕ) (bits : List Bool) → length (bytes_filled n bits) ≡ n
unfolding bytes_filled
length-bytes_filled zero bits = refl
length-bytes_filled (suc n) bits = ap suc (length-bytes_filled n (drop 8 bits))

-- the bytes of bits are as many as these take
pub length-bit_bytes : (bits : List Bool) → length (bit_bytes bits) ≡ bytes_for (length bits)
unfolding bit_bytes
length-bit_bytes bits = length-bytes_filled (bytes_for (length bits)) bits

-- eight bits make a byte
byte_below : (bits : List Bool) → number_of (take 8 bits) < 256
byte_below bits = omega (arith, number_of-take 8 bits)

-- bytes that have room for all bits spell what these do
pub number_of-bytes_filled : (n : ℕ) (bits : List Bool) → length bits ≤ 8 * n
    → number_of (bits_in (bytes_filled n bits)) ≡ number_of bits
unfolding bytes_filled number_of
number_of-bytes_filled zero [] room = number_of-no_bits
number_of-bytes_filled zero (bit ∷ bits) room = absurd (omega arith)
number_of-bytes_filled (suc n) bits room =
    let parts = number_of-bits_in (number_of (take 8 bits)) (bytes_filled n (drop 8 bits)) (byte_below bits) in
    let rest = number_of-bytes_filled n (drop 8 bits) (omega (arith, length-drop 8 bits)) in
    parts ∙ omega (arith, rest, number_of-take 8 bits, number_of-drop 8 bits)

-- the bits that the bytes of bits hold are these bits
pub take-bits_in : (bits : List Bool) → take (length bits) (bits_in (bit_bytes bits)) ≡ bits
unfolding bit_bytes
take-bits_in bits =
    let bytes = bytes_filled (bytes_for (length bits)) bits in
    let same = number_of-bytes_filled (bytes_for (length bits)) bits (omega arith) in
    let all : length (bits_in bytes) ≡ 8 * bytes_for (length bits) =
    length-bits_in bytes ∙ ap (λ n. 8 * n) (length-bytes_filled (bytes_for (length bits)) bits) in
    let long = length-take-le (length bits) (bits_in bytes) (omega arith) in
    let number = number_of-take (length bits) (bits_in bytes) ∙ ap (λ v. v % 2 ^ length bits) same
    ∙ mod-eq_of_lt (number_of-lt bits) in
    same_from_number_of (take (length bits) (bits_in bytes)) bits long number

-- and no bit after them is 1
pub spare-bit_bytes : (bits : List Bool) → ones_of (drop (length bits) (bits_in (bit_bytes bits))) ≡ 0
unfolding bit_bytes
spare-bit_bytes bits =
    let bytes = bytes_filled (bytes_for (length bits)) bits in
    let same = number_of-bytes_filled (bytes_for (length bits)) bits (omega arith) in
    let beyond = number_of-drop (length bits) (bits_in bytes) ∙ ap (λ v. v / 2 ^ length bits) same in
    ones_of-zero (drop (length bits) (bits_in bytes)) (beyond ∙ div-eq_of_lt (number_of-lt bits))

-- bytes whose spare bits are 0 are those of their bits
pub bit_bytes-take : (count : ℕ) (bytes : List ℕ) → IsBytes bytes → length bytes ≡ bytes_for count
    → ones_of (drop count (bits_in bytes)) ≡ 0 → bit_bytes (take count (bits_in bytes)) ≡ bytes
unfolding bit_bytes
bit_bytes-take count bytes fits long spare =
    let bits = take count (bits_in bytes) in
    let count_is : length bits ≡ count = length-take-le count (bits_in bytes) (omega (arith, length-bits_in bytes)) in
    let same = number_of-spare count (bits_in bytes) spare in
    let bytes_is : bytes_for (length bits) ≡ length bytes = rw count_is (sym long) in
    ap (λ n. bytes_filled n bits) bytes_is ∙ bytes_filled-bits_in bytes bits fits same

-- eight bytes as a word spell what their bits do
pub from_le_bytes-bits_in : (bytes : List ℕ) → IsBytes bytes → length bytes ≡ 8
    → from_le_bytes w64 bytes ≡ number_of (bits_in bytes)
from_le_bytes-bits_in (a ∷ b ∷ c ∷ d ∷ e ∷ f ∷ g ∷ h ∷ []) fits long =
    let n0 = number_of-bits_in a (b ∷ c ∷ d ∷ e ∷ f ∷ g ∷ h ∷ []) (fits 0) in
    let n1 = number_of-bits_in b (c ∷ d ∷ e ∷ f ∷ g ∷ h ∷ []) (fits 1) in
    let n2 = number_of-bits_in c (d ∷ e ∷ f ∷ g ∷ h ∷ []) (fits 2) in
    let n3 = number_of-bits_in d (e ∷ f ∷ g ∷ h ∷ []) (fits 3) in
    let n4 = number_of-bits_in e (f ∷ g ∷ h ∷ []) (fits 4) in
    let n5 = number_of-bits_in f (g ∷ h ∷ []) (fits 5) in
    let n6 = number_of-bits_in g (h ∷ []) (fits 6) in
    let n7 = number_of-bits_in h [] (fits 7) in
    omega (arith, n0, n1, n2, n3, n4, n5, n6, n7, number_of-no_bits)
from_le_bytes-bits_in [] fits long = absurd (omega arith)
from_le_bytes-bits_in (a ∷ []) fits long = absurd (omega arith)
from_le_bytes-bits_in (a ∷ b ∷ []) fits long = absurd (omega arith)
from_le_bytes-bits_in (a ∷ b ∷ c ∷ []) fits long = absurd (omega arith)
from_le_bytes-bits_in (a ∷ b ∷ c ∷ d ∷ []) fits long = absurd (omega arith)
from_le_bytes-bits_in (a ∷ b ∷ c ∷ d ∷ e ∷ []) fits long = absurd (omega arith)
from_le_bytes-bits_in (a ∷ b ∷ c ∷ d ∷ e ∷ f ∷ []) fits long = absurd (omega arith)
from_le_bytes-bits_in (a ∷ b ∷ c ∷ d ∷ e ∷ f ∷ g ∷ []) fits long = absurd (omega arith)
from_le_bytes-bits_in (a ∷ b ∷ c ∷ d ∷ e ∷ f ∷ g ∷ h ∷ i ∷ rest) fits long = absurd (omega arith)

-- the bytes that come after stand above
pub number_of-more_bytes : (before chunk : List ℕ)
    → number_of (bits_in (before ++ chunk)) ≡ number_of (bits_in chunk) * 2 ^ (8 * length before) + number_of (bits_in before)
number_of-more_bytes before chunk =
    ap number_of (bits_in-append before chunk) ∙ number_of-append (bits_in before) (bits_in chunk)
    ∙ ap (λ n. number_of (bits_in chunk) * 2 ^ n + number_of (bits_in before)) (length-bits_in before)

-- past the first k bytes come the bits of the others
pub drop-bits_in : (k : ℕ) (bytes : List ℕ) → k ≤ length bytes → drop (8 * k) (bits_in bytes) ≡ bits_in (drop k bytes)
drop-bits_in k bytes within =
    let whole = ap bits_in (take-append-drop k bytes) in
    let parts = bits_in-append (take k bytes) (drop k bytes) in
    let long : length (bits_in (take k bytes)) ≡ 8 * k =
    length-bits_in (take k bytes) ∙ ap (λ n. 8 * n) (length-take-le k bytes within) in
    ap (drop (8 * k)) (sym whole ∙ parts) ∙ drop_at (bits_in (take k bytes)) (bits_in (drop k bytes)) (8 * k) long

-- there is a 1 if and only if the bits do not spell 0
pub any_one : (bits : List Bool) → ltb 0 (ones_of bits) ≡ ltb 0 (number_of bits)
any_one bits = elim (cases_lt 0 (ones_of bits)) [
  | inl some ↦ elim (cases_lt 0 (number_of bits)) [
    | inl more ↦ lt-ltb 0 (ones_of bits) some ∙ sym (lt-ltb 0 (number_of bits) more)
    | inr none ↦ absurd (omega (arith, some, ones_of-zero bits (omega arith)))
  ]
  | inr none ↦
      let nothing = number_of-zero bits (omega (arith, none)) in
      le-ltb 0 (ones_of bits) none ∙ sym (le-ltb 0 (number_of bits) (omega (arith, nothing)))
]

-- the bits past the last byte's used ones spell its quotient
pub spare-last : (count : ℕ) (bytes : List ℕ) → IsBytes bytes → length bytes ≡ bytes_for count → 0 < count % 8
    → number_of (drop count (bits_in bytes)) ≡ get_or bytes (count / 8) 0 / 2 ^ (count % 8)
spare-last count bytes fits long used =
    let k = count / 8 in
    let last = get_or bytes k 0 in
    let rest : drop k bytes ≡ last ∷ [] =
    drop_more bytes k 0 (omega arith) ∙ ap (λ tail. last ∷ tail) (drop_all (k + 1) bytes (omega arith)) in
    let inside : drop (8 * k) (bits_in bytes) ≡ bits_in (last ∷ []) =
    drop-bits_in k bytes (omega arith) ∙ ap bits_in rest in
    let whole : number_of (bits_in (last ∷ [])) ≡ last =
    number_of-one_byte last (fits k) in
    let place : count ≡ 8 * k + count % 8 = omega arith in
    let twice : drop count (bits_in bytes) ≡ drop (count % 8) (drop (8 * k) (bits_in bytes)) =
    ap (λ n. drop n (bits_in bytes)) place ∙ sym (drop-drop (count % 8) (8 * k) (bits_in bytes)) in
    ap number_of twice ∙ ap (λ bits. number_of (drop (count % 8) bits)) inside
    ∙ number_of-drop (count % 8) (bits_in (last ∷ [])) ∙ ap (λ n. n / 2 ^ (count % 8)) whole

-- bits that fill their bytes have no spare ones
pub spare-full : (count : ℕ) (bytes : List ℕ) → length bytes ≡ bytes_for count → count % 8 ≡ 0
    → drop count (bits_in bytes) ≡ []
spare-full count bytes long full = drop_all count (bits_in bytes) (omega (arith, length-bits_in bytes))

module _ (bytes : List ℕ) (fits : IsBytes bytes) (i : ℕ) (within : i < length bytes) where
  -- one more byte stands above those before it
  byte-taken : number_of (bits_in (take (i + 1) bytes))
      ≡ get_or bytes i 0 * 2 ^ (8 * i) + number_of (bits_in (take i bytes))
  byte-taken =
      let next : take 1 (drop i bytes) ≡ get_or bytes i 0 ∷ [] = ap (take 1) (drop_more bytes i 0 within) in
      let parts = take-add i 1 bytes ∙ ap (λ tail. take i bytes ++ tail) next in
      let alone : number_of (bits_in (get_or bytes i 0 ∷ [])) ≡ get_or bytes i 0 =
      number_of-one_byte (get_or bytes i 0) (fits i) in
      ap (λ list. number_of (bits_in list)) parts ∙ number_of-more_bytes (take i bytes) (get_or bytes i 0 ∷ [])
      ∙ ap (λ n. n * 2 ^ (8 * length (take i bytes)) + number_of (bits_in (take i bytes))) alone
      ∙ ap (λ n. get_or bytes i 0 * 2 ^ (8 * n) + number_of (bits_in (take i bytes)))
      (length-take-le i bytes (omega arith))

  -- at most eight bytes spell a number below 2^64
  pub byte-fits : length bytes ≤ 7 → number_of (bits_in (take (i + 1) bytes)) < 2 ^ 64
  byte-fits few =
      let bits = bits_in (take (i + 1) bytes) in
      let long : length bits ≤ 64 =
      omega (arith, length-bits_in (take (i + 1) bytes), length-take-le (i + 1) bytes (omega arith)) in
      omega (arith, number_of-lt bits, pow-le-pow_right {n = 2} (omega arith) long)

  -- the sum that the code makes
  pub byte-step : length bytes ≤ 7
      → number_of (bits_in (take i bytes)) + get_or bytes i 0 * 2 ^ (8 * i) % 2 ^ 64 ≡ number_of (bits_in (take (i + 1) bytes))
  byte-step few =
      let small : get_or bytes i 0 * 2 ^ (8 * i) < 2 ^ 64 = omega (arith, byte-taken, byte-fits few) in
      ap (λ n. number_of (bits_in (take i bytes)) + n) (mod-eq_of_lt small) ∙ omega (arith, byte-taken)

-- the bytes that bits fill are bytes
pub IsBytes-bytes_filled : (n : ℕ) (bits : List Bool) → IsBytes (bytes_filled n bits)
unfolding bytes_filled
IsBytes-bytes_filled zero bits i = omega arith
IsBytes-bytes_filled (suc n) bits zero = byte_below bits
IsBytes-bytes_filled (suc n) bits (suc i) = IsBytes-bytes_filled n (drop 8 bits) i

-- more bytes are those of the bits that follow
pub bytes_filled-more : (m n : ℕ) (bits : List Bool)
    → bytes_filled (m + n) bits ≡ bytes_filled m bits ++ bytes_filled n (drop (8 * m) bits)
unfolding bytes_filled
bytes_filled-more zero n bits = let e : zero + n ≡ n = omega arith in rw e refl
bytes_filled-more (suc m) n bits =
    let next : suc m + n ≡ suc (m + n) = omega arith in
    let place : 8 + 8 * m ≡ 8 * suc m = omega arith in
    let rest = bytes_filled-more m n (drop 8 bits) in
    let past = drop-drop (8 * m) 8 bits ∙ ap (λ k. drop k bits) place in
    ap (λ k. bytes_filled k bits) next ∙ ap (λ tail. number_of (take 8 bits) ∷ tail)
    (rest ∙ ap (λ list. bytes_filled m (drop 8 bits) ++ bytes_filled n list) past)

-- the first of the bytes
pub take-bytes_filled : (n m : ℕ) (bits : List Bool) → n ≤ m → take n (bytes_filled m bits) ≡ bytes_filled n bits
unfolding bytes_filled
take-bytes_filled zero m bits few = refl
take-bytes_filled (suc n) zero bits few = absurd (omega arith)
take-bytes_filled (suc n) (suc m) bits few =
    ap (λ tail. number_of (take 8 bits) ∷ tail) (take-bytes_filled n m (drop 8 bits) (omega arith))

-- what the first n bytes of bits spell
pub number_of-first_bytes : (n : ℕ) (bits : List Bool) → number_of (bits_in (bytes_filled n bits)) ≡ number_of bits % 2 ^ (8 * n)
unfolding bytes_filled
number_of-first_bytes zero bits = number_of-no_bits ∙ omega arith
number_of-first_bytes (suc n) bits =
    let parts = number_of-bits_in (number_of (take 8 bits)) (bytes_filled n (drop 8 bits)) (byte_below bits) in
    let rest = number_of-first_bytes n (drop 8 bits) in
    let width : 8 * suc n ≡ 8 * n + 8 = omega arith in
    let split : number_of bits % 2 ^ (8 * n + 8) ≡ (number_of bits / 2 ^ 8 % 2 ^ (8 * n)) * 2 ^ 8 + number_of bits % 2 ^ 8 =
    mod-pow-add (number_of bits) (8 * n) 8 in
    let high : number_of (bits_in (bytes_filled n (drop 8 bits))) ≡ number_of bits / 2 ^ 8 % 2 ^ (8 * n) =
    rest ∙ ap (λ v. v % 2 ^ (8 * n)) (number_of-drop 8 bits) in
    parts ∙ rw (high, number_of-take 8 bits) (sym (ap (λ k. number_of bits % 2 ^ k) width ∙ split))

-- a word's bytes are those that its 64 bits fill
pub to_le_bytes-window : (bits : List Bool) (i : ℕ) → to_le_bytes w64 (window_of bits (64 * i) 64) ≡ bytes_filled 8 (drop (64 * i) bits)
unfolding window_of
to_le_bytes-window bits i =
    let xs = drop (64 * i) bits in
    let bytes = bytes_filled 8 xs in
    let long = length-bytes_filled 8 xs in
    let fits = IsBytes-bytes_filled 8 xs in
    let value = number_of-take 64 xs ∙ sym (number_of-first_bytes 8 xs) ∙ sym (from_le_bytes-bits_in bytes fits long) in
    le_bytes_8 bytes (number_of (take 64 xs)) long fits value

-- the bits of the first k bytes
pub take-bits_in-bytes : (k : ℕ) (bytes : List ℕ) → k ≤ length bytes → take (8 * k) (bits_in bytes) ≡ bits_in (take k bytes)
take-bits_in-bytes k bytes within =
    let whole = ap bits_in (take-append-drop k bytes) in
    let parts = bits_in-append (take k bytes) (drop k bytes) in
    let long : length (bits_in (take k bytes)) ≡ 8 * k =
    length-bits_in (take k bytes) ∙ ap (λ n. 8 * n) (length-take-le k bytes within) in
    ap (take (8 * k)) (sym whole ∙ parts) ∙ take_at (bits_in (take k bytes)) (bits_in (drop k bytes)) (8 * k) long

-- eight bytes at the front are the first word
pub first_word-whole : (bytes : List ℕ) → IsBytes bytes → 8 ≤ length bytes
    → from_le_bytes w64 (take 8 bytes) ≡ window_of (bits_in bytes) 0 64
unfolding window_of
first_word-whole bytes fits enough =
    from_le_bytes-bits_in (take 8 bytes) (IsBytes-take 8 bytes fits) (length-take-le 8 bytes enough)
    ∙ ap number_of (sym (take-bits_in-bytes 8 bytes enough))

-- and fewer are where there are no more
pub first_word-short : (bytes : List ℕ) → length bytes ≤ 7 → number_of (bits_in bytes) ≡ window_of (bits_in bytes) 0 64
unfolding window_of
first_word-short bytes few =
    ap number_of (sym (take_all 64 (bits_in bytes) (omega (arith, length-bits_in bytes))))
