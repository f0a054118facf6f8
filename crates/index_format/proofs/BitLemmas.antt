-- Bits in bytes, as words and as sections of an index.
use Rattle.std.proofs.Common.{◌≡◌, ℕ, ◌+◌, ◌*◌, ◌/◌, ◌%◌, ◌^◌, ◌<◌, ◌≤◌, Bool, false, List, [], ◌∷◌, ◌++◌, length, take, drop, Ok, refl, sym, ap, ◌∙◌, append_assoc, arith, ltb, append-nil, take-add}
use Rattle.std.proofs.Math.Nat.{mod-eq_of_lt}
use Rattle.std.specs.Int.{w64, from_le_bytes, to_le_bytes}
use Rattle.std.proofs.lemmas.List.{nil_from_length, length-append, length-take, length-take-le, take-append-drop}
use Rattle.std.proofs.lemmas.Bool.{ltb-false, le-ltb}
use Rattle.std.specs.Int.RustNames.{count_ones}
use Rattle.packed_bits.specs.Bits.{number_of, ones_of, window_of}
use Rattle.packed_bits.proofs.OnesLemmas.{ones_of-append, ones_of-le-length}
use Rattle.packed_bits.specs.Words.{low_bits, bits_of, IsPacked}
use Rattle.packed_bits.proofs.NumberLemmas.{number_of-append, number_of-take, number_of-drop, number_of-zero, count_ones-number_of, ones_of-zero, same_from_number_of}
use Rattle.packed_bits.proofs.WordLemmas.{number_of-low_bits, bits_of-append, length-bits_of}
pub use Rattle.bit_stream.proofs.BytesLemmas.{IsBytes, IsBytes-rest, IsBytes-drop, IsBytes-take, bits_in-append, length-bits_in, number_of-bits_in, number_of-no_bits, number_of-one_byte, bytes_filled-bits_in, length-bytes_filled, length-bit_bytes, number_of-bytes_filled, take-bits_in, spare-bit_bytes, bit_bytes-take, from_le_bytes-bits_in, number_of-more_bytes, byte-fits, byte-step, any_one, spare-last, spare-full, IsBytes-bytes_filled, bytes_filled-more, take-bytes_filled, to_le_bytes-window}
use Rattle.track_types.specs.declared.flaw.Section.{Section}
use Rattle.index_format.specs.Fields.{has_spare, bits_at}
use Rattle.index_format.specs.Spelling.{bits_in, bytes_filled, bytes_for}

-- a word after others spells what its bytes do after theirs
pub number_of-more_words : (words before chunk : List ℕ) (word : ℕ)
    → number_of (bits_of words) ≡ number_of (bits_in before) → length before ≡ 8 * length words
    → word < 2 ^ 64 → word ≡ number_of (bits_in chunk)
    → number_of (bits_of (words ++ word ∷ [])) ≡ number_of (bits_in (before ++ chunk))
unfolding bits_of
number_of-more_words words before chunk word same long small is =
    let alone : number_of (bits_of (word ∷ [])) ≡ word =
    ap number_of (append-nil (low_bits 64 word)) ∙ number_of-low_bits 64 word ∙ mod-eq_of_lt small in
    let parts = ap number_of (bits_of-append words (word ∷ [])) ∙ number_of-append (bits_of words) (bits_of (word ∷ [])) in
    let width : length (bits_of words) ≡ 8 * length before = omega (arith, length-bits_of words, long) in
    parts ∙ ap (λ n. number_of (bits_of (word ∷ [])) * 2 ^ n + number_of (bits_of words)) width
    ∙ rw (alone, is, same) (sym (number_of-more_bytes before chunk))

-- the words spell what the bytes before the rest do
pub record IsSpelt (words : List ℕ) (rest bytes : List ℕ) : Type 0 where
  pub before : List ℕ
  pub split : bytes ≡ before ++ rest
  pub long : length before ≡ 8 * length words
  pub same : number_of (bits_of words) ≡ number_of (bits_in before)
  pub fits : IsBytes rest

-- nothing is spelt yet
pub IsSpelt-start : (bytes : List ℕ) → IsBytes bytes → IsSpelt [] bytes bytes
unfolding bits_of number_of
IsSpelt-start bytes fits = record { before = []; split = refl; long = refl; same = sym number_of-no_bits; fits = fits }

module _ {words rest bytes : List ℕ} (spelt : IsSpelt words rest bytes) where
  -- eight more bytes are a word
  pub IsSpelt-more : (front after new : List ℕ) (word : ℕ) → 8 ≤ length rest → front ≡ take 8 rest → after ≡ drop 8 rest
      → word ≡ from_le_bytes w64 front → word < 2 ^ 64 → new ≡ words ++ word ∷ [] → IsSpelt new after bytes
  IsSpelt-more front after new word enough front_is after_is word_is small new_is =
      let eight : length front ≡ 8 = rw front_is (length-take-le 8 rest enough) in
      let front_fits : IsBytes front = rw front_is (IsBytes-take 8 rest spelt.fits) in
      let value = word_is ∙ from_le_bytes-bits_in front front_fits eight in
      let whole : rest ≡ front ++ after = sym (rw (front_is, after_is) (take-append-drop 8 rest)) in
      record {
        before = spelt.before ++ front;
        split = spelt.split ∙ ap (λ tail. spelt.before ++ tail) whole ∙ sym (append_assoc spelt.before front after);
        long = rw new_is (omega (arith, spelt.long, eight, length-append spelt.before front, length-append words (word ∷ [])));
        same = ap (λ list. number_of (bits_of list)) new_is
            ∙ number_of-more_words words spelt.before front word spelt.same spelt.long small value;
        fits = rw after_is (IsBytes-drop 8 rest spelt.fits);
      }

  -- all bytes are spelt
  pub IsSpelt-whole : length rest ≡ 0
      → (length words ≡ (length bytes + 7) / 8) × (number_of (bits_of words) ≡ number_of (bits_in bytes))
  IsSpelt-whole over =
      let whole : bytes ≡ spelt.before = spelt.split
      ∙ ap (λ tail. spelt.before ++ tail) (nil_from_length rest over) ∙ append-nil spelt.before in
      (rw whole (omega (arith, spelt.long)), spelt.same ∙ ap (λ list. number_of (bits_in list)) (sym whole))

  -- fewer than eight bytes are the last word
  pub IsSpelt-last : (new : List ℕ) (word : ℕ) → 0 < length rest → length rest ≤ 7 → word ≡ number_of (bits_in rest)
      → word < 2 ^ 64 → new ≡ words ++ word ∷ []
      → (length new ≡ (length bytes + 7) / 8) × (number_of (bits_of new) ≡ number_of (bits_in bytes))
  IsSpelt-last new word some few word_is small new_is =
      let long = ap length spelt.split ∙ length-append spelt.before rest in (
        rw new_is (omega (arith, spelt.long, long, length-append words (word ∷ []))),
        ap (λ list. number_of (bits_of list)) new_is
            ∙ number_of-more_words words spelt.before rest word spelt.same spelt.long small word_is
            ∙ ap (λ list. number_of (bits_in list)) (sym spelt.split),
      )

module _ (words bytes : List ℕ) (count : ℕ) (long : length bytes ≡ bytes_for count) (fewest : length words ≡ (length bytes + 7) / 8) (same : number_of (bits_of words) ≡ number_of (bits_in bytes)) where
  -- words that spell what bytes without spare bits do are packed
  pub IsPacked-bytes : ltb 0 (ones_of (drop count (bits_in bytes))) ≡ false → IsPacked words count
  IsPacked-bytes spare =
      let none : ones_of (drop count (bits_in bytes)) ≡ 0 = omega (arith, ltb-false _ _ spare) in
      let nothing = number_of-drop count (bits_of words) ∙ ap (λ n. n / 2 ^ count) same
      ∙ sym (number_of-drop count (bits_in bytes)) in
      let zero_above = nothing ∙ number_of-zero (drop count (bits_in bytes)) none in
      record { fewest = omega (arith, fewest, long); spare = ones_of-zero (drop count (bits_of words)) zero_above }

  -- and they have the same bits
  pub take-bits_of-bytes : take count (bits_of words) ≡ take count (bits_in bytes)
  take-bits_of-bytes =
      let left = length-take-le count (bits_of words) (omega (arith, length-bits_of words, fewest, long)) in
      let right = length-take-le count (bits_in bytes) (omega (arith, length-bits_in bytes, long)) in
      let number = number_of-take count (bits_of words) ∙ ap (λ n. n % 2 ^ count) same
      ∙ sym (number_of-take count (bits_in bytes)) in
      same_from_number_of (take count (bits_of words)) (take count (bits_in bytes)) (left ∙ sym right) number

-- 64 more bits have the ones of their word
pub ones_of-word : (bits : List Bool) (i : ℕ)
    → ones_of (take (64 * (i + 1)) bits) ≡ ones_of (take (64 * i) bits) + count_ones (window_of bits (64 * i) 64)
unfolding window_of
ones_of-word bits i =
    let more : 64 * (i + 1) ≡ 64 * i + 64 = omega arith in
    ap (λ n. ones_of (take n bits)) more ∙ ap ones_of (take-add (64 * i) 64 bits)
    ∙ ones_of-append (take (64 * i) bits) (take 64 (drop (64 * i) bits))
    ∙ ap (λ n. ones_of (take (64 * i) bits) + n) (sym (count_ones-number_of (take 64 (drop (64 * i) bits))))

-- no more ones than bits
pub ones_of-take-le : (bits : List Bool) (n : ℕ) → ones_of (take n bits) ≤ length bits
ones_of-take-le bits n = omega (arith, ones_of-le-length (take n bits), length-take n bits)

-- what was read of bits whose bytes are there and have no spare ones
pub bits_at-ok : (section : Section) (period count : ℕ) (bytes words : List ℕ) → bytes_for count ≤ length bytes
    → has_spare count (take (bytes_for count) bytes) ≡ false
    → take count (bits_of words) ≡ take count (bits_in (take (bytes_for count) bytes))
    → bits_at section period count bytes ≡ Ok (take count (bits_of words), drop (bytes_for count) bytes)
unfolding bits_at
bits_at-ok section period count bytes words enough full same =
    rw (le-ltb (length bytes) (bytes_for count) enough, full, same) refl

-- i words of the bits' bytes, and some bytes of the next
pub bytes_filled-word : (bits : List Bool) (i n : ℕ) → n ≤ 8
    → bytes_filled (8 * i) bits ++ take n (to_le_bytes w64 (window_of bits (64 * i) 64)) ≡ bytes_filled (8 * i + n) bits
bytes_filled-word bits i n few =
    let place : 8 * (8 * i) ≡ 64 * i = omega arith in
    let word = ap (take n) (to_le_bytes-window bits i) ∙ take-bytes_filled n 8 (drop (64 * i) bits) few in
    ap (λ tail. bytes_filled (8 * i) bits ++ tail) (word ∙ ap (λ k. bytes_filled n (drop k bits)) (sym place))
    ∙ sym (bytes_filled-more (8 * i) n bits)

-- no bytes are none
pub bytes_filled-none : (bits : List Bool) → bytes_filled 0 bits ≡ []
unfolding bytes_filled
bytes_filled-none bits = refl
