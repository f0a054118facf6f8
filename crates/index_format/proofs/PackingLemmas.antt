-- Bits that are written word by word, and numbers that are read word by word.
use Rattle.std.proofs.Common.{◌≡◌, ℕ, zero, suc, ◌+◌, ◌-◌, ◌*◌, ◌/◌, ◌%◌, ◌^◌, ◌<◌, ◌≤◌, Bool, List, [], ◌∷◌, ◌++◌, length, take, drop, refl, sym, ap, ◌∙◌, arith, append_assoc, append-nil, drop-drop, lit<}
use Rattle.std.proofs.Math.Nat.{mod-eq_of_lt, mul-le-mul_right, pow-le-pow_right}
use Rattle.std.proofs.lemmas.Nat.{pow-add, shl_whole}
use Rattle.std.proofs.lemmas.List.{take_all, drop-append-le, take-append-le, length-append, length-drop}
use Rattle.std.specs.Int.{w64, to_le_bytes}
use Rattle.packed_bits.specs.Bits.{number_of, window_of}
use Rattle.packed_bits.specs.Words.{low_bits}
use Rattle.packed_bits.proofs.NumberLemmas.{number_of-append, number_of-take, number_of-drop, window_of-cat, window_of-lt, window_of-narrow, window_of-past}
use Rattle.packed_bits.proofs.WordLemmas.{length-low_bits, number_of-low_bits}
use Rattle.index_format.specs.Packing.{IsPacking}
use Rattle.index_format.specs.Spelling.{bytes_filled, bytes_for, bit_bytes}
use Rattle.index_format.specs.Fields.{numbers_from_bits}
use Rattle.index_format.proofs.BitLemmas.{bytes_filled-word}
use Rattle.index_format.proofs.SymbolLemmas.{numbers_from_bits-more}

-- bits that are appended change no byte that is full
bytes_filled-append : (n : ℕ) (bits more : List Bool) → 8 * n ≤ length bits → bytes_filled n (bits ++ more) ≡ bytes_filled n bits
unfolding bytes_filled
bytes_filled-append zero bits more within = refl
bytes_filled-append (suc n) bits more within =
    rw (
      take-append-le 8 bits more (omega arith),
      drop-append-le 8 bits more (omega arith),
      bytes_filled-append n (drop 8 bits) more (omega (arith, length-drop 8 bits)),
    ) refl

-- no bits wait at first
pub packing-starts : (before : List ℕ) → IsPacking before [] before 0 0
unfolding bytes_filled number_of
packing-starts before =
    record { words = 0; long = refl; low = omega arith; written = sym (append-nil before); left = refl }

module _ {before : List ℕ} {bits : List Bool} {out : List ℕ} {waiting filled : ℕ} (packing : IsPacking before bits out waiting filled) where
  -- as many bits wait as are told
  length-left : length (drop (64 * packing.words) bits) ≡ filled
  length-left = omega (arith, length-drop (64 * packing.words) bits, packing.long)

  -- at the end their bytes follow
  pub packing-ends : out ++ take (bytes_for filled) (to_le_bytes w64 waiting) ≡ before ++ bit_bytes bits
  unfolding bit_bytes window_of
  packing-ends =
      let k = packing.words in
      let n = bytes_for filled in
      let few : n ≤ 8 = omega (arith, packing.low) in
      let window : window_of bits (64 * k) 64 ≡ waiting =
      ap number_of (take_all 64 (drop (64 * k) bits) (omega (arith, length-left, packing.low))) ∙ sym packing.left in
      let last = bytes_filled-word bits k n few in
      let count : 8 * k + n ≡ bytes_for (length bits) = omega (arith, packing.long) in
      ap (λ front. front ++ take n (to_le_bytes w64 waiting)) packing.written
      ∙ append_assoc before (bytes_filled (8 * k) bits) (take n (to_le_bytes w64 waiting))
      ∙ ap (λ tail. before ++ tail) (rw window at last ∙ ap (λ m. bytes_filled m bits) count)

  module _ (width number : ℕ) (small : number < 2 ^ width) where
    -- the written bytes are those of all bits
    kept : bytes_filled (8 * packing.words) (bits ++ low_bits width number) ≡ bytes_filled (8 * packing.words) bits
    kept = bytes_filled-append (8 * packing.words) bits (low_bits width number) (omega (arith, packing.long))

    -- the number stands above the bits that wait
    joined : number * 2 ^ filled + waiting ≡ number_of (drop (64 * packing.words) (bits ++ low_bits width number))
    joined =
        let rest = drop (64 * packing.words) bits in
        let value : number_of (low_bits width number) ≡ number = number_of-low_bits width number ∙ mod-eq_of_lt small in
        let behind = drop-append-le (64 * packing.words) bits (low_bits width number) (omega (arith, packing.long)) in
        sym (ap number_of behind ∙ number_of-append rest (low_bits width number)
        ∙ rw (length-left, value) (ap (λ v. number * 2 ^ filled + v) (sym packing.left)))

    -- how many bits there are
    length-all : length (bits ++ low_bits width number) ≡ 64 * packing.words + filled + width
    length-all = omega (arith, length-append bits (low_bits width number), length-low_bits width number, packing.long)

    -- all of them wait for their word
    pub packing-fits : filled + width < 64
        → IsPacking before (bits ++ low_bits width number) out (number * 2 ^ filled + waiting) (filled + width)
    packing-fits room = record {
      words = packing.words;
      long = omega (arith, length-all);
      low = room;
      written = packing.written ∙ ap (λ tail. before ++ tail) (sym kept);
      left = joined;
    }

    -- a word is full, and the others wait
    pub packing-spills : (new : List ℕ) → 64 ≤ filled + width → width ≤ 64
        → new ≡ out ++ to_le_bytes w64 ((number * 2 ^ filled + waiting) % 2 ^ 64)
        → IsPacking before (bits ++ low_bits width number) new ((number * 2 ^ filled + waiting) / 2 ^ 64) (filled + width - 64)
    unfolding window_of
    packing-spills new full narrow new_is =
        let k = packing.words in
        let all = bits ++ low_bits width number in
        let sum = number * 2 ^ filled + waiting in
        let window : window_of all (64 * k) 64 ≡ sum % 2 ^ 64 =
        number_of-take 64 (drop (64 * k) all) ∙ ap (λ v. v % 2 ^ 64) (sym joined) in
        let whole : take 8 (to_le_bytes w64 (sum % 2 ^ 64)) ≡ to_le_bytes w64 (sum % 2 ^ 64) = refl in
        let word = bytes_filled-word all k 8 (omega arith) in
        let next : 8 * k + 8 ≡ 8 * (k + 1) = omega arith in
        let place : 64 * k + 64 ≡ 64 * (k + 1) = omega arith in
        let past = drop-drop 64 (64 * k) all ∙ ap (λ p. drop p all) place in
        record {
          words = k + 1;
          long = omega (arith, length-all);
          low = omega (arith, packing.low);
          written = new_is ∙ ap (λ front. front ++ to_le_bytes w64 (sum % 2 ^ 64)) packing.written
              ∙ append_assoc before (bytes_filled (8 * k) bits) (to_le_bytes w64 (sum % 2 ^ 64))
              ∙ ap (λ tail. before ++ tail) (rw (← kept) (rw window at word) ∙ ap (λ m. bytes_filled m all) next);
          left = ap (λ v. v / 2 ^ 64) joined ∙ sym (number_of-drop 64 (drop (64 * k) all)) ∙ ap number_of past;
        }

-- a number above the bits that wait is as long as both
pub joined_small : (width number waiting filled : ℕ) → number < 2 ^ width → waiting < 2 ^ filled
    → number * 2 ^ filled + waiting < 2 ^ (filled + width)
joined_small width number waiting filled small low =
    let most : suc number * 2 ^ filled ≤ 2 ^ width * 2 ^ filled = mul-le-mul_right (2 ^ filled) small in
    omega (arith, most, low, pow-add 2 filled width)

-- what of some bits was read from their words: the numbers before the k-th, and the bits after them up to a word's end
pub record IsUnpacking (width k : ℕ) (bits : List Bool) (numbers : List ℕ) (waiting filled words : ℕ) : Type 0 where
  pub seen : numbers ≡ numbers_from_bits width k bits
  pub left : waiting ≡ window_of bits (width * k) filled
  pub place : width * k + filled ≡ 64 * words
  pub low : filled < 64

-- nothing was read
pub unpacking-starts : (width : ℕ) (bits : List Bool) (numbers : List ℕ) → numbers ≡ [] → IsUnpacking width 0 bits numbers 0 0 0
unfolding numbers_from_bits window_of number_of
unpacking-starts width bits numbers none =
    record { seen = none; left = refl; place = omega arith; low = omega arith }

-- a word more waits above
pub word_above : (bits : List Bool) (place waiting filled word words : ℕ) → waiting ≡ window_of bits place filled
    → word ≡ window_of bits (64 * words) 64 → place + filled ≡ 64 * words → filled < 64
    → waiting + word * 2 ^ filled % 2 ^ 128 ≡ window_of bits place (filled + 64)
word_above bits place waiting filled word words waiting_is word_is here low =
    let small : word < 2 ^ 64 = rw word_is (window_of-lt bits (64 * words) 64) in
    ap (λ v. waiting + v) (shl_whole word 64 filled 128 small (omega arith))
    ∙ rw (waiting_is, word_is) (ap (λ p. window_of bits place filled + window_of bits p 64 * 2 ^ filled) (sym here)
    ∙ sym (window_of-cat bits place filled 64))

-- a window fits the word that it waits in
pub window_fits : (bits : List Bool) (place filled : ℕ) → filled < 64 → window_of bits place (filled + 64) < 2 ^ 128
window_fits bits place filled low =
    let most : 2 ^ (filled + 64) ≤ 2 ^ 128 = pow-le-pow_right {n = 2} (lit< tt) {i = filled + 64} {j = 128} (omega arith) in
    omega (arith, most, window_of-lt bits place (filled + 64))

-- the next number's bits wait
pub record IsReady (width k : ℕ) (bits : List Bool) (waiting filled words : ℕ) : Type 0 where
  pub left : waiting ≡ window_of bits (width * k) filled
  pub place : width * k + filled ≡ 64 * words
  pub enough : width ≤ filled
  pub low : filled < 64 + width

-- it is taken from those that wait
pub unpacking-more : (width k : ℕ) (bits : List Bool) (numbers new : List ℕ) (waiting filled words : ℕ)
    → numbers ≡ numbers_from_bits width k bits → IsReady width k bits waiting filled words
    → new ≡ numbers ++ waiting % 2 ^ width ∷ []
    → IsUnpacking width (k + 1) bits new (waiting / 2 ^ width) (filled - width) words
unpacking-more width k bits numbers new waiting filled words seen ready new_is =
    let p = width * k in
    let next : width * (k + 1) ≡ p + width = omega arith in
    let whole : filled - width + width ≡ filled = omega (arith, ready.enough) in
    let number : waiting % 2 ^ width ≡ window_of bits p width =
    ap (λ v. v % 2 ^ width) ready.left ∙ sym (window_of-narrow bits p width filled ready.enough) in
    record {
      seen = new_is ∙ ap (λ n. numbers ++ n ∷ []) number
          ∙ ap (λ front. front ++ window_of bits p width ∷ []) seen ∙ sym (numbers_from_bits-more width k bits);
      left = ap (λ v. v / 2 ^ width) (ready.left ∙ ap (λ m. window_of bits p m) (sym whole))
          ∙ sym (window_of-past bits p width (filled - width)) ∙ ap (λ q. window_of bits q (filled - width)) (sym next);
      place = omega (arith, next, ready.place, ready.enough);
      low = omega (arith, ready.low, ready.enough);
    }
