-- Bytes side by side in one word, the first one lowest, and one test for digits of them all.
use Rattle.std.proofs.Common.{◌≡◌, true, false, ℕ, zero, suc, ◌+◌, ◌-◌, ◌*◌, ◌/◌, ◌%◌, ◌<◌, ◌≤◌, Bool, ◌&&◌, ◌==◌, cond, not, List, [], ◌∷◌, bit_and, inl, inr, refl, sym, ap, ◌∙◌, arith}
use Rattle.std.proofs.lemmas.Bool.{and_parts, cases_Bool, cases_eq}
use Rattle.std.proofs.lemmas.Bool.Decides.{nat_tests}
use Rattle.std.proofs.lemmas.Nat.{and_le_l, and_mask, and_mod, and_shr}
use Rattle.std.specs.List.{list_all}
use Rattle.track_types.specs.Numeral.{is_digit, magnitude_of}

-- whether all numbers below a bound pass a test
abbrev all_pass : (ℕ → Bool) → ℕ → Bool
all_pass test zero = true
all_pass test (suc n) = test n && all_pass test n

all_pass-at : (test : ℕ → Bool) (n k : ℕ) → all_pass test n ≡ true → k < n → test k ≡ true
all_pass-at test zero k all below = absurd (omega (arith, below))
all_pass-at test (suc n) k all below =
    let parts = and_parts (test n) (all_pass test n) all in
    elim (cases_eq n k) [
      | inl is ↦ ap test (sym is) ∙ parts.0
      | inr differ ↦ all_pass-at test n k parts.1 (omega (arith, below, differ))
    ]

-- what the test leaves of a byte
abbrev mark_of : ℕ → ℕ
mark_of byte = bit_and (bit_and byte ((byte + 6) % 256)) 240

-- whether the mark is that of a digit just where the byte is one
abbrev mark_tells : ℕ → Bool
mark_tells byte = cond (is_digit byte) (mark_of byte == 48) (not (mark_of byte == 48))

mark_tells-byte : (byte : ℕ) → byte < 256 → mark_tells byte ≡ true
mark_tells-byte byte small = all_pass-at mark_tells 256 byte refl small

-- the marks of a word: that of its lowest byte, and those of the others, if that byte is a digit
module _ (word sixes halves : ℕ) where
  abbrev sum : ℕ
  sum = word + (6 + 256 * sixes)

  abbrev mask : ℕ
  mask = 240 + 256 * halves

  abbrev marks : ℕ
  marks = bit_and (bit_and word sum) mask

  low_mark : marks % 256 ≡ mark_of (word % 256)
  low_mark =
      let outer : marks % 256 ≡ bit_and (bit_and word sum % 256) (mask % 256) = and_mod (bit_and word sum) mask 8 in
      let inner : bit_and word sum % 256 ≡ bit_and (word % 256) (sum % 256) = and_mod word sum 8 in
      let low_sum : sum % 256 ≡ (word % 256 + 6) % 256 = omega arith in
      let low_mask : mask % 256 ≡ 240 = omega arith in
      rw (outer, inner, low_sum, low_mask) refl

  high_marks : word % 256 < 250 → marks / 256 ≡ bit_and (bit_and (word / 256) (word / 256 + sixes)) halves
  high_marks small =
      let outer : marks / 256 ≡ bit_and (bit_and word sum / 256) (mask / 256) = and_shr (bit_and word sum) mask 8 in
      let inner : bit_and word sum / 256 ≡ bit_and (word / 256) (sum / 256) = and_shr word sum 8 in
      let high_sum : sum / 256 ≡ word / 256 + sixes = omega (arith, small) in
      let high_mask : mask / 256 ≡ halves = omega arith in
      rw (outer, inner, high_sum, high_mask) refl

  -- so the test of all bytes is one of the lowest and one of the others
  test_of_low : (others : ℕ) →
      (marks == 48 + 256 * others)
      ≡ (is_digit (word % 256) && (bit_and (bit_and (word / 256) (word / 256 + sixes)) halves == others))
  test_of_low others =
      let tells = mark_tells-byte (word % 256) (omega arith) in
      elim (cases_Bool (is_digit (word % 256))) [
        | inl is ↦
            let small : word % 256 < 250 = grind (arith, nat_tests, is) in
            let mark : mark_of (word % 256) ≡ 48 = grind (arith, nat_tests, tells, is) in
            let low = low_mark ∙ mark in
            rw is (grind (arith, nat_tests, high_marks small, low))
        | inr not ↦
            let apart : (mark_of (word % 256) == 48) ≡ false = grind (arith, nat_tests, tells, not) in
            rw not (grind (arith, nat_tests, low_mark, apart))
      ]

-- two bytes side by side
module _ (a b word : ℕ) (same : word ≡ a + b * 256) where
  abbrev both : List ℕ
  both = a ∷ b ∷ []

  -- they are digits if the test finds the upper half of a digit in each
  pub test_of_two : a < 256 → b < 256 →
      (bit_and (bit_and word (word + 0x0606)) 0xf0f0 == 0x3030) ≡ list_all is_digit both
  test_of_two is_a is_b =
      let first = test_of_low word 0x06 0xf0 0x30 in
      let second = test_of_low (word / 256) 0 0 0 in
      let at_a : word % 256 ≡ a = omega arith in
      let at_b : word / 256 % 256 ≡ b = omega arith in
      let above : word / 256 / 256 ≡ 0 = omega arith in
      rw (first, second, at_a, at_b, above) refl

  -- they mean
  pub value_of_two : list_all is_digit both ≡ true → 0xa01 * (word - 0x3030) / 256 % 256 ≡ magnitude_of both
  value_of_two are =
      let is_a : (48 ≤ a) × (a ≤ 57) = grind (arith, nat_tests, are) in
      let is_b : (48 ≤ b) × (b ≤ 57) = grind (arith, nat_tests, are) in
      omega (arith, same, is_a, is_b)

-- four equal bytes, and what is above them
abbrev four_of : ℕ → ℕ → ℕ
four_of byte rest = byte + 256 * (byte + 256 * (byte + 256 * (byte + 256 * rest)))

-- so the test is one of the lowest four bytes, and one of what is above them
module _ (a b c d rest word : ℕ) (same : word ≡ a + b * 256 + c * 65536 + d * 16777216 + 4294967296 * rest) where
  test_of_lowest : (sixes halves others : ℕ) → a < 256 → b < 256 → c < 256 → d < 256 →
      let above = bit_and (bit_and rest (rest + sixes)) halves == others in
      (bit_and (bit_and word (word + four_of 6 sixes)) (four_of 240 halves) == four_of 48 others)
      ≡ (is_digit a && (is_digit b && (is_digit c && (is_digit d && above))))
  test_of_lowest sixes halves others is_a is_b is_c is_d =
      let add : ℕ → ℕ = λ n. 6 + 256 * n in
      let half : ℕ → ℕ = λ n. 240 + 256 * n in
      let mark : ℕ → ℕ = λ n. 48 + 256 * n in
      let first = test_of_low word (add (add (add sixes))) (half (half (half halves))) (mark (mark (mark others))) in
      let second = test_of_low (word / 256) (add (add sixes)) (half (half halves)) (mark (mark others)) in
      let third = test_of_low (word / 256 / 256) (add sixes) (half halves) (mark others) in
      let fourth = test_of_low (word / 256 / 256 / 256) sixes halves others in
      let at_a : word % 256 ≡ a = omega arith in
      let at_b : word / 256 % 256 ≡ b = omega arith in
      let at_c : word / 256 / 256 % 256 ≡ c = omega arith in
      let at_d : word / 256 / 256 / 256 % 256 ≡ d = omega arith in
      let above : word / 256 / 256 / 256 / 256 ≡ rest = omega arith in
      rw (first, second, third, fourth, at_a, at_b, at_c, at_d, above) refl

-- every second byte is left of a word
keep_low : (low high rest mask : ℕ) → low < 256 → high < 256 →
    bit_and (low + 256 * high + 65536 * rest) (255 + 65536 * mask) ≡ low + 65536 * bit_and rest mask
keep_low low high rest mask is_low is_high =
    let word = low + 256 * high + 65536 * rest in
    let below : bit_and word (255 + 65536 * mask) % 65536 ≡ bit_and (word % 65536) ((255 + 65536 * mask) % 65536) =
    and_mod word (255 + 65536 * mask) 16 in
    let above : bit_and word (255 + 65536 * mask) / 65536 ≡ bit_and (word / 65536) ((255 + 65536 * mask) / 65536) =
    and_shr word (255 + 65536 * mask) 16 in
    let at_low : word % 65536 ≡ low + 256 * high = omega (arith, is_low, is_high) in
    let at_rest : word / 65536 ≡ rest = omega (arith, is_low, is_high) in
    let mask_low : (255 + 65536 * mask) % 65536 ≡ 255 = omega arith in
    let mask_rest : (255 + 65536 * mask) / 65536 ≡ mask = omega arith in
    let kept : bit_and (low + 256 * high) 255 ≡ (low + 256 * high) % 256 = and_mask (low + 256 * high) 8 in
    let first : bit_and word (255 + 65536 * mask) % 65536 ≡ low =
    rw (below, at_low, mask_low, kept) (omega (arith, is_low)) in
    let second : bit_and word (255 + 65536 * mask) / 65536 ≡ bit_and rest mask = rw (above, at_rest, mask_rest) refl in
    omega (arith, first, second)

-- four bytes side by side
module _ (a b c d word : ℕ) (same : word ≡ a + b * 256 + c * 65536 + d * 16777216) where
  abbrev bytes : List ℕ
  bytes = a ∷ b ∷ c ∷ d ∷ []

  -- they are all digits if the test finds the upper half of a digit in each
  pub test_of_four : a < 256 → b < 256 → c < 256 → d < 256 →
      (bit_and (bit_and word (word + 0x06060606)) 0xf0f0f0f0 == 0x30303030) ≡ list_all is_digit bytes
  test_of_four is_a is_b is_c is_d = test_of_lowest a b c d 0 word (omega arith) 0 0 0 is_a is_b is_c is_d

  -- what they mean is found in pairs of digits
  pub value_of_four : list_all is_digit bytes ≡ true →
      let digits = word - 0x30303030 in
      let pairs = bit_and (0xa01 * digits / 256) 0x00ff00ff in
      pairs * 0x640001 % 4294967296 / 65536 ≡ magnitude_of bytes
  value_of_four are =
      let digits = word - 0x30303030 in
      let is_a : (48 ≤ a) × (a ≤ 57) = grind (arith, nat_tests, are) in
      let is_b : (48 ≤ b) × (b ≤ 57) = grind (arith, nat_tests, are) in
      let is_c : (48 ≤ c) × (c ≤ 57) = grind (arith, nat_tests, are) in
      let is_d : (48 ≤ d) × (d ≤ 57) = grind (arith, nat_tests, are) in
      let p = 10 * (a - 48) + (b - 48) in
      let q = 10 * (c - 48) + (d - 48) in
      let x = 10 * (b - 48) + (c - 48) in
      let y = 10 * (d - 48) in
      let next : digits / 256 ≡ (b - 48) + 256 * (c - 48) + 65536 * (d - 48) =
      omega (arith, same, is_a, is_b, is_c, is_d) in
      let pairs : 0xa01 * digits / 256 ≡ 10 * digits + digits / 256 = omega arith in
      let split : 0xa01 * digits / 256 ≡ p + 256 * x + 65536 * (q + 256 * y + 65536 * 0) =
      omega (arith, same, next, pairs, is_a, is_b, is_c, is_d) in
      let second = keep_low q y 0 0 (omega (arith, is_c, is_d)) (omega (arith, is_d)) in
      let first = keep_low p x (q + 256 * y + 65536 * 0) 255 (omega (arith, is_a, is_b)) (omega (arith, is_b, is_c)) in
      rw (split, first, second) (omega (arith, is_a, is_b, is_c, is_d))

-- the bytes of a long product that are in its word and above the lowest byte
middle_of : (long low middle high : ℕ) → long ≡ low + 256 * middle + 18446744073709551616 * high →
    low < 10 → middle < 72057594037927936 → long % 18446744073709551616 / 256 ≡ middle
middle_of long low middle high same is_low is_middle = omega (arith, same, is_low, is_middle)

-- eight digits one below the other, in pairs, each with what comes to stand beside it
module _ (p q r s x y z : ℕ) (is_p : p < 100) (is_q : q < 100) (is_r : r < 100) (is_s : s < 100)
    (is_x : x < 100) (is_y : y < 100) (is_z : z < 100) where
  kept_pairs :
      bit_and (p + 256 * x + 65536 * (q + 256 * y + 65536 * (r + 256 * z + 65536 * (s + 256 * 0 + 65536 * 0))))
      0x00ff00ff00ff00ff
      ≡ p + 65536 * (q + 65536 * (r + 65536 * s))
  kept_pairs =
      let last = keep_low s 0 0 0 (omega (arith, is_s)) (omega arith) in
      let third = keep_low r z (s + 256 * 0 + 65536 * 0) 255 (omega (arith, is_r)) (omega (arith, is_z)) in
      let second =
      keep_low q y (r + 256 * z + 65536 * (s + 256 * 0 + 65536 * 0)) 0xff00ff
      (omega (arith, is_q)) (omega (arith, is_y)) in
      let first = keep_low p x (q + 256 * y + 65536 * (r + 256 * z + 65536 * (s + 256 * 0 + 65536 * 0))) 0xff00ff00ff
      (omega (arith, is_p)) (omega (arith, is_x)) in
      omega (arith, first, second, third, last)

  -- four pairs of digits mean
  value_of_pairs :
      let fours = (p + 65536 * (q + 65536 * (r + 65536 * s))) * 0x640001 % 18446744073709551616 / 65536 in
      10000 * (fours % 65536) + fours / 4294967296 ≡ 1000000 * p + 10000 * q + 100 * r + s
  value_of_pairs =
      let times = (p + 65536 * (q + 65536 * (r + 65536 * s))) * 0x640001 in
      let fours = (100 * p + q) + 65536 * (100 * q + r) + 4294967296 * (100 * r + s) in
      let split : times ≡ p + 65536 * fours + 18446744073709551616 * (100 * s) = omega arith in
      let below : fours < 281474976710656 = omega (arith, is_p, is_q, is_r, is_s) in
      let middle : times % 18446744073709551616 / 65536 ≡ fours = omega (arith, split, below, is_p) in
      rw middle (omega (arith, is_p, is_q, is_r, is_s))

-- what a digit means, and the digit of it
digit_at : (byte : ℕ) → is_digit byte ≡ true → (byte - 48 < 10) × (48 + (byte - 48) ≡ byte)
digit_at byte is =
    let within : (48 ≤ byte) × (byte ≤ 57) = grind (arith, nat_tests, is) in
    (omega (arith, within), omega (arith, within))

-- a word of eight digits means
value_of_digits : (a b c d e f g h word : ℕ) → a < 10 → b < 10 → c < 10 → d < 10 → e < 10 → f < 10 → g < 10 → h < 10 →
    word ≡ 48 + a + (48 + b) * 256 + (48 + c) * 65536 + (48 + d) * 16777216 + (48 + e) * 4294967296
    + (48 + f) * 1099511627776 + (48 + g) * 281474976710656 + (48 + h) * 72057594037927936 →
    let digits = word - 0x3030303030303030 in
    let pairs = bit_and (digits * 0xa01 % 18446744073709551616 / 256) 0x00ff00ff00ff00ff in
    let fours = pairs * 0x640001 % 18446744073709551616 / 65536 in
    10000 * (fours % 65536) + fours / 4294967296
    ≡ a * 10000000 + (b * 1000000 + (c * 100000 + (d * 10000 + (e * 1000 + (f * 100 + (g * 10 + (h * 1 + 0)))))))
value_of_digits a b c d e f g h word is_a is_b is_c is_d is_e is_f is_g is_h same =
    let digits = word - 0x3030303030303030 in
    let p : ℕ = 10 * a + b in
    let q : ℕ = 10 * c + d in
    let r : ℕ = 10 * e + f in
    let s : ℕ = 10 * g + h in
    let x : ℕ = 10 * b + c in
    let y : ℕ = 10 * d + e in
    let z : ℕ = 10 * f + g in
    let is_p : p < 100 = omega (arith, is_a, is_b) in
    let is_q : q < 100 = omega (arith, is_c, is_d) in
    let is_r : r < 100 = omega (arith, is_e, is_f) in
    let is_s : s < 100 = omega (arith, is_g, is_h) in
    let is_x : x < 100 = omega (arith, is_b, is_c) in
    let is_y : y < 100 = omega (arith, is_d, is_e) in
    let is_z : z < 100 = omega (arith, is_f, is_g) in
    let two : ℕ = p + 256 * x + 65536 * (q + 256 * y + 65536 * (r + 256 * z + 65536 * (s + 256 * 0 + 65536 * 0))) in
    let split : digits * 0xa01 ≡ a + 256 * two + 18446744073709551616 * (10 * h) = omega (arith, same) in
    let below : two < 72057594037927936 = omega (arith, is_p, is_q, is_r, is_s, is_x, is_y, is_z) in
    let middle : digits * 0xa01 % 18446744073709551616 / 256 ≡ two =
    middle_of (digits * 0xa01) a two (10 * h) split is_a below in
    rw (middle, kept_pairs p q r s x y z is_p is_q is_r is_s is_x is_y is_z)
    (value_of_pairs p q r s x y z is_p is_q is_r is_s is_x is_y is_z ∙ omega arith)

-- eight bytes side by side
module _ (a b c d e f g h word : ℕ)
    (same : word ≡ a + b * 256 + c * 65536 + d * 16777216 + e * 4294967296 + f * 1099511627776 + g * 281474976710656
    + h * 72057594037927936) where
  abbrev eight : List ℕ
  eight = a ∷ b ∷ c ∷ d ∷ e ∷ f ∷ g ∷ h ∷ []

  -- they are all digits if the test finds the upper half of a digit in each
  pub test_of_eight : a < 256 → b < 256 → c < 256 → d < 256 → e < 256 → f < 256 → g < 256 → h < 256 →
      (bit_and (bit_and word ((word + 0x0606060606060606) % 18446744073709551616)) 0xf0f0f0f0f0f0f0f0
      == 0x3030303030303030)
      ≡ list_all is_digit eight
  test_of_eight is_a is_b is_c is_d is_e is_f is_g is_h =
      let sum = word + 0x0606060606060606 in
      let upper = e + f * 256 + g * 65536 + h * 16777216 in
      let cut : bit_and word sum % 18446744073709551616
      ≡ bit_and (word % 18446744073709551616) (sum % 18446744073709551616) =
      and_mod word sum 64 in
      let less : bit_and word sum ≤ word = and_le_l word sum in
      let small : word < 18446744073709551616 = omega (arith, same, is_a, is_b, is_c, is_d, is_e, is_f, is_g, is_h) in
      let whole : word % 18446744073709551616 ≡ word = omega (arith, small) in
      let all : bit_and word sum % 18446744073709551616 ≡ bit_and word sum = omega (arith, less, small) in
      let same_sum : bit_and word (sum % 18446744073709551616) ≡ bit_and word sum =
      ap (λ n. bit_and n (sum % 18446744073709551616)) (sym whole) ∙ sym cut ∙ all in
      let low =
      test_of_lowest a b c d upper word (omega (arith, same)) 0x06060606 0xf0f0f0f0 0x30303030 is_a is_b is_c is_d in
      let high = test_of_four e f g h upper refl is_e is_f is_g is_h in
      rw (same_sum, low, high) refl

  -- what they mean is found in pairs of digits, and then in pairs of those
  pub value_of_eight : list_all is_digit eight ≡ true →
      let digits = word - 0x3030303030303030 in
      let pairs = bit_and (digits * 0xa01 % 18446744073709551616 / 256) 0x00ff00ff00ff00ff in
      let fours = pairs * 0x640001 % 18446744073709551616 / 65536 in
      10000 * (fours % 65536) + fours / 4294967296 ≡ magnitude_of eight
  value_of_eight are =
      let is_a = digit_at a (grind (arith, nat_tests, are)) in
      let is_b = digit_at b (grind (arith, nat_tests, are)) in
      let is_c = digit_at c (grind (arith, nat_tests, are)) in
      let is_d = digit_at d (grind (arith, nat_tests, are)) in
      let is_e = digit_at e (grind (arith, nat_tests, are)) in
      let is_f = digit_at f (grind (arith, nat_tests, are)) in
      let is_g = digit_at g (grind (arith, nat_tests, are)) in
      let is_h = digit_at h (grind (arith, nat_tests, are)) in
      value_of_digits (a - 48) (b - 48) (c - 48) (d - 48) (e - 48) (f - 48) (g - 48) (h - 48) word
      is_a.0 is_b.0 is_c.0 is_d.0 is_e.0 is_f.0 is_g.0 is_h.0
      (rw (is_a.1, is_b.1, is_c.1, is_d.1, is_e.1, is_f.1, is_g.1, is_h.1) same)
