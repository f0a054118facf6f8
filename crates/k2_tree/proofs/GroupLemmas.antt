-- Where groups stand by the number of their square, and back.
use Rattle.std.proofs.Common.{◌≡◌, ℕ, zero, suc, ◌+◌, ◌-◌, ◌*◌, ◌^◌, ◌<◌, nat_lt}
use Rattle.std.proofs.Common.{List, [], ◌∷◌, ◌++◌, length, refl, sym, ap, ◌∙◌, inl, inr, arith, if◌then◌else◌}
use Rattle.std.proofs.lemmas.Bool.{cases_lt, le-ltb, lt-ltb}
use Rattle.k2_tree.specs.Widths.{levels_with, digits_in, fan_of}
use Rattle.k2_tree.specs.TreeBits.{prefixes}
use Rattle.k2_tree.specs.Squares.{squares_above, bits_above}
use Rattle.k2_tree.specs.Groups.{group_start, square_at, digit_at, square_width}
use Rattle.k2_tree.proofs.LevelLemmas.{digits_in-append}
use Rattle.k2_tree.proofs.WidthLemmas.{digits_in-levels_with, firsts}

-- where none are split in sixteen all groups have four bits
pub group_start-none : (j : ℕ) → group_start 0 j ≡ 4 * j
unfolding group_start
group_start-none j = rw (le-ltb j 0 (omega arith)) (omega arith)

-- so many squares more that are split in sixteen, all of them above
group_start-more : (t u j : ℕ) → group_start (t + u) (t + j) ≡ 16 * t + group_start u j
unfolding group_start
group_start-more t u j = elim (cases_lt j u) [
  | inl low ↦ rw (lt-ltb j u low, lt-ltb (t + j) (t + u) (omega arith)) (omega arith)
  | inr high ↦ rw (le-ltb j u high, le-ltb (t + j) (t + u) (omega arith)) (omega arith)
]

same_test : (t u j : ℕ) → nat_lt j u ≡ nat_lt (t + j) (t + u)
same_test t u j = elim (cases_lt j u) [
  | inl low ↦ lt-ltb j u low ∙ sym (lt-ltb (t + j) (t + u) (omega arith))
  | inr high ↦ le-ltb j u high ∙ sym (le-ltb (t + j) (t + u) (omega arith))
]

-- a place leads back to its square and its digit
module _ (u j d : ℕ) (small : d < fan_of (square_width u j)) where
  back : (square_at u (group_start u j + d) ≡ j) × (digit_at u (group_start u j + d) ≡ d)
  unfolding group_start square_at digit_at
  back = elim (cases_lt j u) [
    | inl low ↦
        let on = lt-ltb j u low in
        let few : d < 16 = rw on at small in
        rw (on, lt-ltb (16 * j + d) (16 * u) (omega arith)) (omega arith, omega arith)
    | inr high ↦
        let off = le-ltb j u high in
        let few : d < 4 = rw off at small in
        rw (off, le-ltb (16 * u + 4 * (j - u) + d) (16 * u) (omega arith)) (omega arith, omega arith)
  ]

  pub back_square : square_at u (group_start u j + d) ≡ j
  back_square = back.0

  pub back_digit : digit_at u (group_start u j + d) ≡ d
  back_digit = back.1

-- how many squares the first of two kinds of levels have
abbrev pub upper_of : ℕ → ℕ → List ℕ → ℕ
upper_of a b codes = squares_above (levels_with 2 a) b codes

-- so many levels of one digit take as many digits
digits_in-ones : (b : ℕ) → digits_in (levels_with 1 b) ≡ b
digits_in-ones b = omega (arith, digits_in-levels_with 1 b)

-- all digits of a split
pub digits_in-parted : (a b : ℕ) (above below : List ℕ) → above ++ below ≡ levels_with 2 a ++ levels_with 1 b
    → digits_in above + digits_in below ≡ digits_in (levels_with 2 a) + b
digits_in-parted a b above below parted =
    sym (digits_in-append above below) ∙ ap digits_in parted ∙ digits_in-append (levels_with 2 a) (levels_with 1 b)
    ∙ ap (λ k. digits_in (levels_with 2 a) + k) (digits_in-ones b)

-- a square's group, and its level's width, by the number alone
pub record IsGroup (u place width start number : ℕ) : Type 0 where
  pub start_is : start + fan_of width * place ≡ group_start u (number + place)
  pub width_is : width ≡ square_width u (number + place)

module _ (codes : List ℕ) where
  -- levels of one digit: four bits for each square
  group_narrow : (b : ℕ) (above ws : List ℕ) (w place : ℕ) → above ++ w ∷ ws ≡ levels_with 1 b
      → (w ≡ 1) × (bits_above above (w + digits_in ws) codes ≡ 4 * squares_above above (w + digits_in ws) codes)
  unfolding levels_with squares_above bits_above
  group_narrow zero [] ws w place parted = absurd (cc)
  group_narrow zero (x ∷ xs) ws w place parted = absurd (cc)
  group_narrow (suc b) [] ws w place parted =
      let first = firsts w 1 ws (levels_with 1 b) parted in (first.0, omega arith)
  group_narrow (suc b) (x ∷ xs) ws w place parted =
      let first = firsts x 1 (xs ++ w ∷ ws) (levels_with 1 b) parted in
      let rest = group_narrow b xs ws w place first.1 in
      let m : ℕ = length (prefixes (x + (digits_in xs + (w + digits_in ws))) codes) in
      let bits : 4 ^ x * m ≡ 4 * m = ap (λ k. 4 ^ k * m) first.0 in
      (rest.0, omega (arith, rest.1, bits))

  -- where a square's group starts
  pub group : (a b : ℕ) (above ws : List ℕ) (w place : ℕ) → above ++ w ∷ ws ≡ levels_with 2 a ++ levels_with 1 b
      → place < length (prefixes (w + digits_in ws) codes)
      → IsGroup (upper_of a b codes) place w (bits_above above (w + digits_in ws) codes)
      (squares_above above (w + digits_in ws) codes)
  unfolding levels_with squares_above bits_above digits_in group_start
  group zero b above ws w place parted within =
      let rest = group_narrow b above ws w place parted in
      let n : ℕ = squares_above above (w + digits_in ws) codes + place in
      let four : 4 ^ w * place ≡ 4 * place = ap (λ k. 4 ^ k * place) rest.0 in
      record {
        start_is = omega (arith, rest.1, four, group_start-none n);
        width_is = rest.0 ∙ (rw (le-ltb n 0 (omega arith)) refl);
      }
  group (suc a) b [] ws w place parted within =
      let first = firsts w 2 ws (levels_with 2 a ++ levels_with 1 b) parted in
      let digits : digits_in ws ≡ digits_in (levels_with 2 a) + b =
      ap digits_in first.1 ∙ digits_in-append (levels_with 2 a) (levels_with 1 b)
      ∙ ap (λ k. digits_in (levels_with 2 a) + k) (digits_in-ones b) in
      let m : ℕ = length (prefixes (2 + (digits_in (levels_with 2 a) + b)) codes) in
      let top : place < m = rw (first.0, digits) at within in
      let sixteen : 4 ^ w * place ≡ 16 * place = ap (λ k. 4 ^ k * place) first.0 in
      by_first (m + upper_of a b codes) (omega arith) first.0 sixteen
    where
      by_first : (u : ℕ) → place < u → w ≡ 2 → 4 ^ w * place ≡ 16 * place → IsGroup u place w 0 0
      by_first u low two sixteen =
          let e : 0 + place ≡ place = omega arith in
          record {
            start_is = rw (e, lt-ltb place u low) (omega (arith, sixteen));
            width_is = rw (e, lt-ltb place u low) two;
          }
  group (suc a) b (x ∷ xs) ws w place parted within =
      let first = firsts x 2 (xs ++ w ∷ ws) (levels_with 2 a ++ levels_with 1 b) parted in
      let rest = group a b xs ws w place first.1 within in
      let n : ℕ = w + digits_in ws in
      let whole : digits_in xs + n ≡ digits_in (levels_with 2 a) + b = digits_in-parted a b xs (w ∷ ws) first.1 in
      let m : ℕ = length (prefixes (x + (digits_in xs + n)) codes) in
      let top : m ≡ length (prefixes (2 + (digits_in (levels_with 2 a) + b)) codes) =
      ap (λ k. length (prefixes k codes))
      (ap (λ k. x + k) whole ∙ ap (λ k. k + (digits_in (levels_with 2 a) + b)) first.0) in
      let s : ℕ = squares_above xs n codes in
      let u : ℕ = upper_of a b codes in
      let sixteen : 4 ^ x * m ≡ 16 * m = ap (λ k. 4 ^ k * m) first.0 in
      let place_is : m + s + place ≡ m + (s + place) = omega arith in
      rw (← top) (record {
        start_is = omega (
          arith,
          rest.start_is,
          group_start-more m u (s + place),
          sixteen,
          ap (group_start (m + u)) place_is,
        );
        width_is = rest.width_is ∙ ap (λ t. if t then 2 else 1) (same_test m u (s + place))
            ∙ ap (square_width (m + u)) (sym place_is);
      })
