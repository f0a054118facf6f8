-- Levels: their bits, their squares and their ones.
use Rattle.std.proofs.Common.{◌≡◌, ℕ, zero, suc, ◌+◌, ◌*◌, ◌^◌, List, [], ◌∷◌, ◌++◌, length}
use Rattle.std.proofs.Common.{refl, sym, ap, ◌∙◌, arith, append_assoc, length-append}
use Rattle.std.proofs.lemmas.List.{length-map}
use Rattle.packed_bits.specs.Bits.{ones_of}
use Rattle.bit_rank.proofs.RankLemmas.{ones_of-append, ones_of-map, ones_of-nil}
use Rattle.k2_tree.specs.Widths.{digits_in, fan_of, levels_with}
use Rattle.k2_tree.specs.TreeBits.{is_in, prefixes, Rises, level_bits, children_of_prefixes, morton_bits}
use Rattle.k2_tree.specs.Squares.{squares_above, bits_above}
use Rattle.k2_tree.specs.Building.{levels_bits}
use Rattle.k2_tree.proofs.LongerLemmas.{length-children_of_prefixes, prefixes-from_longer}

pub digits_in-append : (xs ys : List ℕ) → digits_in (xs ++ ys) ≡ digits_in xs + digits_in ys
unfolding digits_in
digits_in-append [] ys = omega arith
digits_in-append (x ∷ xs) ys = omega (arith, digits_in-append xs ys)

-- a tree's bits are those above a level and those from it on
pub morton_bits-parted : (above below codes : List ℕ)
    → morton_bits (above ++ below) codes ≡ levels_bits above (digits_in below) codes ++ morton_bits below codes
unfolding morton_bits levels_bits
morton_bits-parted [] below codes = refl
morton_bits-parted (width ∷ widths) below codes =
    let n : ℕ = digits_in widths + digits_in below in
    ap (λ m. level_bits width m codes ++ morton_bits (widths ++ below) codes) (digits_in-append widths below)
    ∙ ap (λ bits. level_bits width n codes ++ bits) (morton_bits-parted widths below codes)
    ∙ sym (append_assoc (level_bits width n codes) (levels_bits widths (digits_in below) codes)
    (morton_bits below codes))

-- a level has a bit for each child of each square of the level above
pub length-level_bits : (w n : ℕ) (codes : List ℕ)
    → length (level_bits w n codes) ≡ fan_of w * length (prefixes (w + n) codes)
unfolding level_bits
length-level_bits w n codes =
    length-map (children_of_prefixes (4 ^ w) (prefixes (w + n) codes)) (is_in (prefixes n codes))
    ∙ length-children_of_prefixes (4 ^ w) (prefixes (w + n) codes)

pub length-levels_bits : (above : List ℕ) (n : ℕ) (codes : List ℕ)
    → length (levels_bits above n codes) ≡ bits_above above n codes
unfolding levels_bits bits_above
length-levels_bits [] n codes = refl
length-levels_bits (w ∷ ws) n codes =
    length-append (level_bits w (digits_in ws + n) codes) (levels_bits ws n codes)
    ∙ omega (arith, length-level_bits w (digits_in ws + n) codes, length-levels_bits ws n codes)

-- a level has as many ones as squares
pub ones_of-level_bits : (w n : ℕ) (codes : List ℕ) → Rises 0 codes
    → ones_of (level_bits w n codes) ≡ length (prefixes n codes)
unfolding level_bits
ones_of-level_bits w n codes up =
    ones_of-map (is_in (prefixes n codes)) (children_of_prefixes (4 ^ w) (prefixes (w + n) codes))
    ∙ ap length (prefixes-from_longer w n codes up)

-- the ones of levels are the squares in them and of the next, but for the topmost
pub ones_of-levels_bits : (above : List ℕ) (n : ℕ) (codes : List ℕ) → Rises 0 codes
    → ones_of (levels_bits above n codes) + length (prefixes (digits_in above + n) codes)
    ≡ squares_above above n codes + length (prefixes n codes)
unfolding levels_bits squares_above digits_in
ones_of-levels_bits [] n codes up =
    let e : 0 + n ≡ n = omega arith in omega (arith, ones_of-nil, ap (λ m. length (prefixes m codes)) e)
ones_of-levels_bits (w ∷ ws) n codes up =
    let rest = ones_of-levels_bits ws n codes up in
    let level = ones_of-level_bits w (digits_in ws + n) codes up in
    let e : w + digits_in ws + n ≡ w + (digits_in ws + n) = omega arith in
    omega (
      arith,
      rest,
      level,
      ones_of-append (level_bits w (digits_in ws + n) codes) (levels_bits ws n codes),
      ap (λ m. length (prefixes m codes)) e,
    )

-- one level more above
pub squares_above-snoc : (above : List ℕ) (w n : ℕ) (codes : List ℕ)
    → squares_above (above ++ w ∷ []) n codes ≡ squares_above above (w + n) codes + length (prefixes (w + n) codes)
unfolding squares_above digits_in
squares_above-snoc [] w n codes =
    let e : w + (0 + n) ≡ w + n = omega arith in omega (arith, ap (λ m. length (prefixes m codes)) e)
squares_above-snoc (x ∷ xs) w n codes =
    let e : x + (digits_in (xs ++ w ∷ []) + n) ≡ x + (digits_in xs + (w + n)) =
    omega (arith, digits_in-append xs (w ∷ [])) in
    omega (arith, squares_above-snoc xs w n codes, ap (λ m. length (prefixes m codes)) e)

-- the squares and the bits of levels of one width
pub bits_above-same : (w a n : ℕ) (codes : List ℕ)
    → bits_above (levels_with w a) n codes ≡ fan_of w * squares_above (levels_with w a) n codes
unfolding levels_with bits_above squares_above
bits_above-same w zero n codes = omega arith
bits_above-same w (suc a) n codes = omega (arith, bits_above-same w a n codes)
