-- How many squares are split in sixteen, counted from the bits.
use Rattle.std.proofs.Common.{◌≡◌, ℕ, zero, suc, ◌+◌, ◌*◌, Bool, List, [], ◌∷◌, ◌++◌, length, take, drop}
use Rattle.std.proofs.Common.{refl, sym, ap, ◌∙◌, inl, inr, arith, ◌-◌, ◌<◌}
use Rattle.std.proofs.lemmas.Bool.{cases_lt}
use Rattle.k2_tree.specs.Widths.{levels_with, widths_of, digits_in}
use Rattle.k2_tree.specs.TreeBits.{prefixes, Rises, level_bits, morton_bits}
use Rattle.k2_tree.specs.Squares.{squares_above}
use Rattle.k2_tree.specs.Groups.{upper_in, upper_squares}
use Rattle.k2_tree.specs.Tree.{codes_in, AreTreeBits}
use Rattle.k2_tree.proofs.PrefixLemmas.{prefixes-none}
use Rattle.k2_tree.proofs.LevelLemmas.{digits_in-append, length-level_bits, ones_of-level_bits}
use Rattle.k2_tree.proofs.WidthLemmas.{digits_in-widths_of, digits_in-levels_with}
use Rattle.k2_tree.proofs.ToldLemmas.{codes_in-none}
use Rattle.k2_tree.proofs.WayLemmas.{top_from_bits}
use Rattle.std.proofs.lemmas.List.{take_at, drop_at}

pub upper_in-morton_bits : (a : ℕ) (rest codes : List ℕ) → Rises 0 codes
    → upper_in a (length (prefixes (digits_in (levels_with 2 a ++ rest)) codes))
    (morton_bits (levels_with 2 a ++ rest) codes)
    ≡ squares_above (levels_with 2 a) (digits_in rest) codes
unfolding upper_in morton_bits squares_above levels_with digits_in
upper_in-morton_bits zero rest codes up = refl
upper_in-morton_bits (suc a) rest codes up =
    let below : List ℕ = levels_with 2 a ++ rest in
    let n : ℕ = digits_in below in
    let groups : ℕ = length (prefixes (2 + n) codes) in
    let level : List Bool = level_bits 2 n codes in
    let later : List Bool = morton_bits below codes in
    let long : length level ≡ 16 * groups = length-level_bits 2 n codes in
    let front : take (16 * groups) (level ++ later) ≡ level = take_at level later (16 * groups) long in
    let back : drop (16 * groups) (level ++ later) ≡ later = drop_at level later (16 * groups) long in
    rw (front, back, ones_of-level_bits 2 n codes up, upper_in-morton_bits a rest codes up)
    (ap (λ m. length (prefixes (2 + m) codes) + squares_above (levels_with 2 a) (digits_in rest) codes)
    (digits_in-append (levels_with 2 a) rest))

-- in a tree's bits as many squares are split in sixteen as are counted from them
pub upper_is : (height wide : ℕ) (bits : List Bool) (upper : ℕ) → AreTreeBits height wide bits
    → (length bits ≡ 0 → upper ≡ 0) → (0 < length bits → upper ≡ upper_in wide 1 bits)
    → upper ≡ upper_squares height wide (codes_in (widths_of height wide) bits)
unfolding squares_above
upper_is height wide bits upper are none some = elim (cases_lt 0 (length bits)) [
  | inl on ↦
      let low : ℕ = height - 2 * wide in
      let all : List ℕ = widths_of height wide in
      let codes : List ℕ = codes_in all bits in
      let digits : digits_in all ≡ height = digits_in-widths_of height wide are.fits in
      let top : length (prefixes (digits_in all) codes) ≡ 1 =
      ap (λ n. length (prefixes n codes)) digits ∙ ap length (top_from_bits are on) in
      let back : digits_in (levels_with 1 low) ≡ low = omega (arith, digits_in-levels_with 1 low) in
      some on ∙ ap (λ k. upper_in wide k bits) (sym top)
      ∙ ap (upper_in wide (length (prefixes (digits_in all) codes))) are.exact
      ∙ upper_in-morton_bits wide (levels_with 1 low) codes are.codes.rising
      ∙ ap (λ n. squares_above (levels_with 2 wide) n codes) back
  | inr off ↦
      let nothing : length bits ≡ 0 = omega arith in
      none nothing ∙ sym (ap (upper_squares height wide) (codes_in-none (widths_of height wide) bits nothing)
      ∙ squares_above-none (levels_with 2 wide) (height - 2 * wide))
]
  where
    squares_above-none : (widths : List ℕ) (n : ℕ) → squares_above widths n [] ≡ 0
    squares_above-none [] n = refl
    squares_above-none (w ∷ ws) n =
        omega (arith, squares_above-none ws n, ap length (prefixes-none (w + (digits_in ws + n))))
