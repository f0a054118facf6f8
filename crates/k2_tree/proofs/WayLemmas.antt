-- Ways through a tree: from the top down to the leaf of a Morton number, and from a leaf up to the top.
use Rattle.std.proofs.Common.{◌≡◌, ℕ, ◌+◌, ◌-◌, ◌*◌, ◌/◌, ◌%◌, ◌^◌, ◌<◌, ◌≤◌, Bool, true, false}
use Rattle.std.proofs.Common.{List, [], ◌∷◌, ◌++◌, length, get_or, refl, sym, ap, ◌∙◌, arith, subst, Some}
use Rattle.std.proofs.Common.{length-append, append-nil}
use Rattle.std.proofs.Math.Nat.{div-one, div-eq_of_lt, div-add-mod, mod-lt}
use Rattle.std.proofs.lemmas.Bool.{le-ltb}
use Rattle.std.proofs.lemmas.Option.{slice_get-get_or}
use Rattle.std.specs.Prelude.{slice_get}
use Rattle.bit_rank.specs.Bits.{rank_of}
use Rattle.k2_tree.specs.Widths.{levels_with, widths_of, digits_in, fan_of, width_below}
use Rattle.k2_tree.specs.TreeBits.{is_in, prefixes, morton_bits, AreCodes}
use Rattle.k2_tree.specs.Squares.{squares_above, bits_above, IsSquare}
use Rattle.k2_tree.specs.Groups.{upper_squares, group_start, square_at}
use Rattle.k2_tree.specs.Tree.{codes_in, AreTreeBits}
use Rattle.k2_tree.proofs.PrefixLemmas.{prefixes-of, prefixes-zero, prefixes-top, fan_pos}
use Rattle.k2_tree.proofs.LongerLemmas.{div-pow_add}
use Rattle.k2_tree.specs.Building.{levels_bits}
use Rattle.k2_tree.proofs.LevelLemmas.{digits_in-append, morton_bits-parted, length-levels_bits, bits_above-same}
use Rattle.k2_tree.proofs.WidthLemmas.{digits_in-levels_with, digits_in-widths_under, widths_under-none}
use Rattle.k2_tree.proofs.WidthLemmas.{widths_under-top, width_below-within}
use Rattle.k2_tree.proofs.ToldLemmas.{morton_bits-none}
use Rattle.k2_tree.proofs.OnLemmas.{IsOn, IsTold, told}

-- of levels above others
above-append : (xs ys : List ℕ) (n : ℕ) (codes : List ℕ)
    → (squares_above (xs ++ ys) n codes ≡ squares_above xs (digits_in ys + n) codes + squares_above ys n codes)
    × (bits_above (xs ++ ys) n codes ≡ bits_above xs (digits_in ys + n) codes + bits_above ys n codes)
unfolding squares_above bits_above
above-append [] ys n codes = (omega arith, omega arith)
above-append (x ∷ xs) ys n codes =
    let rest = above-append xs ys n codes in
    let e : x + (digits_in (xs ++ ys) + n) ≡ x + (digits_in xs + (digits_in ys + n)) =
    omega (arith, digits_in-append xs ys) in
    let first = ap (λ k. length (prefixes k codes)) e in
    let bits = ap (λ k. fan_of x * length (prefixes k codes)) e in
    (omega (arith, rest.0, first), omega (arith, rest.1, bits))

module _ {height wide : ℕ} {bits : List Bool} (are : AreTreeBits height wide bits) where
  abbrev low : ℕ
  low = height - 2 * wide

  abbrev codes : List ℕ
  codes = codes_in (widths_of height wide) bits

  abbrev upper : ℕ
  upper = upper_squares height wide codes

  abbrev all : List ℕ
  all = widths_of height wide

  -- the bits are those of the inner squares
  parts : (length bits ≡ 16 * upper + 4 * squares_above (levels_with 1 low) 0 codes)
      × (squares_above all 0 codes ≡ upper + squares_above (levels_with 1 low) 0 codes)
  unfolding morton_bits digits_in
  parts =
      let front : List ℕ = levels_with 2 wide in
      let back : List ℕ = levels_with 1 low in
      let none = ap length are.exact ∙ ap (λ l. length (morton_bits l codes)) (sym (append-nil all))
      ∙ ap length (morton_bits-parted all [] codes) ∙ length-append (levels_bits all 0 codes) []
      ∙ ap (λ k. k + 0) (length-levels_bits all 0 codes) in
      let e : digits_in back + 0 ≡ low = omega (arith, digits_in-levels_with 1 low) in
      let same = above-append front back 0 codes in
      let up = ap (λ k. squares_above front k codes) e in
      let up' = ap (λ k. bits_above front k codes) e in (
        omega (arith, none, same.1, up', bits_above-same 2 wide low codes, bits_above-same 1 low 0 codes),
        omega (arith, same.0, up),
      )

  pub upper_few : 16 * upper ≤ length bits
  upper_few = omega (arith, parts.0)

  -- how many squares are no cells
  pub inner : square_at upper (length bits) ≡ squares_above all 0 codes
  unfolding square_at
  inner =
      let p = parts in
      let off = le-ltb (length bits) (16 * upper) (omega (arith, p.0)) in
      rw off (omega (arith, p.0, p.1))

  -- a square of the lowest level is one of the numbers, after all inner squares
  pub bottom : {q j : ℕ} → IsOn height wide codes 0 q j
      → (i : ℕ) × (i < length codes) × (get_or codes i 0 ≡ q) × (j ≡ square_at upper (length bits) + i)
  unfolding digits_in
  bottom {q} {j} on =
      let none = widths_under-none low in
      let whole : on.above ≡ all = sym (append-nil on.above) ∙ ap (λ l. on.above ++ l) (sym none) ∙ on.parted in
      let square : IsSquare all [] codes q j = rw (whole, none) at on.square in
      let told : prefixes 0 codes ≡ codes = prefixes-zero codes are.codes.rising in (
        square.place,
        (rw told at square.within),
        (rw told at square.stands),
        square.counted
            ∙ ap (λ k. k + square.place) (sym inner),
      )

  -- where there are numbers, there is a topmost square
  top_from_codes : (codes : List ℕ) → AreCodes height codes → 0 < length (morton_bits all codes) → prefixes height codes
      ≡ 0 ∷ []
  top_from_codes [] are some = absurd (omega (arith, ap length (morton_bits-none all)))
  top_from_codes (c ∷ cs) are some = prefixes-top height c cs are.small

  own_codes : AreCodes height codes
  own_codes = are.codes

  pub top_from_bits : 0 < length bits → prefixes height codes ≡ 0 ∷ []
  top_from_bits some = top_from_codes codes own_codes (omega (arith, ap length are.exact))

  -- the descent begins at the topmost square
  pub begins : (code : ℕ) → 0 < length bits → code < 4 ^ height → IsOn height wide codes height (code / 4 ^ height) 0
  unfolding squares_above
  begins code some small =
      let one = top_from_bits some in
      let digits = digits_in-widths_under low height in
      rw (div-eq_of_lt small) (record {
        above = [];
        parted = widths_under-top height wide are.fits;
        square = record {
          place = 0;
          within = rw (digits, one) (omega arith);
          stands = rw (digits, one) refl;
          counted = omega arith;
        };
      })

  -- where it ends, the leaf is the number of the square without those of the inner squares
  pub arrives : {code level square : ℕ} → level ≡ 0 → IsOn height wide codes level (code / 4 ^ level) square
      → (square_at upper (length bits) ≤ square)
      × (slice_get codes (square - square_at upper (length bits)) ≡ Some code)
  arrives {code} {level} {square} last here =
      let end = bottom (rw last at here) in
      let place : square - square_at upper (length bits) ≡ end.0 = omega (arith, end.3) in (
        omega (arith, end.3),
        ap (slice_get codes) place ∙ slice_get-get_or codes end.0 0 end.1 ∙ ap Some (end.2 ∙ div-one code),
      )

  -- on the way down, above the cells
  module _ (code : ℕ) {level square : ℕ} (some : 0 < level)
      (here : IsOn height wide codes level (code / 4 ^ level) square) where
    abbrev w : ℕ
    w = width_below low level

    abbrev n : ℕ
    n = level - w

    abbrev digit : ℕ
    digit = code / 4 ^ n % 4 ^ w

    step : IsTold height wide codes bits upper level (code / 4 ^ level) square digit
    step = told are here some digit (mod-lt (code / 4 ^ n) (fan_pos w))

    -- with the next digits
    prefix : 4 ^ w * (code / 4 ^ level) + digit ≡ code / 4 ^ n
    prefix =
        let e : w + n ≡ level = omega (arith, (width_below-within low level some).1) in
        ap (λ m. 4 ^ w * (code / 4 ^ m) + digit) (sym e) ∙ ap (λ z. 4 ^ w * z + digit) (sym (div-pow_add code n w))
        ∙ div-add-mod (code / 4 ^ n) (4 ^ w)

    -- the bit that the descent reads is in the tree
    pub reads_inside : group_start upper square + digit < length bits
    reads_inside = step.inside

    told_bit : get_or bits (group_start upper square + digit) false ≡ is_in (prefixes n codes) (code / 4 ^ n)
    told_bit = (rw (← step.width) at step.bit) ∙ ap (is_in (prefixes n codes)) prefix

    -- where the bit is 0 the number is not there
    pub ends : get_or bits (group_start upper square + digit) false ≡ false → is_in codes code ≡ false
    ends off = grind (arith, prefixes-of n codes code, sym told_bit ∙ off)

    -- where the bit is 1 the descent goes on at the child
    pub goes_on : {child : ℕ} → get_or bits (group_start upper square + digit) false ≡ true
        → child ≡ rank_of bits (group_start upper square + digit) + 1 → IsOn height wide codes n (code / 4 ^ n) child
    goes_on {child} on number =
        let there : is_in (prefixes n codes) (4 ^ w * (code / 4 ^ level) + digit) ≡ true =
        ap (is_in (prefixes n codes)) prefix ∙ sym told_bit ∙ on in
        let next : IsOn height wide codes n (4 ^ w * (code / 4 ^ level) + digit)
        (rank_of bits (group_start upper square + digit) + 1) =
        (rw (← step.width) at step.child) there in
        subst (λ q. IsOn height wide codes n q child) prefix (rw number next)
