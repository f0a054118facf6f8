-- From a leaf up to the top.
use Rattle.std.proofs.Common.{◌≡◌, ℕ, ◌+◌, ◌-◌, ◌*◌, ◌/◌, ◌^◌, ◌<◌, ◌≤◌, Bool, true, false, cond}
use Rattle.std.proofs.Common.{List, [], ◌∷◌, ◌++◌, length, get_or, refl, inl, inr, sym, ap, ◌∙◌, arith, Some}
use Rattle.std.proofs.Common.{append-nil, lit<}
use Rattle.std.proofs.Math.Nat.{div-add-mod, mod-lt, pow-le-pow_right}
use Rattle.std.proofs.lemmas.Nat.{pow-add}
use Rattle.std.proofs.lemmas.Bool.{cases_lt}
use Rattle.std.proofs.lemmas.Option.{slice_get-get_or, slice_get_within, get_or_from_slice_get}
use Rattle.std.specs.Prelude.{slice_get}
use Rattle.packed_bits.specs.Bits.{ones_of}
use Rattle.bit_rank.specs.Bits.{rank_of, IsSelected}
use Rattle.bit_rank.proofs.RankLemmas.{ones_of-append, ones_of-nil, ones_of-le-length, rank_of-step, rank_of-le-ones_of}
use Rattle.bit_rank.proofs.RankLemmas.{same_from_IsSelected}
use Rattle.track_types.specs.declared.limit.TheConstants.{MAX_HEIGHT, MAX_TREE}
use Rattle.k2_tree.specs.Widths.{widths_of, digits_in, fan_of, widths_under}
use Rattle.k2_tree.specs.TreeBits.{prefixes, code_limit, morton_bits}
use Rattle.k2_tree.specs.Groups.{upper_squares, group_start, square_at, digit_at, square_width}
use Rattle.k2_tree.specs.Tree.{codes_in, AreTreeBits}
use Rattle.k2_tree.proofs.PrefixLemmas.{prefixes-zero, fan_pos}
use Rattle.k2_tree.specs.Building.{levels_bits}
use Rattle.k2_tree.proofs.LevelLemmas.{morton_bits-parted, ones_of-levels_bits}
use Rattle.k2_tree.proofs.WidthLemmas.{digits_in-widths_of, digits_in-widths_under, widths_under-none}
use Rattle.k2_tree.proofs.ToldLemmas.{codes_in-none}
use Rattle.k2_tree.proofs.GroupLemmas.{back_square, back_digit}
use Rattle.k2_tree.proofs.OnLemmas.{IsOn, IsUnder, under}
use Rattle.k2_tree.proofs.WayLemmas.{inner, top_from_bits}

-- on the way up: the square that is reached, and the digits that were left behind
pub record IsClimb (height wide : ℕ) (bits : List Bool) (leaf level square code : ℕ) : Type 0 where
  pub prefix : ℕ
  pub within : level ≤ height
  pub here : IsOn height wide (codes_in (widths_of height wide) bits) level prefix square
  pub digits : prefix * 4 ^ level + code ≡ get_or (codes_in (widths_of height wide) bits) leaf 0

-- a digit more was left behind
pub record IsHigher (height wide : ℕ) (bits : List Bool) (leaf level code upper place : ℕ) : Type 0 where
  pub small : code + digit_at upper place * 4 ^ level < code_limit
  pub climb : IsClimb height wide bits leaf (level + square_width upper (square_at upper place)) (square_at upper place)
      (code + digit_at upper place * 4 ^ level)

-- the number's digits, those of one level more left behind
digits_more : (p k a d q code whole : ℕ) → k * a + d ≡ q → q * p + code ≡ whole
    → (a * (p * k) + (code + d * p) ≡ whole) × (code + d * p ≤ whole)
digits_more p k a d q code whole parted is =
    let spread : (k * a + d) * p ≡ a * (p * k) + d * p = omega arith in
    let same : q * p ≡ (k * a + d) * p = ap (λ z. z * p) (sym parted) in
    (omega arith, omega arith)

module _ {height wide : ℕ} {bits : List Bool} (are : AreTreeBits height wide bits) where
  abbrev all : List ℕ
  all = widths_of height wide

  abbrev codes : List ℕ
  codes = codes_in all bits

  abbrev upper : ℕ
  upper = upper_squares height wide codes

  -- how many numbers the bits tell
  pub length-codes_in : 0 < length bits → length codes + square_at upper (length bits) ≡ ones_of bits + 1
  unfolding morton_bits digits_in
  length-codes_in some =
      let ones = ones_of-levels_bits all 0 codes are.codes.rising in
      let digits : digits_in all + 0 ≡ height = omega (arith, digits_in-widths_of height wide are.fits) in
      let top = ap (λ n. length (prefixes n codes)) digits ∙ ap length (top_from_bits are some) in
      let exact = ap ones_of
      (are.exact ∙ ap (λ l. morton_bits l codes) (sym (append-nil all)) ∙ morton_bits-parted all [] codes)
      ∙ ones_of-append (levels_bits all 0 codes) [] in
      let cells = ap length (prefixes-zero codes are.codes.rising) in
      omega (arith, ones, top, exact, cells, inner are, ones_of-nil)

  module _ {leaf : ℕ} (within : leaf < length codes) where
    some_bits : 0 < length bits
    some_bits = elim (cases_lt 0 (length bits)) [
      | inl some ↦ some
      | inr none ↦ absurd (omega (arith, ap length (codes_in-none all bits (omega arith))))
    ]

    -- the climb begins at the leaf's square
    pub starts : (square_at upper (length bits) + leaf < 2 ^ 32)
        × IsClimb height wide bits leaf 0 (square_at upper (length bits) + leaf) 0
    unfolding digits_in
    starts =
        let count = length-codes_in some_bits in
        let low : length bits ≤ MAX_TREE = are.few in
        let none = widths_under-none (height - 2 * wide) in
        let told : prefixes 0 codes ≡ codes = prefixes-zero codes are.codes.rising in (
          omega (arith, count, ones_of-le-length bits),
          record {
            prefix = get_or codes leaf 0;
            within = omega arith;
            here = record {
              above = all;
              parted = ap (λ l. all ++ l) none ∙ append-nil all;
              square = rw none (record {
                place = leaf;
                within = rw told within;
                stands = rw told refl;
                counted = ap (λ k. k + leaf) (inner are);
              });
            };
            digits = omega arith;
          },
        )

    module _ {level square code : ℕ} (climb : IsClimb height wide bits leaf level square code) (less : level < height)
      where
        up : IsUnder height wide codes bits upper level climb.prefix square
        up = under are climb.here less

        -- below the top each square has a one
        pub has_one : (1 ≤ square) × (square ≤ ones_of bits)
        has_one =
            let p : ℕ = group_start upper up.parent + up.digit in
            let rank : rank_of bits p + 1 ≡ square = up.selected.rank in
            let inside = slice_get_within bits p true up.selected.one in
            let on = get_or_from_slice_get bits p true false up.selected.one in
            let step = rank_of-step bits p inside ∙ ap (λ b. rank_of bits p + cond b 1 0) on in
            (omega arith, omega (arith, rank_of-le-ones_of bits (p + 1)))

        -- one level up: where the one stands tells the parent and the last digits
        pub climbs : {place : ℕ} → height ≤ MAX_HEIGHT → IsSelected bits square place
            → IsHigher height wide bits leaf level code upper place
        climbs {place} few selected =
            let u = up in
            let k : ℕ = fan_of u.width in
            let same : place ≡ group_start upper u.parent + u.digit =
            same_from_IsSelected bits square place (group_start upper u.parent + u.digit) selected u.selected in
            let less_fan : u.digit < k = omega (arith, u.digit_is, mod-lt climb.prefix (fan_pos u.width)) in
            let small : u.digit < fan_of (square_width upper u.parent) = rw u.same at less_fan in
            let parent : square_at upper place ≡ u.parent =
            ap (square_at upper) same ∙ back_square upper u.parent u.digit small in
            let digit : digit_at upper place ≡ u.digit =
            ap (digit_at upper) same ∙ back_digit upper u.parent u.digit small in
            let parted : k * (climb.prefix / k) + u.digit ≡ climb.prefix =
            ap (λ d. k * (climb.prefix / k) + d) u.digit_is ∙ div-add-mod climb.prefix k in
            let more = digits_more (4 ^ level) k (climb.prefix / k) u.digit climb.prefix code (get_or codes leaf 0) parted
            climb.digits in
            let low : get_or codes leaf 0 < 4 ^ height = are.codes.small leaf 0 within in
            let most : 4 ^ height ≤ 4 ^ MAX_HEIGHT = pow-le-pow_right {n = 4} (lit< tt) few in
            let power : 4 ^ (level + u.width) ≡ 4 ^ level * k = pow-add 4 level u.width in
            let next : IsClimb height wide bits leaf (level + u.width) u.parent (code + u.digit * 4 ^ level) =
            record {
              prefix = climb.prefix / k;
              within = u.fits;
              here = u.on;
              digits = ap (λ p. climb.prefix / k * p + (code + u.digit * 4 ^ level)) power ∙ more.0;
            } in
            record {
              small = rw digit (omega (arith, more.1));
              climb = rw (parent, digit, ← u.same) next;
            }

    -- at the top all digits are left behind
    pub arrives_at_top : {level square code : ℕ} → IsClimb height wide bits leaf level square code → level ≡ height
        → slice_get codes leaf ≡ Some code
    arrives_at_top {level} {square} {code} climb end =
        let here : IsOn height wide codes height climb.prefix square = rw end at climb.here in
        let ps : List ℕ = prefixes (digits_in (widths_under (height - 2 * wide) height)) codes in
        let one : ps ≡ 0 ∷ [] =
        ap (λ n. prefixes n codes) (digits_in-widths_under (height - 2 * wide) height) ∙ top_from_bits are some_bits in
        let first : here.square.place ≡ 0 = omega (arith, here.square.within, ap length one) in
        let none : climb.prefix ≡ 0 =
        sym here.square.stands ∙ ap (λ xs. get_or xs here.square.place 0) one ∙ ap (λ i. get_or (0 ∷ []) i 0) first in
        let gone : climb.prefix * 4 ^ level ≡ 0 = ap (λ z. z * 4 ^ level) none ∙ omega arith in
        slice_get-get_or codes leaf 0 within ∙ ap Some (omega (arith, climb.digits, gone))
