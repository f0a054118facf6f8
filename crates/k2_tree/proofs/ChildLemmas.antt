-- The children of a square: where their bits stand, and what these tell.
use Rattle.std.proofs.Common.{◌≡◌, ℕ, suc, ◌+◌, ◌*◌, ◌<◌, ◌≤◌, Bool, true, false, List, [], ◌∷◌, ◌++◌, length}
use Rattle.std.proofs.Common.{filter, get_or, ap, ◌∙◌, arith, length-append}
use Rattle.std.proofs.lemmas.List.{get_or-append-add, get_or_append_left, get_or-map}
use Rattle.std.proofs.Math.Nat.{mul-le-mul_left}
use Rattle.list_laws.proofs.PieceLemmas.{get_or-filter}
use Rattle.packed_bits.specs.Bits.{ones_of}
use Rattle.bit_rank.specs.Bits.{rank_of}
use Rattle.bit_rank.proofs.RankLemmas.{rank_of-append, rank_of-append_left, rank_of-map}
use Rattle.k2_tree.specs.Widths.{digits_in, fan_of}
use Rattle.k2_tree.specs.TreeBits.{is_in, prefixes, Rises, level_bits, children_of_prefixes, morton_bits, AreCodes}
use Rattle.k2_tree.specs.Squares.{bits_above, IsSquare}
use Rattle.k2_tree.proofs.PrefixLemmas.{prefixes-top, prefixes-none}
use Rattle.k2_tree.proofs.LongerLemmas.{length-children_of_prefixes, get_or-children_of_prefixes, prefixes-from_longer}
use Rattle.k2_tree.specs.Building.{levels_bits}
use Rattle.k2_tree.proofs.LevelLemmas.{digits_in-append, morton_bits-parted, length-level_bits}
use Rattle.k2_tree.proofs.LevelLemmas.{length-levels_bits, ones_of-levels_bits, squares_above-snoc}

-- where a square is, the top has one
pub one_top : (digits : ℕ) (codes : List ℕ) → AreCodes digits codes → (n : ℕ) → 0 < length (prefixes n codes)
    → prefixes digits codes ≡ 0 ∷ []
one_top digits [] are n some = absurd (omega (arith, ap length (prefixes-none n)))
one_top digits (c ∷ cs) are n some = prefixes-top digits c cs are.small

-- the bit of a square for a digit, in the level below it
module _ (w n i d : ℕ) (codes : List ℕ) (within : i < length (prefixes (w + n) codes)) (small : d < fan_of w) where
  abbrev long : List ℕ
  long = children_of_prefixes (fan_of w) (prefixes (w + n) codes)

  abbrev test : ℕ → Bool
  test = is_in (prefixes n codes)

  abbrev child : ℕ
  child = fan_of w * get_or (prefixes (w + n) codes) i 0 + d

  inside : fan_of w * i + d < length long
  inside =
      let most : fan_of w * suc i ≤ fan_of w * length (prefixes (w + n) codes) = mul-le-mul_left (fan_of w) within in
      omega (arith, most, small, length-children_of_prefixes (fan_of w) (prefixes (w + n) codes))

  stands : get_or long (fan_of w * i + d) 0 ≡ child
  stands = get_or-children_of_prefixes (fan_of w) (prefixes (w + n) codes) i d within small

  -- it tells whether that child is there
  level_bit : get_or (level_bits w n codes) (fan_of w * i + d) false ≡ test child
  unfolding level_bits
  level_bit = get_or-map test long (fan_of w * i + d) 0 false inside ∙ ap test stands

  -- its rank in the level is that child's place
  level_rank : Rises 0 codes → test child ≡ true
      → (rank_of (level_bits w n codes) (fan_of w * i + d) < length (prefixes n codes))
      × (get_or (prefixes n codes) (rank_of (level_bits w n codes) (fan_of w * i + d)) 0 ≡ child)
  unfolding level_bits
  level_rank up there =
      let both = get_or-filter test long (fan_of w * i + d) 0 inside (ap test stands ∙ there) in
      let whole : filter test long ≡ prefixes n codes = prefixes-from_longer w n codes up in
      rw (rank_of-map test long (fan_of w * i + d)) ((rw whole at both.0), (rw whole at both.1) ∙ stands)

-- a child of a square, by its digit
module _ {above ws codes : List ℕ} {w p j : ℕ} {bits : List Bool}
    (are : AreCodes (digits_in (above ++ w ∷ ws)) codes) (exact : bits ≡ morton_bits (above ++ w ∷ ws) codes)
    (square : IsSquare above (w ∷ ws) codes p j) (d : ℕ) (small : d < fan_of w) where
  -- how many digits are below the child
  abbrev n : ℕ
  n = digits_in ws

  -- where the square's group starts
  abbrev start : ℕ
  start = bits_above above (w + n) codes + fan_of w * square.place

  -- the levels above the children, and the others
  abbrev upper : List Bool
  upper = levels_bits above (w + n) codes

  abbrev lower : List Bool
  lower = level_bits w n codes ++ morton_bits ws codes

  within : square.place < length (prefixes (w + n) codes)
  unfolding digits_in
  within = square.within

  there_stands : get_or (prefixes (w + n) codes) square.place 0 ≡ p
  unfolding digits_in
  there_stands = square.stands

  around : bits ≡ upper ++ lower
  unfolding morton_bits digits_in
  around = exact ∙ morton_bits-parted above (w ∷ ws) codes

  -- seen from the beginning of their level
  from_level : start + d ≡ length upper + (fan_of w * square.place + d)
  from_level = omega (arith, length-levels_bits above (w + n) codes)

  in_level : fan_of w * square.place + d < length (level_bits w n codes)
  in_level =
      let most : fan_of w * suc square.place ≤ fan_of w * length (prefixes (w + n) codes) =
      mul-le-mul_left (fan_of w) within in
      omega (arith, most, length-level_bits w n codes, small)

  -- the bits of a square's children are in the tree
  pub child_place : start + d < length bits
  child_place =
      let parts = ap length around ∙ length-append upper lower in
      omega (arith, parts, length-append (level_bits w n codes) (morton_bits ws codes), from_level, in_level)

  -- the bit tells whether the square has the child d
  pub child_bit : get_or bits (start + d) false ≡ is_in (prefixes n codes) (fan_of w * p + d)
  child_bit =
      ap (λ xs. get_or xs (start + d) false) around ∙ ap (λ q. get_or (upper ++ lower) q false) from_level
      ∙ get_or-append-add upper lower (fan_of w * square.place + d) false
      ∙ get_or_append_left (level_bits w n codes) (morton_bits ws codes) false (fan_of w * square.place + d) in_level
      ∙ level_bit w n square.place d codes within small
      ∙ ap (λ z. is_in (prefixes n codes) (fan_of w * z + d)) there_stands

  -- the child's number is one more than the ones before its bit
  pub child_square : is_in (prefixes n codes) (fan_of w * p + d) ≡ true
      → IsSquare (above ++ w ∷ []) ws codes (fan_of w * p + d) (rank_of bits (start + d) + 1)
  unfolding digits_in
  child_square there =
      let rank : rank_of bits (start + d)
      ≡ ones_of upper + rank_of (level_bits w n codes) (fan_of w * square.place + d) =
      ap (λ xs. rank_of xs (start + d)) around ∙ ap (rank_of (upper ++ lower)) from_level
      ∙ rank_of-append upper lower (fan_of w * square.place + d)
      ∙ ap (λ r. ones_of upper + r)
      (rank_of-append_left (level_bits w n codes) (morton_bits ws codes) (fan_of w * square.place + d)
      (omega (arith, in_level))) in
      let level = level_rank w n square.place d codes within small are.rising
      (ap (λ z. is_in (prefixes n codes) (fan_of w * z + d)) there_stands ∙ there) in
      let top = ap length (one_top (digits_in (above ++ w ∷ ws)) codes are (w + n) (omega (arith, within))) in
      let ones = ones_of-levels_bits above (w + n) codes are.rising in
      let whole = ap (λ m. length (prefixes m codes)) (digits_in-append above (w ∷ ws)) in
      record {
        place = rank_of (level_bits w n codes) (fan_of w * square.place + d);
        within = level.0;
        stands = level.1 ∙ ap (λ z. fan_of w * z + d) there_stands;
        counted = omega (arith, rank, top, ones, whole, squares_above-snoc above w n codes);
      }
