-- The squares of a level and their children, one level after another.
use Rattle.std.proofs.Common.{◌≡◌, ℕ, suc, ◌+◌, ◌-◌, ◌*◌, ◌/◌, ◌%◌, ◌^◌, ◌<◌, ◌≤◌, ◌==◌, Bool, false, All, List, [], ◌∷◌, ◌++◌, length, map, filter, get_or, take, refl, sym, ap, subst, ◌∙◌, arith, inl, inr}
use Rattle.std.specs.Int.{bit_at}
use Rattle.std.specs.List.{flat_map}
use Rattle.std.proofs.lemmas.Bool.{cases_lt}
use Rattle.std.proofs.lemmas.List.{append_assoc, get_or-map, map-id, map-append, take_all, take_more, append-nil, length-append, length-map}
use Rattle.std.proofs.lemmas.List.Concat.{flat_map-append}
use Rattle.std.proofs.lemmas.List.Elements.{All-map}
use Rattle.std.proofs.lemmas.List.Filters.{All-dedup}
use Rattle.std.proofs.Math.Nat.{div-le_self, pow-le-pow_right}
use Rattle.std.proofs.lemmas.Simd.{map-map}
use Rattle.bit_rank.specs.Cost.{window_reads}
use Rattle.packed_bits.specs.Bits.{window_of}
use Rattle.track_types.specs.declared.cell.Cell.{Cell}
use Rattle.track_types.specs.declared.limit.TheConstants.{MAX_HEIGHT}
use Rattle.k2_tree.specs.Digits.{digits_of}
use Rattle.k2_tree.specs.Listing.{child_spot, quarter_of, spot_cell, spot_code, spot_of, IsLevelOf}
use Rattle.k2_tree.specs.Morton.{cell_of, morton_column, morton_row}
use Rattle.k2_tree.specs.Pruning.{child_prefixes}
use Rattle.k2_tree.specs.Squares.{bits_above, node, squares_above, squares_from, IsSquare}
use Rattle.k2_tree.specs.Tree.{codes_in, codes_of, tree_of, AreTreeBits}
use Rattle.k2_tree.specs.TreeSquares.{squares_of}
use Rattle.k2_tree.specs.TreeBits.{is_in, morton_bits, prefixes, AreCodes}
use Rattle.k2_tree.specs.Widths.{digits_in, fan_of, width_below, widths_of, widths_under}
use Rattle.k2_tree.specs.declared.listing.Spot.{Spot}
use Rattle.k2_tree.proofs.CellLemmas.{codes_back}
use Rattle.k2_tree.proofs.ChildLemmas.{child_bit, child_place}
use Rattle.k2_tree.proofs.LevelLemmas.{digits_in-append}
use Rattle.k2_tree.proofs.MortonLemmas.{morton_column-lt, morton_row-lt}
use Rattle.k2_tree.proofs.PrefixLemmas.{fan_pos, prefixes-zero}
use Rattle.k2_tree.proofs.PruningLemmas.{child_prefixes-flat}
use Rattle.k2_tree.proofs.StoredLemmas.{bit_of_window, children_of_prefixes-one, kept_alike}
use Rattle.k2_tree.proofs.WayLemmas.{top_from_bits}
use Rattle.k2_tree.proofs.WidthLemmas.{digits_in-widths_of, digits_in-widths_under, widths_under-opened, widths_under-top, width_below-within}

-- a child by a narrow level
pub child-narrow : (width : ℕ) (spot : Spot) (digit : ℕ) → width ≡ 1 → child_spot width spot digit ≡ quarter_of spot digit
unfolding child_spot
child-narrow width spot digit one = rw one refl

-- a child by a wide level
pub child-wide : (width : ℕ) (spot : Spot) (digit : ℕ) → width ≡ 2
    → child_spot width spot digit ≡ quarter_of (quarter_of spot (digit / 4)) (digit % 4)
unfolding child_spot
child-wide width spot digit two = rw two refl

-- a quarter of a square has one digit more
quarter-more : (k q d : ℕ) → d < 4 → quarter_of (spot_of k q) d ≡ spot_of (suc k) (4 * q + d)
unfolding morton_column morton_row
quarter-more k q d small =
    let up : (4 * q + d) / 4 ≡ q = omega arith in
    let rest : (4 * q + d) % 4 ≡ d = omega arith in
    rw (up, rest) refl

-- the child of a square has as many digits more as its level takes
pub child-more : (w k q d : ℕ) → 1 ≤ w → w ≤ 2 → d < fan_of w → child_spot w (spot_of k q) d ≡ spot_of (k + w) (fan_of w * q + d)
child-more w k q d some narrow small = elim (cases_lt w 2) [
  | inl one ↦
      let is : w ≡ 1 = omega arith in
      let next : k + 1 ≡ suc k = omega arith in
      rw is (child-narrow 1 (spot_of k q) d refl ∙ quarter-more k q d (rw is at small)
      ∙ ap (λ n. spot_of n (4 * q + d)) (sym next))
  | inr two ↦
      let is : w ≡ 2 = omega arith in
      let below : d < 16 = rw is at small in
      let next : k + 2 ≡ suc (suc k) = omega arith in
      let code : 4 * (4 * q + d / 4) + d % 4 ≡ 16 * q + d = omega arith in
      rw is (child-wide 2 (spot_of k q) d refl ∙ ap (λ s. quarter_of s (d % 4)) (quarter-more k q (d / 4) (omega arith))
      ∙ quarter-more (suc k) (4 * q + d / 4) (d % 4) (omega arith)
      ∙ ap (λ c. spot_of (suc (suc k)) c) code ∙ ap (λ n. spot_of n (16 * q + d)) (sym next))
]

-- prefixes are no greater than the numbers
pub prefixes-small : (n limit : ℕ) (codes : List ℕ) → All (λ code. code < limit) codes
    → All (λ prefix. prefix < limit) (prefixes n codes)
unfolding prefixes
prefixes-small n limit codes small =
    All-dedup (λ a b. a == b) (λ prefix. prefix < limit) (map (λ code. code / 4 ^ n) codes)
    (All-map (λ prefix. prefix < limit) (λ code. code / 4 ^ n) codes
    (λ i d within. omega (arith, small i d within, div-le_self (get_or codes i d) (4 ^ n))))

-- the bits of one level more
bits_above-snoc : (above : List ℕ) (w n : ℕ) (codes : List ℕ)
    → bits_above (above ++ w ∷ []) n codes ≡ bits_above above (w + n) codes + fan_of w * length (prefixes (w + n) codes)
unfolding bits_above digits_in
bits_above-snoc [] w n codes =
    let e : w + (0 + n) ≡ w + n = omega arith in omega (arith, ap (λ m. fan_of w * length (prefixes m codes)) e)
bits_above-snoc (x ∷ xs) w n codes =
    let e : x + (digits_in (xs ++ w ∷ []) + n) ≡ x + (digits_in xs + (w + n)) =
    omega (arith, digits_in-append xs (w ∷ [])) in
    omega (arith, bits_above-snoc xs w n codes, ap (λ m. fan_of x * length (prefixes m codes)) e)

-- no level has more squares above it than there are
pub squares_above-few : (widths codes : List ℕ) → squares_above widths 0 codes ≤ length (squares_from widths codes)
unfolding squares_above squares_from
squares_above-few [] codes = omega arith
squares_above-few (w ∷ ws) codes =
    let same : w + (digits_in ws + 0) ≡ w + digits_in ws = omega arith in
    omega (
      arith,
      squares_above-few ws codes,
      ap (λ m. length (prefixes m codes)) same,
      length-append (map (node (w + digits_in ws)) (prefixes (w + digits_in ws) codes)) (squares_from ws codes),
      length-map (prefixes (w + digits_in ws) codes) (node (w + digits_in ws)),
    )

-- the width of the level below one
abbrev pub width_of : ℕ → ℕ → ℕ → ℕ
width_of height wide below = width_below (height - 2 * wide) below

-- the children of a level's first squares
abbrev pub spots_told : ℕ → ℕ → List Bool → ℕ → ℕ → List Spot
spots_told height wide bits below count =
    map (spot_of (height - below + width_of height wide below))
    (flat_map (child_prefixes (width_of height wide below) (below - width_of height wide below)
    (codes_in (widths_of height wide) bits)) (take count (prefixes below (codes_in (widths_of height wide) bits))))

-- a level of a tree that is not the lowest
module _ {height wide : ℕ} {bits : List Bool} (are : AreTreeBits height wide bits) {spots : List Spot} {start below : ℕ}
    (is : IsLevelOf height wide bits spots start below) (inner : 0 < below) where
  abbrev low : ℕ
  low = height - 2 * wide

  abbrev codes : List ℕ
  codes = codes_in (widths_of height wide) bits

  abbrev w : ℕ
  w = width_below low below

  abbrev n : ℕ
  n = below - w

  abbrev ws : List ℕ
  ws = widths_under low n

  width : (1 ≤ w) × (w ≤ below) × (w ≤ 2)
  width = width_below-within low below inner

  digits : w + digits_in ws ≡ below
  digits = omega (arith, digits_in-widths_under low n, width.1)

  around : is.above ++ w ∷ ws ≡ widths_of height wide
  around = ap (λ l. is.above ++ l) (sym (widths_under-opened low below inner)) ∙ is.parted

  -- one of its squares
  square : (i : ℕ) → i < length (prefixes below codes)
      → IsSquare is.above (w ∷ ws) codes (get_or (prefixes below codes) i 0)
      (squares_above is.above (w + digits_in ws) codes + i)
  unfolding digits_in
  square i within = record {
    place = i;
    within = rw digits within;
    stands = ap (λ m. get_or (prefixes m codes) i 0) digits;
    counted = refl;
  }

  module _ (i : ℕ) (within : i < length (prefixes below codes)) where
    abbrev q : ℕ
    q = get_or (prefixes below codes) i 0

    abbrev from : ℕ
    from = start + fan_of w * i

    group : from ≡ bits_above is.above (w + digits_in ws) codes + fan_of w * i
    group = ap (λ s. s + fan_of w * i) (is.begins ∙ ap (λ m. bits_above is.above m codes) (sym digits))

    are_codes : AreCodes (digits_in (is.above ++ w ∷ ws)) codes
    are_codes = subst (λ ws. AreCodes (digits_in ws) codes) (sym around)
        (subst (λ h. AreCodes h codes) (sym (digits_in-widths_of height wide are.fits)) are.codes)

    exact : bits ≡ morton_bits (is.above ++ w ∷ ws) codes
    exact = are.exact ∙ ap (λ ws. morton_bits ws codes) (sym around)

    module _ (d : ℕ) (small : d < fan_of w) where
      child_within : from + d < length bits
      unfolding square
      child_within = rw group (child_place are_codes exact (square i within) d small)

      child_told : get_or bits (from + d) false ≡ is_in (prefixes n codes) (fan_of w * q + d)
      unfolding square
      child_told =
          let same = digits_in-widths_under low n in
          ap (λ p. get_or bits (p + d) false) group ∙ child_bit are_codes exact (square i within) d small
          ∙ ap (λ m. is_in (prefixes m codes) (fan_of w * q + d)) same

      window_told : (bit_at (window_of bits from (fan_of w)) d == 1) ≡ get_or bits (from + d) false
      window_told = bit_of_window bits from d (fan_of w) small child_within

    -- the bits of its children are in the tree
    pub group_within : from + fan_of w ≤ length bits
    group_within = omega (arith, child_within (fan_of w - 1) (omega (arith, fan_pos w)), fan_pos w)

    -- they tell which children hold a cell
    pub group_spots : map (child_spot w (spot_of (height - below) q)) (digits_of (fan_of w) (window_of bits from (fan_of w)))
        ≡ map (spot_of (height - below + w)) (child_prefixes w n codes q)
    unfolding digits_of child_prefixes
    group_spots =
        kept_alike (λ d. fan_of w * q + d) (child_spot w (spot_of (height - below) q)) (spot_of (height - below + w))
        (λ d. bit_at (window_of bits from (fan_of w)) d == 1) (is_in (prefixes n codes)) (fan_of w) 0
        (λ d lowest high.
        let small : d < fan_of w = omega (arith, high) in
        (window_told d small ∙ child_told d small, child-more w (height - below) q d width.0 width.2 small))
        ∙ ap (λ xs. map (spot_of (height - below + w)) (filter (is_in (prefixes n codes)) xs))
        (sym (children_of_prefixes-one (fan_of w) q))

  -- as many squares as prefixes
  pub length-spots : length spots ≡ length (prefixes below codes)
  length-spots = ap length is.spots_are ∙ length-map (prefixes below codes) (spot_of (height - below))

  -- a square by its prefix
  pub spot-at : (i : ℕ) (d : Spot) → i < length spots → get_or spots i d ≡ spot_of (height - below) (get_or (prefixes below codes) i 0)
  spot-at i d within =
      ap (λ xs. get_or xs i d) is.spots_are
      ∙ get_or-map (spot_of (height - below)) (prefixes below codes) i 0 d (omega (arith, length-spots))

  -- the children of one square more
  pub told-more : (i : ℕ) (d : Spot) → i < length spots
      → spots_told height wide bits below i ++ map (child_spot w (get_or spots i d))
      (digits_of (fan_of w) (window_of bits (start + fan_of w * i) (fan_of w)))
      ≡ spots_told height wide bits below (i + 1)
  told-more i d within =
      let inside : i < length (prefixes below codes) = omega (arith, length-spots) in
      let f : ℕ → List ℕ = child_prefixes w n codes in
      let k : ℕ = height - below + w in
      let before : List ℕ = take i (prefixes below codes) in
      let own : ℕ = get_or (prefixes below codes) i 0 in
      ap (λ s. map (spot_of k) (flat_map f before) ++ map (child_spot w s)
      (digits_of (fan_of w) (window_of bits (start + fan_of w * i) (fan_of w)))) (spot-at i d within)
      ∙ ap (λ back. map (spot_of k) (flat_map f before) ++ back) (group_spots i inside)
      ∙ sym (map-append (spot_of k) (flat_map f before) (f own))
      ∙ ap (λ back. map (spot_of k) (flat_map f before ++ back)) (sym (append-nil (f own)))
      ∙ ap (map (spot_of k)) (sym (flat_map-append f before (own ∷ [])))
      ∙ ap (λ xs. map (spot_of k) (flat_map f xs)) (sym (take_more (prefixes below codes) i 0 inside))

  -- the level below
  pub level_below : (spots' : List Spot) (start' : ℕ)
      → spots' ≡ spots_told height wide bits below (length spots) → start' ≡ start + fan_of w * length spots
      → IsLevelOf height wide bits spots' start' n
  level_below spots' start' spots_are' begins' = record {
    above = is.above ++ w ∷ [];
    high = omega (arith, is.high);
    parted = append_assoc is.above (w ∷ []) ws ∙ around;
    spots_are =
        let more : height - below + w ≡ height - n = omega (arith, is.high, width.1) in
        let all : w + n ≡ below = omega (arith, width.1) in
        spots_are'
        ∙ ap (λ xs. map (spot_of (height - below + w)) (flat_map (child_prefixes w n codes) xs))
        (take_all (length spots) (prefixes below codes) (omega (arith, length-spots)))
        ∙ ap (λ m. map (spot_of (height - below + w)) (flat_map (child_prefixes w n codes) (prefixes m codes))) (sym all)
        ∙ ap (map (spot_of (height - below + w))) (child_prefixes-flat w n codes are.codes.rising)
        ∙ ap (λ k. map (spot_of k) (prefixes n codes)) more;
    begins =
        let all : w + n ≡ below = omega (arith, width.1) in
        omega (
          arith,
          begins',
          ap (λ m. fan_of w * m) length-spots,
          is.begins,
          bits_above-snoc is.above w n codes,
          ap (λ m. bits_above is.above m codes) all,
          ap (λ m. fan_of w * length (prefixes m codes)) all,
        );
  }

  -- how many squares are on this level and on those between it and the cells
  pub squares-below : squares_above (widths_under low below) 0 codes
      ≡ length (prefixes below codes) + squares_above ws 0 codes
  unfolding squares_above
  squares-below =
      let all : w + (digits_in ws + 0) ≡ below = omega (arith, digits) in
      ap (λ l. squares_above l 0 codes) (widths_under-opened low below inner)
      ∙ ap (λ m. length (prefixes m codes) + squares_above ws 0 codes) all

  -- its squares are small
  pub spot-small : (i : ℕ) (d : Spot) → i < length spots → height ≤ MAX_HEIGHT
      → ((get_or spots i d).code < 2 ^ 58) × ((get_or spots i d).column < 2 ^ 29) × ((get_or spots i d).row < 2 ^ 29)
  spot-small i d within limit =
      let k : ℕ = height - below in
      let p : ℕ = get_or (prefixes below codes) i 0 in
      let few : 4 ^ height ≤ 4 ^ MAX_HEIGHT = pow-le-pow_right (omega arith) limit in
      let shallow : k ≤ MAX_HEIGHT = omega (arith, limit) in
      let low_side : 2 ^ k ≤ 2 ^ MAX_HEIGHT = pow-le-pow_right (omega arith) shallow in
      let small : p < 4 ^ height = prefixes-small below (4 ^ height) codes are.codes.small i 0 (omega (arith, length-spots)) in
      rw (spot-at i d within) (
        omega (arith, small, few),
        omega (arith, morton_column-lt k p, low_side),
        omega (arith, morton_row-lt k p, low_side),
      )

module _ {height wide : ℕ} {bits : List Bool} (are : AreTreeBits height wide bits) where
  -- the square of the whole grid
  pub level-top : (spots : List Spot) → spots ≡ record { code = 0; column = 0; row = 0 } ∷ [] → 0 < length bits
      → IsLevelOf height wide bits spots 0 height
  unfolding morton_column morton_row bits_above
  level-top spots one some =
      let none : height - height ≡ 0 = omega arith in
      record {
        above = [];
        high = omega arith;
        parted = widths_under-top height wide are.fits;
        spots_are = one ∙ ap (λ k. spot_of k 0 ∷ []) (sym none)
            ∙ ap (map (spot_of (height - height))) (sym (top_from_bits are some));
        begins = refl;
      }

  -- the squares above the cells are those of all levels
  pub squares-top : squares_above (widths_under (height - 2 * wide) height) 0 (codes_in (widths_of height wide) bits)
      ≡ squares_above (widths_of height wide) 0 (codes_in (widths_of height wide) bits)
  squares-top = ap (λ l. squares_above l 0 (codes_in (widths_of height wide) bits)) (widths_under-top height wide are.fits)

  -- the cells
  pub level-lowest : (spots : List Spot) (start below : ℕ) → IsLevelOf height wide bits spots start below → below ≡ 0
      → spots ≡ map (spot_of height) (codes_in (widths_of height wide) bits)
  level-lowest spots start below is none =
      let codes : List ℕ = codes_in (widths_of height wide) bits in
      let all : height - 0 ≡ height = omega arith in
      is.spots_are ∙ ap (λ n. map (spot_of (height - n)) (prefixes n codes)) none
      ∙ ap (λ k. map (spot_of k) (prefixes 0 codes)) all ∙ ap (map (spot_of height)) (prefixes-zero codes are.codes.rising)

  -- so many squares are no cells
  pub listing-reads : (base : Cell) (steps before : ℕ)
      → steps ≤ before + window_reads * squares_above (widths_of height wide) 0 (codes_in (widths_of height wide) bits)
      → steps ≤ before + window_reads * length (squares_of (tree_of height wide base bits))
  listing-reads base steps before reads =
      let codes : List ℕ = codes_in (widths_of height wide) bits in
      let back : codes_of (tree_of height wide base bits) ≡ codes = codes_back height base codes are.codes.small in
      omega (
        arith,
        reads,
        squares_above-few (widths_of height wide) codes,
        ap (λ cs. length (squares_from (widths_of height wide) cs)) back,
      )

  -- their codes and their cells are those of the tree
  pub spots-codes : (base : Cell) (spots : List Spot) → spots ≡ map (spot_of height) (codes_in (widths_of height wide) bits)
      → map spot_code spots ≡ codes_of (tree_of height wide base bits)
  spots-codes base spots are_spots =
      let codes : List ℕ = codes_in (widths_of height wide) bits in
      ap (map spot_code) are_spots ∙ map-map spot_code (spot_of height) codes
      ∙ map-id codes ∙ sym (codes_back height base codes are.codes.small)

  pub spots-cells : (base : Cell) (spots : List Spot) → spots ≡ map (spot_of height) (codes_in (widths_of height wide) bits)
      → map (spot_cell base) spots ≡ (tree_of height wide base bits).cells
  unfolding cell_of
  spots-cells base spots are_spots =
      ap (map (spot_cell base)) are_spots
      ∙ map-map (spot_cell base) (spot_of height) (codes_in (widths_of height wide) bits)
