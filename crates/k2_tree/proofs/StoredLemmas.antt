-- What a stored tree's bits tell of its squares: their children, and the leaves that they are.
use Rattle.std.proofs.Common.{◌≡◌, ℕ, zero, suc, ◌+◌, ◌-◌, ◌*◌, ◌^◌, ◌<◌, ◌≤◌, ◌==◌, Bool, true, false, cond, List, []}
use Rattle.std.proofs.Common.{◌∷◌, length, map, filter, get_or, refl, sym, ap, ◌∙◌, inl, inr, arith, subst, Some}
use Rattle.std.proofs.Common.{append-nil}
use Rattle.std.specs.Prelude.{slice_get}
use Rattle.std.specs.Int.{bit_at}
use Rattle.std.specs.List.{range_with_len}
use Rattle.std.specs.Option.{option_map}
use Rattle.std.proofs.lemmas.Bool.{cases_Bool}
use Rattle.std.proofs.lemmas.Option.{get_or_from_slice_get, slice_get-get_or, slice_get-map}
use Rattle.std.proofs.Math.Nat.{zero-div}
use Rattle.packed_bits.specs.Bits.{window_of}
use Rattle.packed_bits.proofs.NumberLemmas.{window_of-bit, window_of-inside}
use Rattle.bit_rank.specs.Bits.{rank_of}
use Rattle.bit_rank.proofs.RankLemmas.{rank_of-step}
use Rattle.track_types.specs.declared.cell.Cell.{Cell}
use Rattle.track_types.specs.declared.limit.TheConstants.{MAX_HEIGHT}
use Rattle.k2_tree.specs.Morton.{cell_of, morton_column, morton_row}
use Rattle.k2_tree.specs.Widths.{widths_of, fan_of}
use Rattle.k2_tree.specs.TreeBits.{is_in, prefixes, children_of_prefixes}
use Rattle.k2_tree.specs.Squares.{Node, node}
use Rattle.k2_tree.specs.Groups.{group_start, square_at, square_width}
use Rattle.k2_tree.specs.Tree.{codes_in, Tree, codes_of, tree_of, IsStoredTree}
use Rattle.k2_tree.specs.TreeSquares.{squares_of, holds_cell, node_width, child_at, least_cell_of, level_of, node_of}
use Rattle.k2_tree.specs.TreeSquares.{prefix_of, square_number, IsSquareOf}
use Rattle.k2_tree.specs.Digits.{digits_of}
use Rattle.k2_tree.specs.PendingChildren.{StandsAt}
use Rattle.k2_tree.specs.Pruning.{child_prefixes, child_nodes}
use Rattle.k2_tree.proofs.MortonLemmas.{highest}
use Rattle.k2_tree.proofs.CellLemmas.{codes_back}
use Rattle.k2_tree.proofs.PrefixLemmas.{fan_pos}
use Rattle.k2_tree.proofs.SquareLemmas.{IsOn-from_list, list-from_IsOn}
use Rattle.k2_tree.proofs.OnLemmas.{IsOn, IsTold, told}
use Rattle.k2_tree.proofs.WayLemmas.{begins, bottom}
use Rattle.k2_tree.specs.declared.square.Square.{Square}

-- the least cell of a square that is a cell is that cell
pub corner_is : (height : ℕ) {base : Cell} (s : Square) → level_of s ≡ 0 → s.base ≡ base → height ≤ MAX_HEIGHT
    → prefix_of s < 4 ^ height → least_cell_of s ≡ cell_of height base (prefix_of s)
unfolding cell_of
corner_is height s end same low small =
    let ends = highest height (prefix_of s) low small in
    let column : morton_column MAX_HEIGHT (prefix_of s) * 1 ≡ morton_column height (prefix_of s) = omega (arith, ends.1) in
    let row : morton_row MAX_HEIGHT (prefix_of s) * 1 ≡ morton_row height (prefix_of s) = omega (arith, ends.0) in
    rw (end, same, column, row) refl

-- there are at most as many digits as the fan
pub length-digits_of : (size bits : ℕ) → length (digits_of size bits) ≤ size
unfolding digits_of
length-digits_of size bits = fewer (λ digit. bit_at bits digit == 1) 0 size
  where
    fewer : (p : ℕ → Bool) (d n : ℕ) → length (filter p (range_with_len d n)) ≤ n
    fewer p d zero = omega arith
    fewer p d (suc n) = grind (arith, fewer p (d + 1) n)

-- a bit of a window
pub bit_of_window : (bits : List Bool) (start d size : ℕ) → d < size → start + d < length bits
    → (bit_at (window_of bits start size) d == 1) ≡ get_or bits (start + d) false
bit_of_window bits start d size small inside =
    ap (λ v. v == 1) (sym (window_of-inside bits start d 1 size (omega (arith, small))))
    ∙ sym (get_or_from_slice_get bits (start + d) (window_of bits (start + d) 1 == 1) false
    (window_of-bit bits (start + d) inside))

-- tests that agree on a range keep the same of it, also where it is mapped
pub kept_alike : {X : Type 0} (f : ℕ → ℕ) (g h : ℕ → X) (p q : ℕ → Bool) (k d : ℕ)
    → ((e : ℕ) → d ≤ e → e < d + k → (p e ≡ q (f e)) × (g e ≡ h (f e)))
    → map g (filter p (range_with_len d k)) ≡ map h (filter q (map f (range_with_len d k)))
kept_alike f g h p q zero d agree = refl
kept_alike f g h p q (suc k) d agree =
    let here = agree d (omega arith) (omega arith) in
    grind (arith, here.0, here.1, kept_alike f g h p q k (d + 1) (λ e low high. agree e (omega arith) (omega arith)))

-- numbers one after another, moved
range-moved : (k s n : ℕ) → map (λ d. k + d) (range_with_len s n) ≡ range_with_len (k + s) n
range-moved k s zero = refl
range-moved k s (suc n) =
    let e : k + (s + 1) ≡ k + s + 1 = omega arith in
    ap (λ xs. (k + s) ∷ xs) (range-moved k (s + 1) n ∙ ap (λ z. range_with_len z n) e)

-- the longer prefixes of one
pub children_of_prefixes-one : (size q : ℕ) → children_of_prefixes size (q ∷ []) ≡ map (λ d. size * q + d) (range_with_len 0 size)
unfolding children_of_prefixes
children_of_prefixes-one size q =
    let e : size * q + 0 ≡ size * q = omega arith in
    append-nil (range_with_len (size * q) size)
    ∙ sym (range-moved (size * q) 0 size ∙ ap (λ z. range_with_len z size) e)

module _ {height wide : ℕ} {base : Cell} {bits : List Bool} {upper : ℕ} (stored : IsStoredTree height wide base bits upper)
  where
    abbrev codes : List ℕ
    codes = codes_in (widths_of height wide) bits

    abbrev tree : Tree
    tree = tree_of height wide base bits

    -- the numbers of a stored tree's cells are those that its bits tell
    same_codes : codes_of tree ≡ codes
    same_codes = codes_back height base codes stored.tree.codes.small

    -- a square of the tree stands in its bits
    square_in : {s : Square} → IsSquareOf tree s → IsOn height wide codes (level_of s) (prefix_of s) (square_number s)
    square_in of = IsOn-from_list stored.tree.fits (rw same_codes at of.stands)

    -- a tree with bits has a topmost square
    pub whole_stands : {s : Square} → 0 < length bits → s.base ≡ base → node_of s ≡ node height 0 → square_number s ≡ 0
        → IsSquareOf tree s
    whole_stands some same is first =
        let top : IsOn height wide codes height 0 0 =
        subst (λ q. IsOn height wide codes height q 0) (zero-div (4 ^ height))
        (begins stored.tree 0 some (fan_pos height)) in
        record { base = same; stands = rw (same_codes, first) (list-from_IsOn top ∙ ap Some (sym is)) }

    -- a square that is a cell is a leaf, by its number without those of the inner squares
    pub leaf_cell : {s : Square} → IsSquareOf tree s → level_of s ≡ 0
        → (square_at upper (length bits) ≤ square_number s)
        × (slice_get (map (cell_of height base) codes) (square_number s - square_at upper (length bits))
        ≡ Some (least_cell_of s))
    leaf_cell {s} of end =
        let on : IsOn height wide codes 0 (prefix_of s) (square_number s) =
        subst (λ n. IsOn height wide codes n (prefix_of s) (square_number s)) end (square_in of) in
        let square = bottom stored.tree on in
        let inner = ap (λ u. square_at u (length bits)) stored.upper_is in
        let place : square_number s - square_at upper (length bits) ≡ square.0 = omega (arith, square.3, inner) in
        let small : prefix_of s < 4 ^ height = rw square.2 at (stored.tree.codes.small square.0 0 square.1) in (
          omega (arith, square.3, inner),
          slice_get-map (cell_of height base) codes (square_number s - square_at upper (length bits))
              ∙ ap (λ i. option_map (cell_of height base) (slice_get codes i)) place
              ∙ ap (option_map (cell_of height base)) (slice_get-get_or codes square.0 0 square.1 ∙ ap Some square.2)
              ∙ ap Some (sym (corner_is height s end of.base stored.grid.limit small)),
        )

    -- the children of a square that is no cell
    module _ {s : Square} (of : IsSquareOf tree s) (some : 1 ≤ level_of s) where
      abbrev w : ℕ
      w = node_width tree (node_of s)

      abbrev size : ℕ
      size = fan_of w

      abbrev n : ℕ
      n = level_of s - w

      abbrev start : ℕ
      start = group_start upper (square_number s)

      step : (d : ℕ) → d < size
          → IsTold height wide codes bits upper (level_of s) (prefix_of s) (square_number s) d
      step d small = rw stored.upper_is (told stored.tree (square_in of) some d small)

      -- the width by the number alone
      pub same_width : w ≡ square_width upper (square_number s)
      same_width = (step 0 (fan_pos w)).width

      module _ (d : ℕ) (small : d < size) where
        -- the bits of a square's children are in the tree
        pub child_inside : start + d < length bits
        child_inside = (step d small).inside

        told_bit : get_or bits (start + d) false ≡ is_in (prefixes n codes) (size * prefix_of s + d)
        told_bit = rw (← same_width) at (step d small).bit

        -- a child's bit tells whether it holds a cell
        pub child_told : holds_cell tree (child_at w (node_of s) d) ≡ get_or bits (start + d) false
        child_told = rw same_codes (sym told_bit)

        -- a child that is there has the number after the ones before its bit
        pub child_stands : get_or bits (start + d) false ≡ true
            → slice_get (squares_of tree) (rank_of bits (start + d) + 1) ≡ Some (child_at w (node_of s) d)
        child_stands on =
            let next : is_in (prefixes n codes) (size * prefix_of s + d) ≡ true
            → IsOn height wide codes n (size * prefix_of s + d) (rank_of bits (start + d) + 1) =
            rw (← same_width) at (step d small).child in
            rw same_codes (list-from_IsOn (next (sym told_bit ∙ on)))

        -- so does the window of the group
        window_bit : (bit_at (window_of bits start size) d == 1) ≡ get_or bits (start + d) false
        window_bit = bit_of_window bits start d size small child_inside

      abbrev window : ℕ
      window = window_of bits start size

      -- the digits of the window are those of its children that hold a cell
      pub group_nodes : map (child_at w (node_of s)) (digits_of size window) ≡ child_nodes tree (node_of s)
      unfolding digits_of child_prefixes
      group_nodes =
          let q : ℕ = prefix_of s in
          kept_alike (λ d. size * q + d) (child_at w (node_of s)) (node n) (λ d. bit_at window d == 1)
          (is_in (prefixes n (codes_of tree))) size 0
          (λ d low high. (window_bit d (omega arith) ∙ sym (child_told d (omega arith)), refl))
          ∙ ap (λ xs. map (node n) (filter (is_in (prefixes n (codes_of tree))) xs)) (sym (children_of_prefixes-one size q))

      -- those from a digit on
      abbrev told_from : ℕ → ℕ → List Node
      told_from d k = map (child_at w (node_of s)) (filter (λ d. bit_at window d == 1) (range_with_len d k))

      stands_from : (k d : ℕ) → d + k ≡ size
          → StandsAt (squares_of tree) (rank_of bits (start + d) + 1) (told_from d k)
      stands_from zero d end = tt
      stands_from (suc k) d end =
          let p : ℕ = start + d in
          let small : d < size = omega arith in
          let rest = stands_from k (d + 1) (omega arith) in
          let place : start + (d + 1) ≡ p + 1 = omega arith in
          let step = ap (rank_of bits) place ∙ rank_of-step bits p (child_inside d small) in
          elim (cases_Bool (get_or bits p false)) [
            | inl e ↦
                let next : rank_of bits (start + (d + 1)) + 1 ≡ suc (rank_of bits p + 1) =
                omega (arith, step, ap (λ b. rank_of bits p + cond b 1 0) e) in
                rw (window_bit d small ∙ e) (child_stands d small e, (rw next at rest))
            | inr e ↦
                let next : rank_of bits (start + (d + 1)) ≡ rank_of bits p =
                omega (arith, step, ap (λ b. rank_of bits p + cond b 1 0) e) in
                rw (window_bit d small ∙ e) (rw next at rest)
          ]

      -- they stand one after another from the rank of the group on
      pub group_stands : StandsAt (squares_of tree) (rank_of bits start + 1)
          (map (child_at w (node_of s)) (digits_of size window))
      unfolding digits_of
      group_stands =
          let none : start + 0 ≡ start = omega arith in
          rw none at (stands_from size 0 (omega arith))
