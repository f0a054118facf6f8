-- A tree's cells and their Morton numbers.
use Rattle.std.proofs.Common.{◌≡◌, ℕ, ◌+◌, ◌^◌, ◌<◌, ◌==◌, Bool, false, List, [], length, map}
use Rattle.std.proofs.Common.{get_or, refl, sym, ap, ◌∙◌, arith, subst, Option, None, Some, All, MatchOption}
use Rattle.std.specs.Prelude.{slice_get, Contains}
use Rattle.std.proofs.lemmas.Bool.Decides.{nat_tests}
use Rattle.std.proofs.lemmas.List.{length-map}
use Rattle.std.proofs.lemmas.List.Elements.{All-map}
use Rattle.std.proofs.lemmas.Option.{slice_get-map}
use Rattle.list_laws.proofs.MemberLemmas.{Contains-map, member_of_map, none_from_list_any}
use Rattle.packed_bits.specs.Bits.{ones_of}
use Rattle.track_types.specs.declared.cell.Cell.{Cell}
use Rattle.k2_tree.specs.Morton.{morton_of, cell_of, IsInGrid}
use Rattle.k2_tree.specs.Widths.{widths_of}
use Rattle.k2_tree.specs.TreeBits.{is_in, morton_bits, AreCodes}
use Rattle.k2_tree.specs.Groups.{square_at}
use Rattle.k2_tree.specs.Tree.{tree_with, codes_in, Tree, codes_of, tree_bits, tree_of, IsTree, IsStoredTree}
use Rattle.k2_tree.specs.Flaws.{StandsFor}
use Rattle.k2_tree.proofs.MortonLemmas.{cell_of-morton_of, cell_of-inside, morton_of-cell_of}
use Rattle.k2_tree.proofs.ToldLemmas.{codes_in-own, codes_in-none}
use Rattle.k2_tree.proofs.ClimbLemmas.{length-codes_in}
use Rattle.list_laws.proofs.MapLemmas.{map-back}

-- the numbers of the cells of numbers are these numbers
pub codes_back : (height : ℕ) (base : Cell) (codes : List ℕ) → All (λ code. code < 4 ^ height) codes
    → map (morton_of height base) (map (cell_of height base) codes) ≡ codes
codes_back height base codes small =
    map-back (cell_of height base) (morton_of height base) codes
    (λ k d h. morton_of-cell_of height base (get_or codes k d) (small k d h))

-- the cells of the numbers of cells are these cells
pub cells_back : (height : ℕ) (base : Cell) (cells : List Cell) → All (IsInGrid height base) cells
    → map (cell_of height base) (map (morton_of height base) cells) ≡ cells
cells_back height base cells inside =
    map-back (morton_of height base) (cell_of height base) cells
    (λ k d h. cell_of-morton_of height base (get_or cells k d) (inside k d h))

-- a cell outside the grid is not in the set
pub outside_cell : {height : ℕ} {base cell : Cell} (codes : List ℕ)
    → (IsInGrid height base cell → ⊥) → Contains (map (cell_of height base) codes) cell → ⊥
outside_cell {height} {base} {cell} codes outside inside =
    let from = member_of_map (cell_of height base) codes cell inside in
    outside (subst (IsInGrid height base) from.2 (cell_of-inside height base from.0))

-- no bits, no cells
pub no_cells : (height wide : ℕ) (base : Cell) (bits : List Bool) → length bits ≡ 0
    → map (cell_of height base) (codes_in (widths_of height wide) bits) ≡ []
no_cells height wide base bits none = ap (map (cell_of height base)) (codes_in-none (widths_of height wide) bits none)

module _ {height wide : ℕ} {base : Cell} {bits : List Bool} {upper : ℕ} (stored : IsStoredTree height wide base bits upper)
  where
    abbrev codes : List ℕ
    codes = codes_in (widths_of height wide) bits

    -- what is stored is a tree
    pub IsTree-stored : IsTree (tree_of height wide base bits)
    IsTree-stored = record {
      grid = stored.grid;
      fits = stored.tree.fits;
      inside =
          All-map (IsInGrid height base) (cell_of height base) codes
          (λ k d h. cell_of-inside height base (get_or codes k d));
      codes = subst (AreCodes height) (sym (codes_back height base codes stored.tree.codes.small)) stored.tree.codes;
    }

    -- it has the bits that it was made from
    pub given_back : bits ≡ tree_bits (tree_of height wide base bits)
    unfolding tree_bits
    given_back = stored.tree.exact
        ∙ ap (morton_bits (widths_of height wide)) (sym (codes_back height base codes stored.tree.codes.small))

    -- what is told of a cell's number is told of the cell
    pub told : {cell : Cell} (leaf : Option ℕ) → IsInGrid height base cell
        → MatchOption leaf (is_in codes (morton_of height base cell) ≡ false)
        (λ l. slice_get codes l ≡ Some (morton_of height base cell))
        → MatchOption leaf (Contains (map (cell_of height base) codes) cell → ⊥)
        (λ l. slice_get (map (cell_of height base) codes) l ≡ Some cell)
    told {cell} None inside gone = λ there.
        let code : ℕ = morton_of height base cell in
        let among = Contains-map (morton_of height base) (map (cell_of height base) codes) cell there in
        let differ = none_from_list_any (λ other. other == code) codes code gone
        (rw (codes_back height base codes stored.tree.codes.small) at among) in
        grind (arith, nat_tests, differ)
    told {cell} (Some leaf) inside found =
        slice_get-map (cell_of height base) codes leaf
        ∙ (rw found (ap Some (cell_of-morton_of height base cell inside)))

    -- how many cells the bits tell
    pub leaf_count : 0 < length bits
        → length (map (cell_of height base) codes) + square_at upper (length bits) ≡ ones_of bits + 1
    leaf_count some =
        omega (
          arith,
          length-map codes (cell_of height base),
          length-codes_in stored.tree some,
          ap (λ u. square_at u (length bits)) stored.upper_is,
        )

-- what is stored stands for its bits
pub StandsFor-stored : {height wide : ℕ} {base : Cell} {bits : List Bool} {upper : ℕ}
    → IsStoredTree height wide base bits upper
    → StandsFor height wide base bits (tree_of height wide base bits)
StandsFor-stored stored = record {
  high = refl;
  levels = refl;
  from = refl;
  is_tree = IsTree-stored stored;
  same = sym (given_back stored);
}

-- the tree that has the bits is the one that the bits tell
pub tree_of-StandsFor : (height wide : ℕ) (base : Cell) (bits : List Bool) (tree : Tree)
    → StandsFor height wide base bits tree → tree_of height wide base bits ≡ tree
unfolding tree_bits
tree_of-StandsFor height wide base bits tree stands =
    let is : IsTree tree = stands.is_tree in
    rw (← stands.high, ← stands.levels, ← stands.from, ← stands.same)
    (ap (λ codes. tree_with tree.height tree.wide tree.base (map (cell_of tree.height tree.base) codes))
    (codes_in-own tree.height tree.wide (codes_of tree) is.grid.some is.fits is.codes)
    ∙ ap (tree_with tree.height tree.wide tree.base) (cells_back tree.height tree.base tree.cells is.inside))
