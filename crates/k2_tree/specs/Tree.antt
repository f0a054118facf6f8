-- A k2-tree: a set of cells, how many of its upper levels are wide, and how it stands in bits.
use Rattle.std.specs.Prelude.{◌≡◌, ℕ, ◌*◌, ◌≤◌, Bool}
use Rattle.std.specs.Prelude.{true, false, List, [], ◌∷◌, length, map, drop, All}
use Rattle.track_types.specs.declared.cell.Cell.{Cell}
use Rattle.track_types.specs.declared.limit.TheConstants.{MAX_TREE}
use Rattle.k2_tree.specs.Morton.{morton_of, cell_of, IsGrid, IsInGrid}
use Rattle.k2_tree.specs.Widths.{fan_of, widths_of}
use Rattle.k2_tree.specs.TreeBits.{children_of_prefixes, morton_bits, AreCodes}
use Rattle.k2_tree.specs.Groups.{upper_squares}

-- a set of cells of the grid of side 2 ^ height from the base, in Morton order, over so many wide levels
pub record Tree : Type 0 where
  pub height : ℕ
  pub wide : ℕ
  pub base : Cell
  pub cells : List Cell

-- the tree of these cells
abbrev pub tree_with : ℕ → ℕ → Cell → List Cell → Tree
tree_with height wide base cells = record { height = height; wide = wide; base = base; cells = cells }

-- the widths of a tree's levels
abbrev pub tree_widths : Tree → List ℕ
tree_widths tree = widths_of tree.height tree.wide

-- the Morton numbers of a tree's cells
abbrev pub codes_of : Tree → List ℕ
codes_of tree = map (morton_of tree.height tree.base) tree.cells

-- a tree's bits
unfoldable pub tree_bits : Tree → List Bool
tree_bits tree = morton_bits (tree_widths tree) (codes_of tree)

-- what holds of every tree
pub record IsTree (tree : Tree) : Type 0 where
  pub grid : IsGrid tree.height tree.base
  pub fits : 2 * tree.wide ≤ tree.height
  pub inside : All (IsInGrid tree.height tree.base) tree.cells
  pub codes : AreCodes tree.height (codes_of tree)

-- the numbers at whose place a bit is 1
unfoldable pub where_set : List Bool → List ℕ → List ℕ
where_set [] codes = []
where_set (bit ∷ bits) [] = []
where_set (true ∷ bits) (code ∷ codes) = code ∷ where_set bits codes
where_set (false ∷ bits) (code ∷ codes) = where_set bits codes

-- the numbers below these prefixes that the bits of levels of these widths stand for
unfoldable pub codes_below : List ℕ → List ℕ → List Bool → List ℕ
codes_below [] prefixes bits = prefixes
codes_below (width ∷ widths) prefixes bits =
    codes_below widths (where_set bits (children_of_prefixes (fan_of width) prefixes)) (drop (fan_of width * length prefixes) bits)

-- the Morton numbers that a tree's bits stand for
unfoldable pub codes_in : List ℕ → List Bool → List ℕ
codes_in widths [] = []
codes_in widths (bit ∷ bits) = codes_below widths (0 ∷ []) (bit ∷ bits)

-- the tree that has these bits
abbrev pub tree_of : ℕ → ℕ → Cell → List Bool → Tree
tree_of height wide base bits =
    tree_with height wide base (map (cell_of height base) (codes_in (widths_of height wide) bits))

-- the bits are those of the Morton numbers that they stand for
pub record AreTreeBits (height wide : ℕ) (bits : List Bool) : Type 0 where
  pub fits : 2 * wide ≤ height
  pub codes : AreCodes height (codes_in (widths_of height wide) bits)
  pub exact : bits ≡ morton_bits (widths_of height wide) (codes_in (widths_of height wide) bits)
  pub few : length bits ≤ MAX_TREE

-- a tree of these parts
pub record IsStoredTree (height wide : ℕ) (base : Cell) (bits : List Bool) (upper : ℕ) : Type 0 where
  pub grid : IsGrid height base
  pub tree : AreTreeBits height wide bits
  pub upper_is : upper ≡ upper_squares height wide (codes_in (widths_of height wide) bits)
