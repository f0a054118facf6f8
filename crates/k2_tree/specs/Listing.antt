-- The squares of a level, and how those of the next one follow from them.
use Rattle.std.specs.Prelude.{◌≡◌, ℕ, ◌+◌, ◌-◌, ◌*◌, ◌/◌, ◌%◌, ◌≤◌, ◌==◌, if◌then◌else◌, Bool, List, ◌++◌, map, pos, ◌+ℤ◌}
use Rattle.track_types.specs.declared.cell.Cell.{Cell}
use Rattle.k2_tree.specs.Morton.{morton_column, morton_row}
use Rattle.k2_tree.specs.Squares.{bits_above}
use Rattle.k2_tree.specs.Tree.{codes_in}
use Rattle.k2_tree.specs.TreeBits.{prefixes}
use Rattle.k2_tree.specs.Widths.{widths_of, widths_under}
use Rattle.k2_tree.specs.declared.listing.Spot.{Spot}

-- the square with a Morton number of so many digits
abbrev pub spot_of : ℕ → ℕ → Spot
spot_of digits code = record { code = code; column = morton_column digits code; row = morton_row digits code }

-- the Morton number of a square
abbrev pub spot_code : Spot → ℕ
spot_code spot = spot.code

-- the quarter of a square with a digit to base 4
abbrev pub quarter_of : Spot → ℕ → Spot
quarter_of spot digit = record {
  code = 4 * spot.code + digit;
  column = 2 * spot.column + digit % 2;
  row = 2 * spot.row + digit / 2;
}

-- the child of a square with a digit by a level of this width
unfoldable pub child_spot : ℕ → Spot → ℕ → Spot
child_spot width spot digit =
    if width == 1 then quarter_of spot digit else quarter_of (quarter_of spot (digit / 4)) (digit % 4)

-- the cell that a square without a digit below it is
abbrev pub spot_cell : Cell → Spot → Cell
spot_cell base spot = record { x = base.x +ℤ pos spot.column; y = base.y +ℤ pos spot.row }

-- squares are those of the level with so many digits below it, and the bits of their children start at a place
pub record IsLevelOf (height wide : ℕ) (bits : List Bool) (spots : List Spot) (start below : ℕ) : Type 0 where
  pub above : List ℕ
  pub high : below ≤ height
  pub parted : above ++ widths_under (height - 2 * wide) below ≡ widths_of height wide
  pub spots_are : spots ≡ map (spot_of (height - below)) (prefixes below (codes_in (widths_of height wide) bits))
  pub begins : start ≡ bits_above above below (codes_in (widths_of height wide) bits)
