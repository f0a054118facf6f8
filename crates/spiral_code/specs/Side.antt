-- The order of a ring's sides.
use Rattle.std.specs.Prelude.{ℕ}
use Rattle.spiral_code.specs.declared.ring_place.Side.{Side}
use Rattle.spiral_code.specs.declared.ring_place.Side.TheVariants.{East, North, West, South}

-- how many sides of a ring come before this one
abbrev pub sides_before : Side → ℕ
sides_before East = 0
sides_before North = 1
sides_before West = 2
sides_before South = 3
