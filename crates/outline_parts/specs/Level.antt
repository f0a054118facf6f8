-- A level of a tree that is told by its bits: the prefixes of the cells' Morton numbers down to it.
use Rattle.std.specs.Prelude.{◌^◌, ◌<◌, ◌≤◌, All, Bool, List, length}
use Rattle.k2_tree.specs.Widths.{fan}
use Rattle.outline_parts.specs.declared.descending.Level.{Level}

-- the numbers have so many digits, there are no more of them than bits, and their children's bits begin within the bits
pub record IsLevel (bits : List Bool) (level : Level) : Type 0 where
  pub small : All (λ code. code < fan ^ level.digits) level.codes.items
  pub few : length level.codes.items ≤ length bits
  pub within : level.start ≤ length bits
