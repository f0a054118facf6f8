use Rattle.std.proofs.Common.{rules}
use Rattle.index_format.proofs.outline.grid.stays_in.Goals as goal

pub returns-then-is_in_grid : goal.returns-then-is_in_grid
returns-then-is_in_grid c = search rules
