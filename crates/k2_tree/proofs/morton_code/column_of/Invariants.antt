use Rattle.std.proofs.Common.{◌≡◌, ◌-◌, ◌*◌, ◌/◌, ◌^◌}
use Rattle.k2_tree.specs.Morton.{morton_column}
use Rattle.k2_tree.proofs.morton_code.column_of.Given as goal

abbrev pub invariant-loop-part : goal.invariant-loop-part
invariant-loop-part l = l.column ≡ morton_column (8 * (3 - l.part)) (l.code / 2 ^ (16 * l.part))
