use Rattle.std.proofs.Common.{◌≡◌, ◌++◌, ◌%◌, length}
use Rattle.k2_tree.specs.Widths.{fan_of, levels_with}
use Rattle.k2_tree.specs.Building.{levels_bits}
use Rattle.k2_tree.proofs.building.push_levels.Given as goal

abbrev pub invariant-loop-level : goal.invariant-loop-level
invariant-loop-level l = record {
  whole : length l.bits % fan_of l.width ≡ 0;
  levels : l.bits ++ levels_bits (levels_with l.width l.level) l.below l.codes
      ≡ l.fn.bits ++ levels_bits (levels_with l.width l.levels) l.below l.codes;
}
