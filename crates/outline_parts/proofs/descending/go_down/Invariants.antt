use Rattle.std.proofs.Common.{◌≡◌, ℕ, ◌+◌, ◌*◌, ◌++◌, List, drop}
use Rattle.k2_tree.specs.Tree.{codes_below}
use Rattle.k2_tree.specs.Widths.{levels_with}
use Rattle.outline_parts.specs.Level.{IsLevel}
use Rattle.outline_parts.proofs.descending.go_down.Given as goal

abbrev pub invariant-loop : goal.invariant-loop
invariant-loop l = record {
  level : IsLevel l.bits l.level;
  digits : l.level.digits ≡ l.fn.from.digits + l.width * l.counter;
  below : (rest : List ℕ) → codes_below rest l.level.codes.items (drop l.level.start l.bits)
      ≡ codes_below (levels_with l.width l.counter ++ rest) l.fn.from.codes.items (drop l.fn.from.start l.bits);
}
