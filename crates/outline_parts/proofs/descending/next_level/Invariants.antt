use Rattle.std.proofs.Common.{◌≡◌, ◌*◌, ◌≤◌, drop, length, take}
use Rattle.k2_tree.specs.Tree.{where_set}
use Rattle.k2_tree.specs.TreeBits.{children_of_prefixes}
use Rattle.outline_parts.proofs.descending.next_level.Given as goal

abbrev pub invariant-loop-prefix : goal.invariant-loop-prefix
invariant-loop-prefix l = record {
  codes : l.codes.items ≡ where_set (drop l.fn.from.start l.bits) (children_of_prefixes l.fan (take l.prefix-index l.fn.from.codes.items));
  behind : drop l.start l.bits ≡ drop (l.fan * l.prefix-index) (drop l.fn.from.start l.bits);
  within : l.start ≤ length l.bits;
}
