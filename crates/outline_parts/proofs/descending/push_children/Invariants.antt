use Rattle.std.proofs.Common.{◌≡◌, ℕ, ◌+◌, ◌*◌, ◌≤◌, ◌++◌, drop}
use Rattle.std.specs.List.{range_with_len}
use Rattle.k2_tree.specs.Tree.{where_set}
use Rattle.outline_parts.proofs.descending.push_children.Given as goal

abbrev pub invariant-loop-place : goal.invariant-loop-place
invariant-loop-place l = record {
  count : ℕ;
  place : l.place ≡ l.start + count;
  within : l.place ≤ l.end;
  code : l.code ≡ l.fan * l.prefix + count;
  codes : l.codes.items ≡ l.fn.codes.items ++ where_set (drop l.start l.bits) (range_with_len (l.fan * l.prefix) count);
}
