use Rattle.std.proofs.Common.{◌≡◌, ◌++◌, take}
use Rattle.std.specs.List.{flat_map}
use Rattle.index_format.specs.Spelling.{rule_bytes}
use Rattle.index_format.proofs.putting.put_rules.Given as goal

abbrev pub invariant-loop-left : goal.invariant-loop-left
invariant-loop-left l = l.out.items ≡ l.initial.out.items ++ flat_map rule_bytes (take l.left-index l.rules)
