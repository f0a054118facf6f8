use Rattle.std.proofs.Common.{◌≡◌, ◌++◌, take}
use Rattle.std.specs.List.{flat_map}
use Rattle.index_format.specs.Spelling.{period_bytes}
use Rattle.index_format.proofs.encoding.encode.Given as goal

abbrev pub invariant-loop-period : goal.invariant-loop-period
invariant-loop-period l = l.out.items ≡ l.initial.out.items ++ flat_map period_bytes (take l.period-index l.parts.periods)
