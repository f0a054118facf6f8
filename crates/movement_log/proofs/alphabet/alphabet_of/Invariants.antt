use Rattle.std.proofs.Common.{◌≡◌, take}
use Rattle.movement_log.specs.Logs.{ascending_of}
use Rattle.movement_log.proofs.alphabet.alphabet_of.Given as goal

abbrev pub invariant-loop-value : goal.invariant-loop-value
invariant-loop-value l = ascending_of l.kept.items ≡ ascending_of (take l.value-index l.values)
