use Rattle.std.proofs.Common.{◌≡◌, map, take}
use Rattle.movement_log.specs.Logs.{terminal_of}
use Rattle.movement_log.proofs.alphabet.terminals_of.Given as goal

abbrev pub invariant-loop-value : goal.invariant-loop-value
invariant-loop-value l = l.terminals.items ≡ map (terminal_of l.alphabet) (take l.value-index l.values)
