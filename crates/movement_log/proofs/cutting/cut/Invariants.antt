use Rattle.std.proofs.Common.{◌≡◌, drop, take}
use Rattle.std.specs.List.{flat_map}
use Rattle.movement_log.specs.Logs.{logs_of}
use Rattle.movement_log.proofs.cutting.cut.Given as goal

abbrev pub invariant-loop-len : goal.invariant-loop-len
invariant-loop-len l = record {
  logs : l.logs.items ≡ take l.len-index (logs_of l.chart).terminals;
  rest : l.rest ≡ flat_map (λ log. log) (drop l.len-index (logs_of l.chart).terminals);
}
