use Rattle.std.proofs.Common.{◌≡◌, ◌+◌, max}
use Rattle.snapshots.specs.Ahead.{IsReadOn}
use Rattle.snapshots.specs.Parts.{block_log}
use Rattle.snapshots.proofs.LogsLemmas.{IsReading}
use Rattle.log_bounds.proofs.SpeedLemmas.{speed_before}
use Rattle.log_bounds.proofs.BoxLemmas.{box_before}
use Rattle.snapshots.proofs.logs.read_log.Given as goal

abbrev pub invariant-loop-place : goal.invariant-loop-place
invariant-loop-place g l = record {
  reading : IsReading l.fn.frame l.fn.ahead.rules l.fn.block.cell (block_log l.fn.ahead.rules l.fn.block) l.place l.cell
      l.duration;
  begins : l.bounds.from ≡ l.fn.block.cell;
  fastest : l.bounds.speed ≡ max l.fn.fastest (speed_before l.fn.ahead.rules l.fn.block.cell
      (block_log l.fn.ahead.rules l.fn.block) l.place);
  boxed : l.bounds.area ≡ box_before l.fn.ahead.rules l.fn.block.cell (block_log l.fn.ahead.rules l.fn.block) l.place;
  at : l.ahead.place ≡ l.fn.block.from + l.place;
  read : IsReadOn l.fn.ahead l.ahead l.fn.steps l.steps;
}
