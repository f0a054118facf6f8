use Rattle.std.proofs.Common.{◌≡◌, length}
use Rattle.std.specs.Prelude.{All}
use Rattle.track_types.specs.Near.{IsRawInRange}
use Rattle.index_tests.proofs.charts.raws.Given as goal

abbrev pub invariant-loop-place : goal.invariant-loop-place
invariant-loop-place l = record {
  near : All IsRawInRange l.raws.items;
  many : length l.raws.items ≡ l.place-index;
}
