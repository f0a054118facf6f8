use Rattle.std.proofs.Common.{arith}
use Rattle.std.proofs.lemmas.List.{length_push}
use Rattle.std.proofs.lemmas.List.Elements.{All-push}
use Rattle.track_types.specs.Near.{IsRawInRange}
use Rattle.index_tests.proofs.charts.raws.Goals as goal

pub loop-place-preserved : goal.loop-place-preserved
loop-place-preserved c = record {
  near = rw c.in_ok-push.ensures.items
      (All-push IsRawInRange c.loop-place.raws.items c.raw-raw.result c.loop-place.invariant.near c.raw-raw.ensures);
  many = rw (c.in_ok-push.ensures.items, length_push c.loop-place.raws.items c.raw-raw.result) (omega arith);
}
