use Rattle.std.proofs.Common.{◌≡◌, map, All}
use Rattle.std.specs.List.{range_with_len}
use Rattle.track_types.specs.Near.{IsRawInRange}
use Rattle.sample_rows.specs.Sample.{first_spot}
use Rattle.sample_rows.proofs.SampleLemmas.{first_row}
use Rattle.sample_rows.proofs.sampling.push_first.Given as goal

abbrev pub invariant-loop-object : goal.invariant-loop-object
invariant-loop-object l = record {
  spots : l.spots.items ≡ map first_spot (range_with_len 0 l.object);
  rows : l.rows.items ≡ map first_row (range_with_len 0 l.object);
  ranges : All IsRawInRange l.rows.items;
}
