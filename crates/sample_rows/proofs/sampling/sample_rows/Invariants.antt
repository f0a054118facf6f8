use Rattle.std.proofs.Common.{◌≡◌, ℕ, suc, length, All}
use Rattle.track_types.specs.Near.{IsRawInRange}
use Rattle.sample_rows.specs.Reached.{AreSpotsAt}
use Rattle.sample_rows.specs.Sample.{sample_rows}
use Rattle.sample_rows.proofs.sampling.sample_rows.Given as goal

abbrev pub invariant-loop-instant : goal.invariant-loop-instant
invariant-loop-instant l = record {
  before : ℕ;
  next : l.instant ≡ suc before;
  many : length l.spots.items ≡ l.objects;
  reached : AreSpotsAt l.seed before l.spots.items l.generator.state;
  rows : l.rows.items ≡ sample_rows l.objects l.instant l.seed;
  ranges : All IsRawInRange l.rows.items;
}
