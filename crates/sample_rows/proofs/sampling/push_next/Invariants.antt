use Rattle.std.proofs.Common.{◌≡◌, ℕ, suc, length, All}
use Rattle.track_types.specs.Near.{IsRawInRange}
use Rattle.sample_rows.specs.Reached.{AreSpotsAt}
use Rattle.sample_rows.proofs.SampleLemmas.{IsUnderWay}
use Rattle.sample_rows.proofs.sampling.push_next.Given as goal

abbrev pub invariant-loop-object : goal.invariant-loop-object
invariant-loop-object l = record {
  many : length l.spots ≡ length l.fn.spots;
  way : (seed before : ℕ) → l.instant ≡ suc before → AreSpotsAt seed before l.fn.spots l.fn.generator.state →
      IsUnderWay seed before l.object l.spots l.generator.state l.fn.rows.items l.rows.items;
  ranges : All IsRawInRange l.fn.rows.items → All IsRawInRange l.rows.items;
}
