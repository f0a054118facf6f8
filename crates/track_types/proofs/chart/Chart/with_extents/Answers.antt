use Rattle.std.proofs.Common.{refl}
use Rattle.track_types.proofs.chart.Chart.with_extents.Goals as goal

pub invariant_of-result : goal.invariant_of-result
invariant_of-result c =
    let time = c.requires.extents.time in (rw (time.least, time.greatest) c.requires.chart, c.requires.extents)

pub returns : goal.returns
returns c = let time = c.requires.extents.time in rw (time.least, time.greatest) refl
