use Rattle.std.proofs.Common.{◌∙◌, ap}
use Rattle.track_types.specs.Extents.{extents_over}
use Rattle.track_types.proofs.ExtentLemmas.{AreExtentsOf-over}
use Rattle.track_types.proofs.chart.Chart.new.Goals as goal

pub with_extents-requires-clause-extents : goal.with_extents-requires-clause-extents
with_extents-requires-clause-extents c =
    AreExtentsOf-over c.args.rows.items c.of-extents.result c.requires.some c.requires.in_range
    (c.of-extents.ensures ∙ ap extents_over c.deref.ensures.value)
