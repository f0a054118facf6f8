use Rattle.std.proofs.Common.{arith}
use Rattle.std.proofs.lemmas.Grind.{common_steps}
use Rattle.std.proofs.Common.{◌≡◌, rules, refl, ◌∙◌, ap, w64, to_z, of_z}
use Rattle.std.specs.Prelude.{FitsSigned}
use Rattle.std.proofs.lemmas.Int.{to_z-of_z}
use Rattle.track_types.specs.Quantities.{columns_of, extent_of, first_of, least, lines_of}
use Rattle.chart_parts.specs.Header.{frame_of, height_for}
use Rattle.chart_parts.proofs.header.frame_of.Goals as goal

pub returns : goal.returns
unfolding frame_of
returns c =
    let rows = c.args.chart.now.rows in
    let are = c.extents-extents.ensures.value in
    let timeline = c.timeline-timeline.ensures in
    let fits : FitsSigned w64 c.timeline-timeline.result.first = search rules in
    let fits_x : FitsSigned w64 c.extents-extents.result.columns.least = search rules in
    let fits_y : FitsSigned w64 c.extents-extents.result.lines.least = search rules in
    let first : to_z w64 (of_z w64 c.timeline-timeline.result.first) ≡ first_of rows =
    to_z-of_z w64 _ fits ∙ timeline.first ∙ timeline.chart.first in
    let left : to_z w64 (of_z w64 c.extents-extents.result.columns.least) ≡ least (columns_of rows) =
    to_z-of_z w64 _ fits_x ∙ are.columns.least in
    let below : to_z w64 (of_z w64 c.extents-extents.result.lines.least) ≡ least (lines_of rows) =
    to_z-of_z w64 _ fits_y ∙ are.lines.least in
    let height : c.height_for.result ≡ height_for (extent_of rows) =
    c.height_for.ensures ∙ ap height_for (c.width.ensures rows are) in
    rw (first, timeline.span, timeline.period, height, left, below, c.cell.ensures.value, c.tick.ensures.value) refl

pub height_for-requires : goal.height_for-requires
height_for-requires c = grind (arith, common_steps)
