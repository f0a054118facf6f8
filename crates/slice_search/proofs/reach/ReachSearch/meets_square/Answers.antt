use Rattle.std.proofs.Common.{◌≡◌, true, ap, sym, ◌∙◌}
use Rattle.track_types.specs.Region.{intersects_region}
use Rattle.track_types.specs.Widening.{widened}
use Rattle.track_types.specs.declared.cell_box.CellBox.{CellBox}
use Rattle.track_types.specs.Boxes.{cut_box, touches}
use Rattle.slice_search.specs.Reach.{may_reach}
use Rattle.slice_search.proofs.ReachLemmas.{both-hold, one-fails}
use Rattle.slice_search.proofs.reach.ReachSearch.meets_square.Goals as goal

pub returns-then-meets : goal.returns-then-meets
unfolding may_reach
returns-then-meets g c =
    let self = c.args.self.now in
    let box : CellBox = widened self.width c.args.area.now in
    let first : touches self.grid box ≡ true =
    sym (c.meets.ensures ∙ ap (touches self.grid) c.widened-wide.ensures) ∙ c.if-meets.true in
    both-hold (touches self.grid box) (intersects_region self.test.now.region (cut_box self.grid box)) _ first
    (c.may.ensures.value ∙ ap (intersects_region self.test.now.region)
    (c.cut_to.ensures.value ∙ ap (cut_box self.grid) c.widened-wide.ensures))

pub returns-else-meets : goal.returns-else-meets
unfolding may_reach
returns-else-meets g c =
    let self = c.args.self.now in
    let box : CellBox = widened self.width c.args.area.now in
    one-fails (touches self.grid box) (intersects_region self.test.now.region (cut_box self.grid box)) _
    (c.meets.ensures ∙ ap (touches self.grid) c.widened-wide.ensures) c.if-meets.false
