use Rattle.std.proofs.Common.{◌≡◌, ℤ, ◌+ℤ◌, ◌-ℤ◌, pos, ◌∙◌, refl, arith}
use Rattle.std.proofs.lemmas.Int.{ints}
use Rattle.track_types.specs.Widening.{widened}
use Rattle.track_types.specs.declared.cell.Cell.{Cell}
use Rattle.track_types.specs.declared.cell_box.CellBox.{CellBox}
use Rattle.nearest_search.specs.Cost.{box_dist2}
use Rattle.nearest_search.specs.Vantage.{queue_key}
use Rattle.nearest_search.proofs.vantage.Vantage.key.Goals as goal

-- a box that is made wider by nothing is as near
box_dist2-narrow : (cell : Cell) (area : CellBox) → box_dist2 cell (widened 0 area) ≡ box_dist2 cell area
box_dist2-narrow cell area =
    let less : (z : ℤ) → (z -ℤ pos 0) ≡ z = λ z. omega (arith, ints) in
    let more : (z : ℤ) → (z +ℤ pos 0) ≡ z = λ z. omega (arith, ints) in
    rw (less area.x1, less area.y1, more area.x2, more area.y2) refl

pub returns : goal.returns
unfolding queue_key
returns c =
    let near : c.dist2_to-near.result ≡ box_dist2 c.args.self.now.cell c.args.area.now =
    c.dist2_to-near.ensures ∙ box_dist2-narrow c.args.self.now.cell c.args.area.now in
    let own = c.dist2_to.ensures in
    let most = c.max.ensures in
    omega (arith, near, own, most)
