use Rattle.std.proofs.Common.{◌≡◌, true, false, refl, sym, ap, ◌∙◌}
use Rattle.std.specs.Prelude.{slice_index}
use Rattle.k2_tree.specs.Areas.{area_at}
use Rattle.k2_tree.specs.Squares.{node}
use Rattle.box_tree.specs.Places.{box_at, place_passes}
use Rattle.box_tree.specs.Tree.{TreeView}
use Rattle.box_tree.proofs.walk.BoxWalk.meets.Goals as goal

pub returns-then-not-meets_box-clause-value : goal.returns-then-not-meets_box-clause-value
unfolding place_passes
returns-then-not-meets_box-clause-value g c =
    let walk = c.args.self.now in
    let boxes = g.S.Search.boxes walk.search in
    let its : boxes (box_at walk.walk.tree.places.boxes c.args.place) ≡ false =
    ap boxes (ap (λ (t : TreeView). box_at t.places.boxes c.args.place) (sym c.tree-tree.ensures.value)
    ∙ c.place_box-area.ensures.value)
    ∙ sym c.meets_box.ensures ∙ c.if-not-meets_box.true in
    rw its refl

pub returns-clause-value : goal.returns-clause-value
unfolding place_passes
returns-clause-value g c =
    let walk = c.args.self.now in
    let boxes = g.S.Search.boxes walk.search in
    let its : boxes (box_at walk.walk.tree.places.boxes c.args.place) ≡ true =
    ap boxes (ap (λ (t : TreeView). box_at t.places.boxes c.args.place) (sym c.tree-tree.ensures.value)
    ∙ c.place_box-area.ensures.value)
    ∙ sym c.meets_box.ensures ∙ c.if-not-meets_box.false in
    rw its (c.meets_square.ensures ∙ ap (g.S.Search.squares walk.search) (c.place_cell-cell.ensures.value
    ∙ ap (λ (t : TreeView). area_at t.base
    (node 0 (slice_index t.places.codes c.args.place))) c.tree-tree.ensures.value))
