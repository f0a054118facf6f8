use Rattle.std.proofs.Common.{◌<◌, ◌^◌, length, slice_get, arith, sym, ap, ◌∙◌, Some}
use Rattle.track_types.proofs.BoxLemmas.{same_box}
use Rattle.box_tree.proofs.BoxesLemmas.{begins, begins-within, boxes_of-at, boxes_of-length, ends, ends-within}
use Rattle.box_tree.proofs.boxes.Boxes.at.Goals as goal

pub at-corner-requires : goal.at-corner-requires
at-corner-requires g c =
    let b = c.self.inside in
    omega (arith, ap length c.self.view_is, boxes_of-length b.base b.corners b.reaches c.self.invariant.same)

pub at-reach-requires : goal.at-reach-requires
at-reach-requires g c =
    let b = c.self.inside in
    omega (
      arith,
      ap length c.self.view_is,
      boxes_of-length b.base b.corners b.reaches c.self.invariant.same,
      c.self.invariant.same,
    )

pub returns : goal.returns
returns g c =
    let b = c.self.inside in
    let is = c.self.invariant.is in
    let right : c.at-corner.result.0 < 2 ^ 32 = omega arith in
    let up : c.at-corner.result.1 < 2 ^ 32 = omega arith in
    let wide : c.at-reach.result.0 < 2 ^ 32 = omega arith in
    let high : c.at-reach.result.1 < 2 ^ 32 = omega arith in
    record {
      value = ap (λ bs. slice_get bs c.args.place) (sym c.self.view_is)
          ∙ boxes_of-at b.base b.corners b.reaches c.args.place c.at-corner.result c.at-reach.result
          c.at-corner.ensures.value c.at-reach.ensures.value
          ∙ ap Some (same_box _ _
          (sym (begins b.base.x _ _ _ _ is.left is.right c.from.ensures right c.from-3.ensures wide))
          (sym (begins b.base.y _ _ _ _ is.below is.above c.from-2.ensures up c.from-4.ensures high))
          (sym (ends b.base.x _ _ _ _ is.left is.right c.from.ensures right c.from-3.ensures wide))
          (sym (ends b.base.y _ _ _ _ is.below is.above c.from-2.ensures up c.from-4.ensures high)));
      within = record {
        x1 = begins-within b.base.x _ _ _ _ is.left is.right c.from.ensures right c.from-3.ensures wide;
        y1 = begins-within b.base.y _ _ _ _ is.below is.above c.from-2.ensures up c.from-4.ensures high;
        x2 = ends-within b.base.x _ _ _ _ is.left is.right c.from.ensures right c.from-3.ensures wide;
        y2 = ends-within b.base.y _ _ _ _ is.below is.above c.from-2.ensures up c.from-4.ensures high;
      };
      cost = omega (arith, c.at-corner.ensures.cost, c.at-reach.ensures.cost);
    }
