use Rattle.std.proofs.Common.{◌≡◌, ℕ, ◌<◌, [], ◌∷◌, ◌++◌, length, take, pos, ◌+ℤ◌, sym}
use Rattle.std.proofs.Common.{ap, ◌∙◌, arith, length-append}
use Rattle.std.proofs.lemmas.Grind.{common_steps}
use Rattle.std.proofs.lemmas.Int.{ints}
use Rattle.std.proofs.lemmas.List.{take_more}
use Rattle.track_types.specs.Near.{IsBoxWithin}
use Rattle.track_types.specs.declared.cell_box.CellBox.{CellBox}
use Rattle.track_types.proofs.BoxLemmas.{same_box}
use Rattle.k2_tree.proofs.AreaLemmas.{base_within, word_kept}
use Rattle.box_tree.specs.Boxes.{IsFrom, box_with, boxes_of}
use Rattle.box_tree.proofs.BoxesLemmas.{boxes_of-more}
use Rattle.box_tree.proofs.MakingLemmas.{box-from, box-near}
use Rattle.box_tree.proofs.boxes.Boxes.new.Goals as goal
use Rattle.box_tree.proofs.boxes.Boxes.new.Goals.{After-area-item}

pub loop-area-init : goal.loop-area-init
unfolding boxes_of
loop-area-init c = record {
  made = ap (λ cs. boxes_of c.args.base cs c.in_ok-reaches.reaches.items) c.in_ok-corners.ensures.items;
  same = ap length c.in_ok-reaches.ensures.items ∙ sym (ap length c.in_ok-corners.ensures.items);
}

near : (c : After-area-item) → IsBoxWithin c.area-item.result
near c = box-near c.args.list.now c.loop-area.area-index c.area-item.result (omega arith) c.area-item.is c.requires.near

from : (c : After-area-item) → IsFrom c.args.base c.area-item.result
from c = box-from c.args.base c.args.list.now c.loop-area.area-index c.area-item.result
    (omega arith) c.area-item.is c.requires.from

-- what the coordinates are as words
pub offset-requires-in-loop-area-clause-high : goal.offset-requires-in-loop-area-clause-high
offset-requires-in-loop-area-clause-high c =
    let at = (goal.at.offset-requires-in-loop-area-clause-high c).After-area-item in
    let a = c.area-item.result in
    let n = near at in let f = from at in let b = c.requires.base in
    omega (
      arith,
      ints,
      word_kept a.y1 n.y1,
      word_kept c.args.base.y (base_within c.args.base.y b.below b.above),
      f.above,
      a.high,
    )

pub offset-requires-in-loop-area-2-clause-high : goal.offset-requires-in-loop-area-2-clause-high
offset-requires-in-loop-area-2-clause-high c =
    let at = (goal.at.offset-requires-in-loop-area-2-clause-high c).After-area-item in
    let a = c.area-item.result in
    let n = near at in let f = from at in
    omega (arith, ints, word_kept a.x1 n.x1, word_kept a.x2 n.x2, f.left, f.right)

pub offset-requires-in-loop-area-3-clause-high : goal.offset-requires-in-loop-area-3-clause-high
offset-requires-in-loop-area-3-clause-high c =
    let at = (goal.at.offset-requires-in-loop-area-3-clause-high c).After-area-item in
    let a = c.area-item.result in
    let n = near at in let f = from at in
    omega (arith, ints, word_kept a.y1 n.y1, word_kept a.y2 n.y2, f.below, f.above)

pub offset-requires-in-loop-area-3-clause-near : goal.offset-requires-in-loop-area-3-clause-near
offset-requires-in-loop-area-3-clause-near c =
    let n = near (goal.at.offset-requires-in-loop-area-3-clause-near c).After-area-item in
    rw (word_kept c.area-item.result.y1 n.y1) n.y1

pub loop-area-preserved : goal.loop-area-preserved
loop-area-preserved c =
    let at = (goal.at.loop-area-preserved c).After-area-item in
    let l = c.loop-area in
    let a : CellBox = c.area-item.result in
    let n = near at in
    let b = c.requires.base in
    let bx = word_kept c.args.base.x (base_within c.args.base.x b.left b.right) in
    let by' = word_kept c.args.base.y (base_within c.args.base.y b.below b.above) in
    let corner : ℕ × ℕ = (c.offset.result, c.offset-in-loop-area.result) in
    let reach : ℕ × ℕ = (c.offset-in-loop-area-2.result, c.offset-in-loop-area-3.result) in
    let x1 : c.args.base.x +ℤ pos c.offset.result ≡ a.x1 =
    omega (arith, ints, bx, word_kept a.x1 n.x1, c.offset.ensures) in
    let y1 : c.args.base.y +ℤ pos c.offset-in-loop-area.result ≡ a.y1 =
    omega (arith, ints, by', word_kept a.y1 n.y1, c.offset-in-loop-area.ensures) in
    let x2 : c.args.base.x +ℤ pos c.offset.result +ℤ pos c.offset-in-loop-area-2.result ≡ a.x2 =
    omega (arith, ints, x1, word_kept a.x1 n.x1, word_kept a.x2 n.x2, c.offset-in-loop-area-2.ensures) in
    let y2 : c.args.base.y +ℤ pos c.offset-in-loop-area.result +ℤ pos c.offset-in-loop-area-3.result ≡ a.y2 =
    omega (arith, ints, y1, word_kept a.y1 n.y1, word_kept a.y2 n.y2, c.offset-in-loop-area-3.ensures) in
    let its : box_with c.args.base corner reach ≡ a = same_box _ _ x1 y1 x2 y2 in
    let within : l.area-index < length c.args.list.now = omega arith in
    record {
      made = ap (λ cs. boxes_of c.args.base cs c.push-in-loop-area.new.self.items) c.in_ok-push.ensures.items
          ∙ ap (boxes_of c.args.base (l.corners.items ++ corner ∷ [])) c.in_ok-push-2.ensures.items
          ∙ boxes_of-more c.args.base l.corners.items l.reaches.items corner reach l.invariant.same
          ∙ ap (λ bs. bs ++ box_with c.args.base corner reach ∷ []) l.invariant.made
          ∙ ap (λ x. take l.area-index c.args.list.now ++ x ∷ []) (its ∙ c.area-item.is)
          ∙ sym (take_more c.args.list.now l.area-index a within);
      same = omega (
        arith,
        l.invariant.same,
        ap length c.in_ok-push.ensures.items,
        ap length c.in_ok-push-2.ensures.items,
        length-append l.corners.items (corner ∷ []),
        length-append l.reaches.items (reach ∷ []),
      );
    }

pub returns : goal.returns
returns c = grind (arith, common_steps)
