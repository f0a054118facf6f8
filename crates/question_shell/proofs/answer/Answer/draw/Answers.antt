use Rattle.std.proofs.Common.{◌<◌, [], ◌∷◌, map, ap}
use Rattle.question_shell.specs.declared.item.Item.TheVariants as item
use Rattle.question_shell.proofs.DrawingLemmas.{gives-drawn, held-same}
use Rattle.question_shell.proofs.answer.Answer.draw.Goals as goal

pub returns-in_err-draw_more-in-More-clause-gives : goal.returns-in_err-draw_more-in-More-clause-gives
returns-in_err-draw_more-in-More-clause-gives g c =
    let arm = c.in-More in
    let below : arm.slot < 16 = rw arm.is at c.requires.slot in
    let drawn = c.in_err-draw_more-in-More.ensures in
    rw (arm.is, c.from_residual-in_err-draw_more-in-More.ensures)
    (gives-drawn g.W.Lazy.left g.W.Lazy.budget c.args.desk.now.view c.draw_more.new.desk.view arm.slot arm.count
    c.draw_more.new.count c.args.steps.now c.draw_more.new.steps [] below drawn.draws drawn.left drawn.found)

pub returns-in_err-draw_more-in-More-clause-none : goal.returns-in_err-draw_more-in-More-clause-none
returns-in_err-draw_more-in-More-clause-none g c =
    let drawn = c.in_err-draw_more-in-More.ensures in
    rw c.from_residual-in_err-draw_more-in-More.ensures (record {
      items = ap (map item.Stop) drawn.none;
      held = held-same g.W.Lazy.left g.W.Lazy.budget c.draw_more.new.desk.view c.in-More.slot c.draw_more.new.count
          drawn.none;
    })

pub returns-in_ok-draw_more-in-More-clause-gives : goal.returns-in_ok-draw_more-in-More-clause-gives
returns-in_ok-draw_more-in-More-clause-gives g c =
    let arm = c.in-More in
    let below : arm.slot < 16 = rw arm.is at c.requires.slot in
    let drawn = c.in_ok-draw_more-in-More.ensures in
    rw arm.is
    (gives-drawn g.W.Lazy.left g.W.Lazy.budget c.args.desk.now.view c.draw_more.new.desk.view arm.slot arm.count
    c.draw_more.new.count c.args.steps.now c.draw_more.new.steps (c.in_ok-draw_more-in-More.field-0 ∷ []) below
    drawn.draws drawn.left drawn.found)
