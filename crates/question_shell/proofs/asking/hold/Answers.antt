use Rattle.std.proofs.lemmas.Grind.{common_steps}
use Rattle.std.proofs.Common.{◌<◌, arith, length}
use Rattle.track_types.specs.declared.question.Question.TheVariants as question
use Rattle.question_shell.specs.Desk.{no_needs}
use Rattle.question_shell.specs.Session.{meaning_by}
use Rattle.question_shell.proofs.CountLemmas.{asked_kept}
use Rattle.question_shell.proofs.DeskLemmas.{needs-held, within-none}
use Rattle.question_shell.proofs.DrawingLemmas.{answer-hold}
use Rattle.question_shell.proofs.asking.hold.Goals as goal

pub returns-clause-ok : goal.returns-clause-ok
returns-clause-ok g c steps =
    let near = c.requires in
    let walk = c.in_ok-walk.walk in
    let inside : c.args.slot < length c.args.desk.now.view = omega (arith, near.0, c.is_held.ensures.places) in
    answer-hold g.A.Walk.Lazy.left g.A.Walk.Lazy.budget (meaning_by g.A.Answerer c.args.answerer) c.args.desk.now.view
    c.args.slot steps c.args.object c.args.from c.args.to (g.A.Walk.Lazy.left walk, g.A.Walk.Lazy.budget walk)
    c.hold.new.self.view inside (rw c.is_held.ensures.value at c.if-is_held.false) c.hold.ensures.view
    (simp (asked_kept c.args.from near.1, asked_kept c.args.to near.2) at c.in_ok-walk.ensures.left)
    (simp (asked_kept c.args.from near.1, asked_kept c.args.to near.2) at c.in_ok-walk.ensures.budget)

pub returns-clause-needs : goal.returns-clause-needs
returns-clause-needs g c =
    let near = c.requires in
    let these = g.A.Answerer.needs c.args.answerer (question.Path c.args.object c.args.from c.args.to) in
    record {
      own = within-none no_needs;
      desk = rw c.hold.ensures.walks
          (needs-held g.A.Walk.Lazy.needs these c.args.desk.now.walks c.args.slot c.in_ok-walk.walk
          (simp (asked_kept c.args.from near.1, asked_kept c.args.to near.2) at c.in_ok-walk.ensures.needs));
    }

pub returns-in_err-walk-clause-takes : goal.returns-in_err-walk-clause-takes
returns-in_err-walk-clause-takes g c = grind (arith, common_steps)
