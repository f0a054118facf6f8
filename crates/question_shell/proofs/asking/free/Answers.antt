use Rattle.std.proofs.Common.{sym}
use Rattle.question_shell.specs.Desk.{no_needs}
use Rattle.question_shell.proofs.DeskLemmas.{needs-emptied, within-none}
use Rattle.question_shell.proofs.DrawingLemmas.{answer-empty, answer-freed}
use Rattle.question_shell.proofs.asking.free.Goals as goal

pub returns-in_default-clause-value : goal.returns-in_default-clause-value
returns-in_default-clause-value g c meaning steps =
    answer-empty g.W.Lazy.left g.W.Lazy.budget meaning c.args.desk.now.view c.args.slot steps c.release.new.self.view
    (sym c.in_default.ensures.walk) c.in_default.ensures.emptied

pub returns-in_default-clause-needs : goal.returns-in_default-clause-needs
returns-in_default-clause-needs g c needs = record {
  own = within-none no_needs;
  desk = rw c.in_default.ensures.walks (needs-emptied g.W.Lazy.needs c.args.desk.now.walks c.args.slot);
}

pub returns-clause-needs : goal.returns-clause-needs
returns-clause-needs g c needs = record {
  own = within-none no_needs;
  desk = rw c.in-Some.ensures.walks (needs-emptied g.W.Lazy.needs c.args.desk.now.walks c.args.slot);
}

pub returns-clause-value : goal.returns-clause-value
returns-clause-value g c meaning steps =
    answer-freed g.W.Lazy.left g.W.Lazy.budget meaning c.args.desk.now.view c.args.slot steps _ c.release.new.self.view
    (sym c.in-Some.ensures.walk) c.in-Some.ensures.emptied
