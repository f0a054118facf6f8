use Rattle.question_shell.specs.Desk.{held_of}
use Rattle.question_shell.proofs.DeskLemmas.{needs-refused}
use Rattle.question_shell.proofs.counting.count_found.Goals as goal

pub returns-in_err-answer-clause-needs : goal.returns-in_err-answer-clause-needs
returns-in_err-answer-clause-needs g c =
    rw c.in_err-answer.ensures.desk
    (needs-refused g.A.Walk.Lazy.needs (g.A.Answerer.needs c.args.answerer) (held_of c.args.desk.now.view)
    c.args.desk.now.walks c.args.question c.in_err-answer.ensures.takes)
