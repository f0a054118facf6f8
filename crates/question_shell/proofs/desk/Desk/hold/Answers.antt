use Rattle.std.proofs.Common.{Some, ap}
use Rattle.question_shell.specs.Desk.{DeskState}
use Rattle.question_shell.proofs.DeskLemmas.{shown-set}
use Rattle.question_shell.proofs.desk.Desk.hold.Goals as goal

pub returns-clause-view : goal.returns-clause-view
returns-clause-view g c =
    shown-set (λ walk. (g.W.Lazy.left walk, g.W.Lazy.budget walk)) c.self.inside.places.items c.args.self.now.view
    c.args.slot (ap (λ (d : DeskState _). d.view) c.self.view_is) (Some c.args.walk)
