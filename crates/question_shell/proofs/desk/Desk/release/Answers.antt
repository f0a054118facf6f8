use Rattle.std.proofs.Common.{◌≡◌, ◌∙◌, ap, map, set, None}
use Rattle.std.specs.Prelude.{option_map}
use Rattle.question_shell.specs.Desk.{DeskState}
use Rattle.question_shell.proofs.DeskLemmas.{shown-set}
use Rattle.question_shell.proofs.desk.Desk.release.Goals as goal

pub returns-clause-emptied : goal.returns-clause-emptied
returns-clause-emptied g c =
    let places = c.self.inside.places.items in
    let emptied : c.take.new.self ≡ None = c.take.ensures.after in
    ap (λ place. map (option_map (λ walk. (g.W.Lazy.left walk, g.W.Lazy.budget walk))) (set places c.args.slot place)) emptied
    ∙ shown-set (λ walk. (g.W.Lazy.left walk, g.W.Lazy.budget walk)) places c.args.self.now.view c.args.slot
    (ap (λ (d : DeskState _). d.view) c.self.view_is) None
