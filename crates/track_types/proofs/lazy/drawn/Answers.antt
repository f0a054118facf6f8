use Rattle.track_types.proofs.LazyLemmas.{drawn_along, drawn_runs}
use Rattle.track_types.proofs.lazy.drawn.Goals as goal

pub returns-clause-exact : goal.returns-clause-exact
returns-clause-exact g c = drawn_runs g.W.Lazy.left g.W.Lazy.budget g.W.Lazy.needs

pub returns-clause-cost : goal.returns-clause-cost
returns-clause-cost g c = drawn_along g.W.Lazy.left g.W.Lazy.budget g.W.Lazy.needs _
