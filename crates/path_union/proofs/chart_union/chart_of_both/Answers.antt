use Rattle.path_union.proofs.LawLemmas.{as_built}
use Rattle.path_union.proofs.chart_union.chart_of_both.Goals as goal

pub returns-in_err-rows-clause-as_built : goal.returns-in_err-rows-clause-as_built
returns-in_err-rows-clause-as_built g c =
    as_built c.args.frame.now.cell c.args.frame.now.tick (g.O.Paths.rows c.args.older) (g.P.Paths.rows c.args.later)

pub returns-clause-as_built : goal.returns-clause-as_built
returns-clause-as_built g c =
    as_built c.args.frame.now.cell c.args.frame.now.tick (g.O.Paths.rows c.args.older) (g.P.Paths.rows c.args.later)
