use Rattle.index_merge.proofs.RowsLemmas.{cost_from-first, rows_from-first}
use Rattle.index_merge.proofs.UnionLemmas.{timely-index}
use Rattle.index_merge.proofs.index_paths.IndexPaths.of.Goals as goal

pub returns-clause-rows : goal.returns-clause-rows
returns-clause-rows c = rows_from-first c.args.index.now

pub returns-clause-timely : goal.returns-clause-timely
returns-clause-timely c = timely-index c.args.index.now c.stores.ensures.valid

pub returns-clause-budget : goal.returns-clause-budget
returns-clause-budget c = cost_from-first c.args.index.now
