use Rattle.index_merge.proofs.UnionLemmas.{timely-none}
use Rattle.index_merge.proofs.extending.rows_of_tail.Goals as goal

pub returns-in-None-clause-timely : goal.returns-in-None-clause-timely
returns-in-None-clause-timely c = timely-none
