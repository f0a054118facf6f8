use Rattle.path_union.proofs.WalkLemmas.{merged-later, merged-older}
use Rattle.path_union.proofs.union_walk.first_of.Goals as goal

pub returns-in_default-None-clause-merged : goal.returns-in_default-None-clause-merged
returns-in_default-None-clause-merged c = λ laters olders none also.
    merged-later c.args.later c.args.older laters olders none also c.in_default-None.is-1

pub returns-in-None-default-clause-merged : goal.returns-in-None-default-clause-merged
returns-in-None-default-clause-merged c = λ laters olders none also.
    merged-older c.args.later c.args.older laters olders none also c.in-None-default.is-0
