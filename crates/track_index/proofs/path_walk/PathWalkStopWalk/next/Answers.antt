use Rattle.track_index.proofs.PastLemmas.{next-in_time}
use Rattle.track_index.proofs.path_walk.PathWalkStopWalk.next.Goals as goal

pub returns-clause-in_time : goal.returns-clause-in_time
returns-clause-in_time g c =
    next-in_time _ _ _ _ _ _ c.draw.ensures.cost c.draw.result _ _ c.draw.ensures.found c.draw.ensures.none
    c.draw.ensures.in_time
