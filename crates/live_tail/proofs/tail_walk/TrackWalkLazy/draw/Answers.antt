use Rattle.std.proofs.Common.{map, ap, sym, ◌∙◌}
use Rattle.track_types.specs.ByFilter.{stop_of}
use Rattle.live_tail.proofs.tail_walk.TrackWalkLazy.draw.Goals as goal

pub returns-in-None-clause-found : goal.returns-in-None-clause-found
returns-in-None-clause-found g c = ap (map stop_of) c.in-None.ensures.none ∙ sym (ap (map stop_of) c.in-None.ensures.left)
