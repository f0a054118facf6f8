use Rattle.step_count.specs.Reads.{ofRule}
use Rattle.slice_search.proofs.sightings.push_group.Goals as goal

pub push_seen-requires-clause-may : goal.push_seen-requires-clause-may
push_seen-requires-clause-may g c = λ k d below rule is.
    c.requires.may (ofRule rule) (c.begin_all.ensures.opens k d below rule is)
