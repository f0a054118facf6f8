use Rattle.track_types.proofs.AskedLemmas.{IsRegionWithin-asked}
use Rattle.track_index.proofs.searching.near_region.Goals as goal

pub returns-clause-within : goal.returns-clause-within
returns-clause-within c = IsRegionWithin-asked c.args.region.now c.requires
