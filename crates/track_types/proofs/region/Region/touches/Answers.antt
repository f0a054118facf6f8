use Rattle.track_types.proofs.RegionLemmas.{intersects_region-exact}
use Rattle.track_types.proofs.region.Region.touches.Goals as goal

pub returns-clause-exact : goal.returns-clause-exact
returns-clause-exact c = rw c.intersects.ensures (intersects_region-exact c.args.self.now c.args.area.now)
