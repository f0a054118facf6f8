use Rattle.track_types.proofs.RegionLemmas.{intersects_region-exact}
use Rattle.region_test.proofs.region_test.RegionTest.may.Goals as goal

pub returns-clause-exact : goal.returns-clause-exact
returns-clause-exact g c =
    rw c.ask_box.ensures (intersects_region-exact c.args.self.now.region c.args.area.now)
