use Rattle.std.proofs.Common.{◌<◌, sym, subst}
use Rattle.track_types.specs.Frame.{periods_of}
use Rattle.track_types.specs.declared.parts.Parts.{Parts}
use Rattle.snapshots.specs.Parts.{rules_in, snapshot_in}
use Rattle.snapshots.specs.Stores.{join_of}
use Rattle.snapshots.specs.Tracks.{blocks_by_leaf}
use Rattle.snapshots.specs.TrackTree.{AreKept, IsKept, IsOfPeriod}
use Rattle.snapshots.proofs.TracksLemmas.{tracks-at}
use Rattle.snapshots.proofs.stores.Stores.kept.Goals as goal
use Rattle.snapshots.proofs.stores.Stores.kept.Goals.{After-index}

-- what is kept of the period
known : (c : After-index)
    → IsKept c.args.self.now.frame (rules_in c.args.self.now) (blocks_by_leaf (snapshot_in c.args.self.now c.args.period))
    c.index.result.now × IsOfPeriod c.args.period c.index.result.now
known c =
    let is = c.self.inside in
    let period = c.args.period in
    let parts : Parts = join_of is.frame is.objects is.rules is.snaps.items in
    let within = subst (λ (p : Parts). period < periods_of p.frame) (sym c.self.view_is) c.requires in
    subst (λ (p : Parts). IsKept p.frame (rules_in p) (blocks_by_leaf (snapshot_in p period)) c.index.result.now
    × IsOfPeriod period c.index.result.now) c.self.view_is
    (subst (λ kept. IsKept parts.frame (rules_in parts) (blocks_by_leaf (snapshot_in parts period)) kept × IsOfPeriod period kept)
    (sym c.index.ensures)
    (tracks-at parts is.rules is.snaps.items is.speeds.items is.tracks.items period c.index.result.now c.self.invariant within))

pub returns-in-None-clause-none : goal.returns-in-None-clause-none
returns-in-None-clause-none c =
    subst (IsKept c.args.self.now.frame (rules_in c.args.self.now)
    (blocks_by_leaf (snapshot_in c.args.self.now c.args.period))) c.in-None.is
    (known (goal.at.returns-in-None-clause-none c).After-index).0

pub returns-in-Some-clause-kept : goal.returns-in-Some-clause-kept
returns-in-Some-clause-kept c =
    let are = subst (IsKept c.args.self.now.frame (rules_in c.args.self.now)
    (blocks_by_leaf (snapshot_in c.args.self.now c.args.period))) c.in-Some.is
    (known (goal.at.returns-in-Some-clause-kept c).After-index).0 in
    subst (AreKept c.args.self.now.frame (rules_in c.args.self.now)
    (blocks_by_leaf (snapshot_in c.args.self.now c.args.period))) (sym c.deref.ensures) are

pub returns-in-Some-clause-period : goal.returns-in-Some-clause-period
returns-in-Some-clause-period c =
    rw c.deref.ensures (subst (IsOfPeriod c.args.period) c.in-Some.is
    (known (goal.at.returns-in-Some-clause-period c).After-index).1)
