use Rattle.std.proofs.Common.{List, ◌≡◌, filter, All, ap, sym, subst, ◌∙◌, arith}
use Rattle.std.proofs.lemmas.List.Elements.{All-filter}
use Rattle.snapshots.specs.Parts.{rules_in, snapshot_in}
use Rattle.snapshots.specs.Sound.{IsBlock, IsSnapshot}
use Rattle.snapshots.specs.Tracks.{blocks_by_leaf, may_hold}
use Rattle.snapshots.specs.TrackWalk.{blocks_budget, blocks_left}
use Rattle.snapshots.specs.View.{SnapshotView}
use Rattle.snapshots.specs.declared.anchored.Anchored.{Anchored}
use Rattle.snapshots.proofs.LeafOrderLemmas.{by_leaf-are, by_leaf-weighs}
use Rattle.snapshots.proofs.ReachLemmas.{IsSnapshot-valid}
use Rattle.snapshots.proofs.TrackLemmas.{on-tracks}
use Rattle.snapshots.proofs.TracksLemmas.{found-blocks, found-reads, tracks_budget-is, tracks_left-is}
use Rattle.snapshots.proofs.stores.Stores.tracks.Given.{Over}
use Rattle.snapshots.proofs.stores.Stores.tracks.Goals as goal
use Rattle.snapshots.proofs.stores.Stores.tracks.Goals.{After-kept}

-- the period's snapshot
snap : (g : Over) (c : After-kept g) → IsSnapshot (snapshot_in c.args.self.now c.args.period)
snap g c = IsSnapshot-valid c.args.self.now c.frame.ensures.valid c.args.period c.requires

-- blocks that may hold what is sought are the period's
sought : (g : Over) (c : After-kept g) (left : List Anchored)
    → left ≡ filter (may_hold (g.S.Search.squares c.args.search) (g.S.Search.boxes c.args.search) (rules_in c.args.self.now))
    (blocks_by_leaf (snapshot_in c.args.self.now c.args.period))
    → All (IsBlock (snapshot_in c.args.self.now c.args.period)) left
sought g c left is =
    let view : SnapshotView = snapshot_in c.args.self.now c.args.period in
    subst (All (IsBlock view)) (sym is)
    (All-filter (may_hold (g.S.Search.squares c.args.search) (g.S.Search.boxes c.args.search) (rules_in c.args.self.now))
    (IsBlock view) (blocks_by_leaf view) (by_leaf-are view (snap g c)))

pub returns-in-Some-clause-left : goal.returns-in-Some-clause-left
returns-in-Some-clause-left g c =
    let squares = g.S.Search.squares in
    let boxes = g.S.Search.boxes in
    tracks_left-is squares boxes c.new-in-Some.result ∙ ap (blocks_left squares boxes) c.new-in-Some.ensures
    ∙ c.new.ensures.left
    ∙ found-blocks (snapshot_in c.args.self.now c.args.period) (snap g (goal.at.returns-in-Some-clause-left g c).After-kept)
    (rules_in c.args.self.now) c.in-Some.kept.now c.in-Some.ensures.kept (squares c.args.search) (boxes c.args.search)

pub returns-in-Some-clause-blocks : goal.returns-in-Some-clause-blocks
returns-in-Some-clause-blocks g c =
    sought g (goal.at.returns-in-Some-clause-blocks g c).After-kept _ (returns-in-Some-clause-left g c)

pub returns-in-Some-clause-weights : goal.returns-in-Some-clause-weights
returns-in-Some-clause-weights g c =
    by_leaf-weighs (snapshot_in c.args.self.now c.args.period)
    (snap g (goal.at.returns-in-Some-clause-weights g c).After-kept)

pub returns-in-Some-clause-budget : goal.returns-in-Some-clause-budget
returns-in-Some-clause-budget g c =
    let squares = g.S.Search.squares in
    let boxes = g.S.Search.boxes in
    omega (
      arith,
      tracks_budget-is squares boxes c.new-in-Some.result,
      ap (blocks_budget squares boxes) c.new-in-Some.ensures,
      c.new.ensures.budget,
      found-reads (snapshot_in c.args.self.now c.args.period) (snap g (goal.at.returns-in-Some-clause-budget g c).After-kept)
          (rules_in c.args.self.now) c.in-Some.kept.now c.in-Some.ensures.kept (squares c.args.search) (boxes c.args.search),
    )

pub returns-in-Some-clause-on_tracks : goal.returns-in-Some-clause-on_tracks
returns-in-Some-clause-on_tracks g c = on-tracks c.args.self.now c.args.period

pub returns-in-Some-clause-needs : goal.returns-in-Some-clause-needs
returns-in-Some-clause-needs g c =
    rw (c.new-in-Some.ensures, c.new.ensures.kept, c.in-Some.ensures.period) (λ read needed. needed)

pub returns-in-None-clause-left : goal.returns-in-None-clause-left
returns-in-None-clause-left g c =
    let squares = g.S.Search.squares in
    let boxes = g.S.Search.boxes in
    tracks_left-is squares boxes c.new-in-None.result ∙ ap (blocks_left squares boxes) c.new-in-None.ensures
    ∙ sym (ap (filter (may_hold (squares c.args.search) (boxes c.args.search) (rules_in c.args.self.now)))
    c.in-None.ensures.none)

pub returns-in-None-clause-blocks : goal.returns-in-None-clause-blocks
returns-in-None-clause-blocks g c =
    sought g (goal.at.returns-in-None-clause-blocks g c).After-kept _ (returns-in-None-clause-left g c)

pub returns-in-None-clause-weights : goal.returns-in-None-clause-weights
returns-in-None-clause-weights g c =
    by_leaf-weighs (snapshot_in c.args.self.now c.args.period)
    (snap g (goal.at.returns-in-None-clause-weights g c).After-kept)

pub returns-in-None-clause-budget : goal.returns-in-None-clause-budget
returns-in-None-clause-budget g c =
    omega (
      arith,
      tracks_budget-is g.S.Search.squares g.S.Search.boxes c.new-in-None.result,
      ap (blocks_budget g.S.Search.squares g.S.Search.boxes) c.new-in-None.ensures,
    )

pub returns-in-None-clause-on_tracks : goal.returns-in-None-clause-on_tracks
returns-in-None-clause-on_tracks g c = on-tracks c.args.self.now c.args.period
