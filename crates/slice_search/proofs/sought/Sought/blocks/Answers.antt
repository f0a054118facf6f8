use Rattle.std.proofs.Common.{◌≡◌, w64, to_z, of_z, arith, ap, ◌∙◌, List, filter, length, Bool}
use Rattle.std.proofs.lemmas.Int.{ints}
use Rattle.track_types.specs.Region.{intersects_region}
use Rattle.track_types.specs.declared.cell_box.CellBox.{CellBox}
use Rattle.track_types.specs.declared.frame.Frame.{Frame}
use Rattle.k2_tree.specs.Pruning.{square_count}
use Rattle.snapshots.specs.Parts.{rules_in, snapshot_in}
use Rattle.snapshots.specs.Tracks.{blocks_by_leaf, cell_box, may_hold}
use Rattle.snapshots.specs.View.{all_blocks, tree_in}
use Rattle.snapshots.specs.declared.anchored.Anchored.{Anchored}
use Rattle.snapshots.proofs.BlockFactsLemmas.{All-all_blocks}
use Rattle.snapshots.proofs.ReachLemmas.{within-reach, IsSnapshot-valid}
use Rattle.slice_search.specs.Reach.{may_reach, may_reach_in, short_width}
use Rattle.slice_search.specs.Sought.{latest_in}
use Rattle.slice_search.proofs.ReachLemmas.{may_reach-same}
use Rattle.slice_search.proofs.SoughtLemmas.{sought-cost, AreSought-made}
use Rattle.slice_search.proofs.sought.Sought.blocks.Given.{Over}
use Rattle.slice_search.proofs.sought.Sought.blocks.Goals as goal
use Rattle.slice_search.proofs.sought.Sought.blocks.Goals.{After-new-reach}

-- the test of squares is that of the reach at the last instant
squares_are : (g : Over) (c : After-new-reach g)
    → may_reach c.new-reach.result.test.now.region c.new-reach.result.grid c.new-reach.result.width
    ≡ may_reach_in c.args.self.now.stores.now c.args.self.now.period
    (latest_in c.args.self.now.stores.now.frame c.args.self.now.period c.args.self.now.to) c.args.self.now.test.now.region
squares_are g c =
    let self = c.args.self.now in
    let high : to_z w64 (of_z w64 self.to) ≡ self.to = omega (arith, ints) in
    let same : to_z w64 (of_z w64 c.latest_of-latest.result) ≡ c.latest_of-latest.result = omega (arith, ints) in
    let last : to_z w64 (of_z w64 c.latest_of-latest.result) ≡ latest_in self.stores.now.frame self.period self.to =
    same ∙ c.latest_of-latest.ensures
    ∙ ap (λ (f : Frame). latest_in f self.period (to_z w64 (of_z w64 self.to))) c.frame.ensures.value
    ∙ ap (latest_in self.stores.now.frame self.period) high in
    may_reach-same self.stores.now self.period (latest_in self.stores.now.frame self.period self.to) self.test.now.region _ _ _
    c.new-reach.ensures.region c.new-reach.ensures.grid
    (c.new-reach.ensures.width ∙ ap (short_width self.stores.now self.period) last)

-- the blocks that are left may hold what is sought
left_is : (g : Over) (c : After-new-reach g) → (left : List Anchored)
    → left ≡ filter (may_hold
    (may_reach c.new-reach.result.test.now.region c.new-reach.result.grid c.new-reach.result.width)
    (intersects_region c.new-reach.result.test.now.region) (rules_in c.args.self.now.stores.now))
    (blocks_by_leaf (snapshot_in c.args.self.now.stores.now c.args.self.now.period))
    → left ≡ filter (may_hold (may_reach_in c.args.self.now.stores.now c.args.self.now.period
    (latest_in c.args.self.now.stores.now.frame c.args.self.now.period c.args.self.now.to) c.args.self.now.test.now.region)
    (intersects_region c.args.self.now.test.now.region) (rules_in c.args.self.now.stores.now))
    (blocks_by_leaf (snapshot_in c.args.self.now.stores.now c.args.self.now.period))
left_is g c left is =
    let self = c.args.self.now in
    let all : List Anchored = blocks_by_leaf (snapshot_in self.stores.now self.period) in
    let kept : CellBox → Bool = may_reach_in self.stores.now self.period
    (latest_in self.stores.now.frame self.period self.to) self.test.now.region in
    is
    ∙ ap (λ (k : CellBox → Bool). filter (may_hold k (intersects_region c.new-reach.result.test.now.region)
    (rules_in self.stores.now)) all) (squares_are g c)
    ∙ ap (λ r. filter (may_hold kept (intersects_region r) (rules_in self.stores.now)) all) c.new-reach.ensures.region

pub returns-clause-sought : goal.returns-clause-sought
returns-clause-sought g c =
    let self = c.args.self.now in
    let at = (goal.at.returns-clause-sought g c).After-new-reach in
    let view = snapshot_in self.stores.now self.period in
    AreSought-made self.stores.now c.frame.ensures.valid self.period self.known self.from self.to self.test.now.region _
    (blocks_by_leaf view) (left_is g at _ c.tracks.ensures.left) c.tracks.ensures.weights
    (within-reach self.stores.now c.frame.ensures.valid) c.tracks.ensures.on_tracks
    (All-all_blocks view (IsSnapshot-valid self.stores.now c.frame.ensures.valid self.period self.known))
    c.tracks.ensures.blocks

pub returns-clause-cost : goal.returns-clause-cost
returns-clause-cost g c =
    let self = c.args.self.now in
    let at = (goal.at.returns-clause-cost g c).After-new-reach in
    let view = snapshot_in self.stores.now self.period in
    let kept : CellBox → Bool = may_reach_in self.stores.now self.period
    (latest_in self.stores.now.frame self.period self.to) self.test.now.region in
    sought-cost self.stores.now c.frame.ensures.valid self.period self.known self.from self.to self.test.now.region _
    (blocks_by_leaf view) (left_is g at _ c.tracks.ensures.left) c.tracks.ensures.weights _
    (omega (
      arith,
      c.tracks.ensures.budget,
      ap (λ (k : CellBox → Bool). square_count k (tree_in view)) (squares_are g at),
      ap (λ (k : CellBox → Bool). length (filter (λ (block : Anchored). k (cell_box block.cell)) (all_blocks view)))
          (squares_are g at),
    ))
