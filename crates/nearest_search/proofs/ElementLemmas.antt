-- What waits is no nearer than its key, and its key is no less than the distance to the reach of its square.
use Rattle.std.proofs.Common.{◌≡◌, ℕ, ◌^◌, ◌<◌, ◌≤◌, ℤ, pos, ◌+ℤ◌, Bool, true, List, []}
use Rattle.std.proofs.Common.{length, filter, All, Option, None, Some, get_or, max, refl, sym, subst, ◌∙◌, ap, arith, inl, inr}
use Rattle.std.specs.Prelude.{IfSome, nat_le, slice_index}
use Rattle.std.specs.Int.{int_max, int_min}
use Rattle.std.specs.List.{Contains}
use Rattle.std.proofs.Math.Nat.{pow-le-pow_right}
use Rattle.std.proofs.lemmas.Bool.{cases_Bool}
use Rattle.std.proofs.lemmas.Bool.Decides.{nat_tests, Decides-int_eq}
use Rattle.std.proofs.lemmas.Int.{clamps, ints}
use Rattle.std.proofs.lemmas.List.Elements.{All-contains, All-contains_itself, All-cons, All-nil, All-weaker}
use Rattle.list_laws.proofs.MemberLemmas.{no_member, Contains-filter}
use Rattle.track_types.specs.declared.limit.TheConstants.{MAX_HEIGHT}
use Rattle.track_types.specs.Region.{in_box, squared_distance}
use Rattle.track_types.specs.Widening.{widened}
use Rattle.track_types.specs.declared.cell.Cell.{Cell}
use Rattle.track_types.specs.declared.cell_box.CellBox.{CellBox}
use Rattle.track_types.specs.declared.near.Near.{Near}
use Rattle.track_types.specs.declared.stop.Stop.{Stop}
use Rattle.track_types.proofs.RegionLemmas.{in_box-bounds}
use Rattle.k2_tree.specs.Areas.{area_at, IsBoxInside}
use Rattle.k2_tree.specs.Squares.{node}
use Rattle.box_tree.specs.Boxes.{IsBase}
use Rattle.box_tree.specs.Levels.{digits}
use Rattle.box_tree.specs.Places.{ArePassed, ArePlaces, box_at, place_passes, square_places}
use Rattle.box_tree.specs.Tests.{AreMonotone, Tests, tests_at}
use Rattle.box_tree.specs.Tree.{IsNodeOf, TreeView, levels_of, node_at, node_square, node_prefix}
use Rattle.box_tree.specs.declared.node_ref.NodeRef.{NodeRef}
use Rattle.box_tree.proofs.MonotoneLemmas.{passed-areas}
use Rattle.box_tree.proofs.NearerLemmas.{nearest-wider}
use Rattle.box_tree.proofs.NodeLemmas.{skipped-square}
use Rattle.log_cursor.specs.Seek.{is_stop_at}
use Rattle.rule_store.specs.View.{RulesView}
use Rattle.snapshots.specs.Parts.{rules_in, snapshot_in, stops_of}
use Rattle.snapshots.specs.Sound.{IsBlock, IsSnapshot}
use Rattle.log_bounds.specs.Bounds.{gap}
use Rattle.snapshots.specs.Speed.{reach_of, width_at, IsReached}
use Rattle.snapshots.specs.TrackWalk.{block_kept}
use Rattle.snapshots.specs.Tracks.{blocks_by_leaf, cell_box, track_box, IsOnTrack}
use Rattle.snapshots.specs.View.{SnapshotView}
use Rattle.snapshots.specs.declared.anchored.Anchored.{Anchored}
use Rattle.snapshots.proofs.KeptLemmas.{All-by_leaf, are_places}
use Rattle.snapshots.proofs.LeafOrderLemmas.{by_leaf-are}
use Rattle.snapshots.proofs.ReachLemmas.{within-reach, IsSnapshot-valid}
use Rattle.snapshots.proofs.TrackLemmas.{on-tracks}
use Rattle.snapshots.proofs.TracksLemmas.{count_is, kept-at, IsKeptAt}
use Rattle.nearest_search.specs.Cost.{box_dist2}
use Rattle.nearest_search.specs.Found.{near_in}
use Rattle.nearest_search.specs.Vantage.{queue_key, width_in_64_bits}
use Rattle.nearest_search.specs.Seeking.{Quest, IsElement, IsQuest, near_at, quest_tree}
use Rattle.nearest_search.specs.declared.waiting.Element.{Element}
use Rattle.nearest_search.specs.declared.waiting.Waiting.TheVariants.{Node as AtNode, Place as AtPlace}
use Rattle.nearest_search.proofs.FoundLemmas.{near-by}
use Rattle.box_tree.proofs.PlacesLemmas.{run-within}

-- a cell in a box is no nearer than the box
dist-inside : (cell other : Cell) (area : CellBox) → IsBoxInside (cell_box other) area
    → box_dist2 cell area ≤ squared_distance cell other
dist-inside cell other area inside =
    let own : (a z : ℤ) → int_max a (int_min z (a +ℤ pos 0)) ≡ a = λ a z. omega (arith, ints, clamps) in
    let same : box_dist2 cell (cell_box other) ≡ squared_distance cell other =
    rw (own other.x cell.x, own other.y cell.y) refl in
    let most : box_dist2 cell area ≤ box_dist2 cell (cell_box other) = nearest-wider cell (cell_box other) area inside in
    omega (arith, same, most)

-- a box within another stays so where both are made wider, the outer one by no less
widened-inside : (less more : ℕ) (inner outer : CellBox) → less ≤ more → IsBoxInside inner outer
    → IsBoxInside (widened less inner) (widened more outer)
widened-inside less more inner outer wide inside = record {
  left = omega (arith, ints, inside.left);
  right = omega (arith, ints, inside.right);
  below = omega (arith, ints, inside.below);
  above = omega (arith, ints, inside.above);
}

-- what holds of all that may be there holds of what is
IfSome-from : (P : Near → Type 0) (o : Option Near) → ((near : Near) → o ≡ Some near → P near) → IfSome o P
IfSome-from P None each = tt
IfSome-from P (Some near) each = each near refl

module _ (quest : Quest) (is : IsQuest quest) where
  abbrev view : SnapshotView
  view = snapshot_in quest.parts quest.number

  abbrev rules : RulesView
  rules = rules_in quest.parts

  abbrev short : ℕ
  short = width_in_64_bits quest.parts quest.number quest.instant

  abbrev tree : TreeView
  tree = quest_tree quest

  pub snap : IsSnapshot view
  snap = IsSnapshot-valid quest.parts is.valid quest.number is.within

  abbrev block_at : ℕ → Anchored
  block_at place = get_or (blocks_by_leaf view) place (block_kept quest.kept place)

  -- a place is one of the blocks
  is-block-at : (place : ℕ) → place < length tree.places.codes → place < length (blocks_by_leaf view)
  is-block-at place within = omega (arith, within, count_is view snap rules quest.kept is.kept)

  at-block : (place : ℕ) → place < length tree.places.codes
      → IsKeptAt view snap rules quest.kept is.kept place (block_at place)
  at-block place within =
      kept-at view snap rules quest.kept is.kept place (block_kept quest.kept place) (is-block-at place within)

  pub kept-block : (place : ℕ) → place < length tree.places.codes → IsBlock view (block_kept quest.kept place)
  kept-block place within =
      subst (IsBlock view) (sym (at-block place within).same)
      (by_leaf-are view snap place (block_kept quest.kept place) (is-block-at place within))

  pub are-places : ArePlaces tree.places
  are-places = subst ArePlaces (sym is.kept.places) (are_places view snap rules)

  pub is-base : IsBase tree.base
  is-base =
      let frame = quest.parts.frame in
      let near = is.valid.shaped.header in
      subst IsBase (sym is.kept.base) (record {
        left = omega (arith, ints, near.columns.low);
        right = omega (arith, ints, near.columns.high);
        below = omega (arith, ints, near.lines.low);
        above = omega (arith, ints, near.lines.high);
      })

  -- the object of a place is in the box of its track, and within reach of its anchor
  record IsFar (place : ℕ) (near : Near) : Type 0 where
    pub box : box_dist2 quest.cell (box_at tree.places.boxes place) ≤ near.dist2
    pub reach : box_dist2 quest.cell (widened short (area_at tree.base (node 0 (slice_index tree.places.codes place))))
        ≤ near.dist2

  far-by : (block : Anchored) (near : Near) (stop : Stop) → IsBlock view block → IsReached quest.parts quest.number block stop
      → is_stop_at quest.instant stop ≡ true
      → IsBoxInside (cell_box stop.cell) (widened short (cell_box block.cell))
  far-by block near stop its reached at =
      let same : quest.instant ≡ stop.instant = (Decides-int_eq quest.instant stop.instant).0 at in
      let header = is.valid.shaped.header in
      let side : 2 ^ quest.parts.frame.height ≤ 2 ^ MAX_HEIGHT = pow-le-pow_right (omega arith) header.limit in
      let width : width_at quest.parts quest.number stop.instant ≡ width_at quest.parts quest.number quest.instant =
      ap (width_at quest.parts quest.number) (sym same) in
      let across : gap stop.cell.x block.cell.x ≤ short =
      omega (arith, ints, reached.column, width, side, its.cell.left, its.cell.right, reached.inside.left, reached.inside.right) in
      let along : gap stop.cell.y block.cell.y ≤ short =
      omega (arith, ints, reached.line, width, side, its.cell.below, its.cell.above, reached.inside.below, reached.inside.above) in
      record {
        left = omega (arith, ints, across);
        right = omega (arith, ints, across);
        below = omega (arith, ints, along);
        above = omega (arith, ints, along);
      }

  near-far : (place : ℕ) (near : Near) → place < length tree.places.codes → near_at quest place ≡ Some near → IsFar place near
  near-far place near within found =
      let at = at-block place within in
      let block : Anchored = block_at place in
      let d : Anchored = block_kept quest.kept place in
      let inside = is-block-at place within in
      let by = near-by quest.parts is.valid quest.number is.within quest.instant quest.cell block near
      (ap (near_in quest.parts quest.number quest.instant quest.cell) (sym at.same) ∙ found) in
      let stop : Stop = by.stop in
      let stops : List Stop = stops_of quest.parts quest.number block in
      let reached = All-contains (IsReached quest.parts quest.number block) stops stop
      (All-by_leaf view snap (λ b. All (IsReached quest.parts quest.number b) (stops_of quest.parts quest.number b))
      (within-reach quest.parts is.valid quest.number is.within) place d inside) by.among in
      let on : in_box (track_box rules block) stop.cell ≡ true =
      All-contains (λ (s : Stop). in_box (track_box rules block) s.cell ≡ true) stops stop
      (All-by_leaf view snap (IsOnTrack quest.parts quest.number) (on-tracks quest.parts quest.number) place d inside)
      by.among in
      let bounds = in_box-bounds (track_box rules block) stop.cell on in
      let held : IsBoxInside (cell_box stop.cell) (track_box rules block) = record {
        left = bounds.left;
        right = omega (arith, ints, bounds.right);
        below = bounds.below;
        above = omega (arith, ints, bounds.above);
      } in
      let far : squared_distance quest.cell stop.cell ≡ near.dist2 = ap (λ (n : Near). n.dist2) by.is in
      let reach = far-by block near stop (by_leaf-are view snap place d inside) reached by.at in
      let box_most = dist-inside quest.cell stop.cell (track_box rules block) held in
      let reach_most = dist-inside quest.cell stop.cell (widened short (cell_box block.cell)) reach in
      record {
        box = omega (arith, box_most, far, ap (box_dist2 quest.cell) at.box);
        reach = omega (arith, reach_most, far, ap (λ area. box_dist2 quest.cell (widened short area)) at.area);
      }

  -- the reach is no farther than its part of 64 bits
  reach-short : (area : CellBox)
      → box_dist2 quest.cell (reach_of quest.parts quest.number quest.instant area) ≤ box_dist2 quest.cell (widened short area)
  reach-short area =
      nearest-wider quest.cell (widened short area) (reach_of quest.parts quest.number quest.instant area)
      (widened-inside short (width_at quest.parts quest.number quest.instant) area area (omega arith) (record {
        left = omega (arith, ints);
        right = omega (arith, ints);
        below = omega (arith, ints);
        above = omega (arith, ints);
      }))

  module _ (ref : NodeRef) (of : IsNodeOf tree ref) where
    abbrev run : List ℕ
    run = square_places tree.places (node_square tree.narrow ref)

    abbrev square_of : CellBox
    square_of = area_at tree.base (node_at ref)

    -- the reach of a node's square is no farther than what is in it
    square-far : (place : ℕ) (near : Near) → Contains run place → near_at quest place ≡ Some near
        → box_dist2 quest.cell (widened short square_of) ≤ near.dist2
    unfolding place_passes
    square-far place near inside found =
        let within = run-within tree.places.codes (digits (levels_of tree.narrow ref)) (node_prefix ref) place inside in
        let far = near-far place near within found in
        let test : CellBox → Bool = λ a. nat_le (box_dist2 quest.cell (widened short a)) near.dist2 in
        let tests : Tests = tests_at tree.base test (λ _. true) in
        let mono : AreMonotone test (λ _. true) = record {
          squares = λ inner outer within holds.
              let most = nearest-wider quest.cell (widened short inner) (widened short outer)
              (widened-inside short short inner outer (omega arith) within) in
              grind (arith, nat_tests, most);
          boxes = λ inner outer within holds. refl;
        } in
        let passed : ArePassed tests = passed-areas tree.base is-base test (λ _. true) mono in
        let its_cell : test (area_at tree.base (node 0 (slice_index tree.places.codes place))) ≡ true =
        grind (arith, nat_tests, far.reach) in
        elim (cases_Bool (test (area_at tree.base (node_at ref)))) [
          | inl holds ↦
              grind (arith, nat_tests, holds)
          | inr fails ↦
              let none : filter (place_passes tests tree.places) run ≡ [] =
              skipped-square tests passed tree.places (digits (levels_of tree.narrow ref)) (node_prefix ref)
              (omega (arith, of.level, of.deep)) are-places
              (ap (λ n. test (area_at tree.base (node n (node_prefix ref)))) of.level ∙ fails) in
              no_member place (subst (λ xs. Contains xs place) none
              (Contains-filter (place_passes tests tree.places) run place its_cell inside))
        ]

    -- a node may wait by what is within reach of its square alone
    abbrev pub alone_of : Element
    alone_of = record { key = box_dist2 quest.cell (widened short square_of); waiting = AtNode ref }

    pub alone-element : IsElement quest alone_of
    alone-element = record {
      of = of;
      near = All-weaker (Contains run)
          (λ p. IfSome (near_at quest p) (λ (near : Near). box_dist2 quest.cell (widened short square_of) ≤ near.dist2))
          (λ place inside. IfSome-from (λ near. box_dist2 quest.cell (widened short square_of) ≤ near.dist2)
          (near_at quest place) (λ near found. square-far place near inside found))
          run (All-contains_itself run);
      reach = reach-short square_of;
    }

  module _ (key width : ℕ) (area square : CellBox) (its : key ≡ queue_key quest.cell width area square)
      (wide : width ≡ short) where
    keyed : key ≡ max (box_dist2 quest.cell area) (box_dist2 quest.cell (widened short square))
    unfolding queue_key
    keyed = its ∙ ap (λ w. max (box_dist2 quest.cell area) (box_dist2 quest.cell (widened w square))) wide

    -- a place waits
    pub place-element : (place : ℕ) → place < length tree.places.codes → box_at tree.places.boxes place ≡ area
        → square ≡ area_at tree.base (node 0 (slice_index tree.places.codes place))
        → IsElement quest (record { key = key; waiting = AtPlace place })
    place-element place within box cell = record {
      of = within;
      near = All-cons (λ p. IfSome (near_at quest p) (λ (near : Near). key ≤ near.dist2)) place []
          (IfSome-from (λ near. key ≤ near.dist2) (near_at quest place) (λ near found.
          let far = near-far place near within found in
          omega (
            arith,
            keyed,
            far.box,
            far.reach,
            ap (box_dist2 quest.cell) box,
            ap (λ a. box_dist2 quest.cell (widened short a)) cell,
          )))
          (All-nil (λ p. IfSome (near_at quest p) (λ (near : Near). key ≤ near.dist2)));
      reach = omega (
        arith,
        keyed,
        reach-short square,
        ap (λ a. box_dist2 quest.cell (reach_of quest.parts quest.number quest.instant a)) cell,
      );
    }

    module _ (ref : NodeRef) (of : IsNodeOf tree ref) (at : square ≡ area_at tree.base (node_at ref)) where
      abbrev run_at : List ℕ
      run_at = square_places tree.places (node_square tree.narrow ref)

      -- a node waits
      pub node-element : All (λ place. IsBoxInside (box_at tree.places.boxes place) area) run_at
          → IsElement quest (record { key = key; waiting = AtNode ref })
      node-element covers = record {
        of = of;
        near = All-weaker (Contains run_at) (λ p. IfSome (near_at quest p) (λ (near : Near). key ≤ near.dist2))
            (λ place inside. IfSome-from (λ near. key ≤ near.dist2) (near_at quest place) (λ near found.
            let within = run-within tree.places.codes (digits (levels_of tree.narrow ref)) (node_prefix ref) place inside in
            let far = near-far place near within found in
            let held = All-contains (λ p. IsBoxInside (box_at tree.places.boxes p) area) run_at place covers inside in
            let most = nearest-wider quest.cell (box_at tree.places.boxes place) area held in
            omega (
              arith,
              keyed,
              far.box,
              most,
              square-far ref of place near inside found,
              ap (λ a. box_dist2 quest.cell (widened short a)) at,
            )))
            run_at (All-contains_itself run_at);
        reach = omega (
          arith,
          keyed,
          reach-short square,
          ap (λ a. box_dist2 quest.cell (reach_of quest.parts quest.number quest.instant a)) at,
        );
      }
