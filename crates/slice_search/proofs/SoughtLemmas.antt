-- What a walk by reach comes to: each block with a stop in the window and the region, within the reads of the squares and
-- the blocks within reach.
use Rattle.std.proofs.Common.{◌≡◌, ℕ, ◌+◌, ◌*◌, ◌<◌, ◌≤◌, ℤ, ◌≤ℤ◌, true, false, Bool, List, [], ◌∷◌, length, filter, All}
use Rattle.std.proofs.Common.{Option, None, Some, IfSome, inl, inr, get_or, refl, ap, sym, subst, ◌∙◌, arith}
use Rattle.std.specs.Prelude.{◌==◌, if◌then◌else◌, is_some}
use Rattle.std.specs.List.{list_any, range_with_len, sum_by, Contains}
use Rattle.std.proofs.Math.Nat.{mul-le-mul_left}
use Rattle.std.proofs.lemmas.Bool.{and_from, and_parts, cases_Bool, eq-eqb, or_parts}
use Rattle.std.proofs.lemmas.Int.{clamps, ints}
use Rattle.std.proofs.lemmas.List.Elements.{All-contains}
use Rattle.std.proofs.lemmas.List.Sums.{sum_by-cons}
use Rattle.list_laws.proofs.FilterLemmas.{filter_implied, sum_by-filter, sum_by-filter-le}
use Rattle.list_laws.proofs.MemberLemmas.{find-passes, member_of_filter, member_of_find}
use Rattle.list_laws.proofs.RangeLemmas.{All-from_filter_map}
use Rattle.list_laws.proofs.SumLemmas.{made_weight, sum_by-each, sum_by-filter_map, sum_by-range_some}
use Rattle.track_types.specs.Frame.{periods_of}
use Rattle.track_types.specs.Region.{in_box, in_region, intersects_region, is_between}
use Rattle.track_types.specs.declared.cell_box.CellBox.{CellBox}
use Rattle.track_types.specs.declared.parts.Parts.{Parts}
use Rattle.track_types.specs.declared.region.Region.{Region}
use Rattle.track_types.specs.declared.stop.Stop.{Stop}
use Rattle.track_types.proofs.RegionLemmas.{intersects_region-exact, is_between-bounds}
use Rattle.rule_store.specs.Log.{in_window}
use Rattle.log_cursor.specs.Touching.{first_hit_of}
use Rattle.k2_tree.specs.Pruning.{square_count}
use Rattle.k2_tree.specs.Tree.{IsTree}
use Rattle.k2_tree.proofs.KeptLemmas.{square_count-le}
use Rattle.snapshots.specs.Cost.{block_reads, square_reads}
use Rattle.snapshots.specs.Objects.{WeighSame}
use Rattle.snapshots.specs.Parts.{end_in, first_in, rules_in, snapshot_in, stops_in, stops_in_block, stops_of}
use Rattle.snapshots.specs.Sound.{IsBlock}
use Rattle.snapshots.specs.SoundParts.{IsValid}
use Rattle.log_bounds.specs.Bounds.{gap}
use Rattle.snapshots.specs.Speed.{speed_of, width_at, IsReached, IsWithinReach}
use Rattle.snapshots.specs.Tracks.{cell_box, may_hold, track_box, AreOnTracks, IsOnTrack}
use Rattle.snapshots.specs.View.{SnapshotView, all_blocks, block_of, tree_in}
use Rattle.snapshots.specs.declared.anchored.Anchored.{Anchored}
use Rattle.snapshots.proofs.ReachLemmas.{IsSnapshot-valid}
use Rattle.object_track.proofs.BlockLemmas.{block-known, IsPlaced-block}
use Rattle.object_track.proofs.StopsLemmas.{All-stops_in, IsStopIn}
use Rattle.slice_search.specs.Cost.{hit_cost, is_block_within_reach, is_within_reach, period_search_cost}
use Rattle.track_types.specs.Frame.{grid_of}
use Rattle.slice_search.specs.Reach.{may_reach_in}
use Rattle.slice_search.specs.Sought.{first_stop_in, has_stop_in, latest_in, log_reads, AreSought}
use Rattle.slice_search.proofs.ReachLemmas.{in_box-grid, may_reach-near, may_reach-uncut, IsWeaker-may_reach}

-- what passes a test weighs the same
WeighSame-filter : (p : Anchored → Bool) (blocks others : List Anchored) → WeighSame blocks others
    → WeighSame (filter p blocks) (filter p others)
unfolding WeighSame
WeighSame-filter p blocks others same weight =
    let kept = same (λ block. if p block then weight block else 0) in
    sum_by-filter weight p blocks ∙ kept ∙ sym (sum_by-filter weight p others)

-- a later instant is farther from the first one
gap-rises : (first early late : ℤ) → first ≤ℤ early → early ≤ℤ late → gap early first ≤ gap late first
gap-rises first early late begins rises = omega (arith, ints)

-- something that is there is there
is_some-holds : {X : Type 0} (found : Option X) → is_some found ≡ true → (x : X) × (found ≡ Some x)
is_some-holds None some = absurd (cc)
is_some-holds (Some x) some = (x, refl)

module _ (parts : Parts) (valid : IsValid parts) (number : ℕ) (within : number < periods_of parts.frame) where
  abbrev view : SnapshotView
  view = snapshot_in parts number

  -- what holds of all blocks holds of each
  pub All-block : (P : Anchored → Type 0) → All P (all_blocks view) → (block : Anchored) → IsBlock view block → P block
  unfolding all_blocks
  All-block P all block its =
      let known = block-known parts valid number within block its in
      subst (λ found. IfSome found P) its.its
      (All-from_filter_map P (block_of view) 0 (length parts.objects) all block.index (omega arith) (omega (arith, known)))

  -- the stops of a block are in its period
  stop-in : (block : Anchored) → IsBlock view block → (stop : Stop) → Contains (stops_of parts number block) stop
      → IsStopIn (first_in parts.frame number) (end_in parts.frame number) stop
  unfolding stops_in
  stop-in block its stop among =
      let In : Stop → Type 0 = IsStopIn (first_in parts.frame number) (end_in parts.frame number) in
      All-contains In (stops_of parts number block) stop
      (subst (λ found. All In (stops_in_block parts number found)) its.its
      (All-stops_in parts valid block.index number within)) among

  module _ (from to : ℤ) (region : Region) where
    abbrev has : Anchored → Bool
    has block = has_stop_in parts number from to region block

    abbrev latest : ℤ
    latest = latest_in parts.frame number to

    abbrev kept : CellBox → Bool
    kept area = may_reach_in parts number latest region area

    abbrev held : Anchored → Bool
    held block = may_hold kept (intersects_region region) (rules_in parts) block

    -- the first stop of a block is one of its stops, in the window and the region
    pub record IsFirstStop (block : Anchored) (stop : Stop) : Type 0 where
      pub among : Contains (stops_of parts number block) stop
      pub between : is_between from to stop.instant ≡ true
      pub inside : in_region region stop.cell ≡ true

    pub IsFirstStop-found : (block : Anchored) (stop : Stop)
        → first_stop_in parts number from to region block ≡ Some stop → IsFirstStop block stop
    unfolding first_stop_in first_hit_of in_window
    IsFirstStop-found block stop found =
        let stops : List Stop = stops_of parts number block in
        let test : Stop → Bool = λ s. in_region region s.cell in
        let window : Stop → Bool = λ s. is_between from to s.instant in
        let at = member_of_filter window stops stop (member_of_find test (filter window stops) stop found) in
        record { among = at.0; between = at.1; inside = find-passes test (filter window stops) stop found }

    -- it is within reach
    reached-first : IsWithinReach parts → (block : Anchored) → IsBlock view block → (stop : Stop) → IsFirstStop block stop
        → IsReached parts number block stop
    reached-first reached block its stop is =
        All-contains (IsReached parts number block) (stops_of parts number block) stop
        (All-block (λ b. All (IsReached parts number b) (stops_of parts number b)) (reached number within) block its) is.among

    -- so a region that has no cell of the grid has none of a block's stops
    pub first_stop-beside : IsWithinReach parts → intersects_region region (grid_of parts.frame) ≡ false
        → (block : Anchored) → IsBlock view block → first_stop_in parts number from to region block ≡ None
    first_stop-beside reached beside block its = by_stop (first_stop_in parts number from to region block) refl
      where
        by_stop : (found : Option Stop) → first_stop_in parts number from to region block ≡ found → found ≡ None
        by_stop None is = refl
        by_stop (Some stop) is =
            let first = IsFirstStop-found block stop is in
            let near = reached-first reached block its stop first in
            let touched : intersects_region region (grid_of parts.frame) ≡ true =
            (intersects_region-exact region (grid_of parts.frame)).1
            (stop.cell, in_box-grid parts.frame stop.cell near.inside, first.inside) in
            absurd (cc)

    module _ (reached : IsWithinReach parts) (tracks : AreOnTracks parts number) where
      -- a block with such a stop may hold what is sought
      has-held : (block : Anchored) → IsBlock view block → has block ≡ true → held block ≡ true
      has-held block its some =
          let found = is_some-holds (first_stop_in parts number from to region block) some in
          let stop : Stop = found.0 in
          let is = IsFirstStop-found block stop found.1 in
          let near = reached-first reached block its stop is in
          let on : in_box (track_box (rules_in parts) block) stop.cell ≡ true =
          All-contains (λ (s : Stop). in_box (track_box (rules_in parts) block) s.cell ≡ true)
          (stops_of parts number block) stop (All-block (IsOnTrack parts number) tracks block its) is.among in
          let its_stop = stop-in block its stop is.among in
          let place = IsPlaced-block parts valid number within block its in
          let window = is_between-bounds from to stop.instant is.between in
          let before : stop.instant ≤ℤ latest = omega (arith, ints, clamps, window.1, its_stop.below) in
          let wide : width_at parts number stop.instant ≤ width_at parts number latest =
          mul-le-mul_left (speed_of parts number)
          (gap-rises (first_in parts.frame number) stop.instant latest its_stop.above before) in
          and_from _ _ (may_reach-near region (grid_of parts.frame) (width_at parts number latest) block.cell stop.cell
          place.cell its_stop.near (in_box-grid parts.frame stop.cell near.inside) (omega (arith, near.column, wide))
          (omega (arith, near.line, wide)) is.inside)
          ((intersects_region-exact region (track_box (rules_in parts) block)).1 (stop.cell, on, is.inside))

    -- The blocks that may hold it are sought.
    module _ (blocks by_leaf : List Anchored) (left : blocks ≡ filter held by_leaf)
        (weights : WeighSame by_leaf (all_blocks view)) where
      pub AreSought-made : IsWithinReach parts → AreOnTracks parts number → All (IsBlock view) (all_blocks view)
          → All (IsBlock view) blocks → AreSought parts number from to region blocks
      AreSought-made reached tracks all are = record {
        are = are;
        wanted = subst (λ xs. WeighSame (filter has xs) (filter has (all_blocks view))) (sym left)
            (subst (WeighSame (filter has (filter held by_leaf)))
            (filter_implied has held (all_blocks view)
            (λ k d below. has-held reached tracks (get_or (all_blocks view) k d) (all k d below)))
            (WeighSame-filter has (filter held by_leaf) (filter held (all_blocks view))
            (WeighSame-filter held by_leaf (all_blocks view) weights)));
      }

      -- They are found, and their logs searched, within the cost of the period's search.
      pub sought-cost : (budget : ℕ)
          → budget ≤ square_reads * square_count kept (tree_in view)
          + block_reads * length (filter (λ block. kept (cell_box block.cell)) (all_blocks view))
          → budget + sum_by (log_reads parts number from to region) blocks
          ≤ period_search_cost parts number from to region latest
      unfolding WeighSame period_search_cost log_reads
      sought-cost budget most =
          let is : IsTree (tree_in view) = (IsSnapshot-valid parts valid number within).sound.tree.is_tree in
          let near : Anchored → Bool = λ block. kept (cell_box block.cell) in
          let reads : Anchored → ℕ = log_reads parts number from to region in
          let squares = square_count-le (tree_in view) is (is_within_reach parts number latest region) kept
          (IsWeaker-may_reach parts number latest region) in
          let moved : sum_by reads blocks ≡ sum_by reads (filter held (all_blocks view)) = ap (sum_by reads) left
          ∙ WeighSame-filter held by_leaf (all_blocks view) weights reads in
          let fewer = sum_by-filter-le held near reads (all_blocks view)
          (λ k d below holds. (and_parts (near (get_or (all_blocks view) k d))
          (intersects_region region (track_box (rules_in parts) (get_or (all_blocks view) k d))) holds).0) in
          let each = sum_by-each reads block_reads (filter near (all_blocks view)) in
          let less = sum_by-filter-le near (is_block_within_reach parts number latest region)
          (hit_cost parts number from to region) (all_blocks view)
          (λ k d below holds.
          may_reach-uncut region (grid_of parts.frame) _ (width_at parts number latest)
          (cell_box (get_or (all_blocks view) k d).cell) (omega arith) holds) in
          omega (arith, most, squares, moved, fewer, each, less)

    -- one for each block of an object
    abbrev weighs : ℕ → Anchored → ℕ
    weighs index block = if block.index == index then 1 else 0

    none-weighs : (index : ℕ) (blocks : List Anchored)
        → list_any (λ (block : Anchored). block.index == index) blocks ≡ false
        → sum_by (weighs index) (filter has blocks) ≡ 0
    none-weighs index [] missing = refl
    none-weighs index (block ∷ blocks) missing =
        let neither = or_parts (block.index == index) (list_any (λ (b : Anchored). b.index == index) blocks) missing in
        let rest = none-weighs index blocks neither.1 in
        let nothing : weighs index block ≡ 0 = rw neither.0 refl in
        elim (cases_Bool (has block)) [
          | inl some ↦
              rw some (omega (arith, sum_by-cons (weighs index) block (filter has blocks), rest, nothing))
          | inr none ↦ rw none rest
        ]

    -- each block with such a stop is come to
    pub sought-each : (blocks : List Anchored) → AreSought parts number from to region blocks
        → (block : Anchored) → IsBlock view block → has block ≡ true
        → list_any (λ (other : Anchored). other.index == block.index) blocks ≡ true
    unfolding WeighSame all_blocks
    sought-each blocks sought block its some =
        let one : Anchored → ℕ = weighs block.index in
        let kept_one : Anchored → ℕ = λ other. if has other then one other else 0 in
        elim (cases_Bool (list_any (λ (other : Anchored). other.index == block.index) blocks)) [
          | inl among ↦ among
          | inr missing ↦
              let none : sum_by one (filter has blocks) ≡ 0 = none-weighs block.index blocks missing in
              let same : sum_by one (filter has blocks) ≡ sum_by one (filter has (all_blocks view)) = sought.wanted one in
              let counted = sum_by-filter one has (all_blocks view)
              ∙ sum_by-filter_map kept_one (block_of view) (range_with_len 0 (length parts.objects)) in
              let own : (block.index == block.index) ≡ true = eq-eqb block.index block.index refl in
              let alone : kept_one block ≡ 1 = rw (some, own) refl in
              let here : made_weight kept_one (block_of view block.index) ≡ 1 = ap (made_weight kept_one) its.its ∙ alone in
              let within : block.index < length parts.objects = block-known parts valid number within block its in
              let least = sum_by-range_some (λ p. made_weight kept_one (block_of view p)) 0 (length parts.objects)
              block.index (omega arith) (omega (arith, within)) in
              absurd (omega (arith, none, same, counted, here, least))
        ]
