-- What a walk over the kept blocks of a period gives, and what it reads.
use Rattle.std.proofs.Common.{◌≡◌, ℕ, ◌+◌, ◌*◌, ◌^◌, ◌<◌, ◌≤◌, ◌&&◌, pos, ◌+ℤ◌, Bool, List, length, get_or, map, filter, Option, None, refl, ap, sym, subst, ◌∙◌, arith, mul-le-mul_right}
use Rattle.std.specs.Prelude.{slice_index, if◌then◌else◌}
use Rattle.std.specs.List.{range_with_len}
use Rattle.std.proofs.lemmas.List.{get_or_default, get_or-map, length-map, same_lists}
use Rattle.std.proofs.lemmas.List.FromFn.{get_or-map-range_with_len, length-map-range_with_len}
use Rattle.list_laws.proofs.FilterLemmas.{sum_by_if}
use Rattle.list_laws.proofs.KeyedLemmas.{filter_alike, member_of_range}
use Rattle.list_laws.proofs.MapLemmas.{filter-map}
use Rattle.list_laws.proofs.SumLemmas.{sum_by-each, sum_by-zeros}
use Rattle.track_types.specs.declared.cell.Cell.{Cell}
use Rattle.track_types.specs.declared.cell_box.CellBox.{CellBox}
use Rattle.track_types.specs.declared.frame.Frame.{Frame}
use Rattle.track_types.specs.declared.limit.TheConstants.{MAX_HEIGHT}
use Rattle.track_types.proofs.BoxLemmas.{same_box}
use Rattle.k2_tree.specs.Areas.{area_at}
use Rattle.k2_tree.specs.Morton.{cell_of, morton_column, morton_of, morton_row, IsInGrid}
use Rattle.k2_tree.specs.Pruning.{square_count}
use Rattle.k2_tree.specs.Squares.{node}
use Rattle.k2_tree.proofs.MortonLemmas.{cell_of-morton_of, highest, morton_of-lt}
use Rattle.box_tree.specs.BoxWalk.{found_places, search_reads}
use Rattle.box_tree.specs.Cost.{opened_square_reads}
use Rattle.box_tree.specs.Places.{Places, all_places, box_at, cell_passes, no_box, place_passes}
use Rattle.box_tree.specs.Places.{held_square_count}
use Rattle.box_tree.specs.Tests.{squares_at, tests_at}
use Rattle.box_tree.proofs.BridgeLemmas.{held_square_count-tree}
use Rattle.box_tree.proofs.CostLemmas.{search-pays}
use Rattle.rule_store.specs.View.{RulesView}
use Rattle.snapshots.specs.Cost.{block_reads, record_reads, square_reads}
use Rattle.snapshots.specs.Objects.{WeighSame}
use Rattle.snapshots.specs.Sound.{IsSnapshot}
use Rattle.snapshots.specs.Tracks.{blocks_by_leaf, cell_box, may_hold, track_box}
use Rattle.track_types.specs.Frame.{periods_of}
use Rattle.track_types.specs.declared.parts.Parts.{Parts}
use Rattle.std.specs.Global.{Box}
use Rattle.std.proofs.Math.Bool.{and_comm}
use Rattle.snapshots.specs.Parts.{rules_in, snapshot_in}
use Rattle.snapshots.specs.Stores.{AreStores}
use Rattle.snapshots.specs.TrackTree.{begin_of, morton_of_block, length_and_index, AreKept, IsKept, IsOfPeriod}
use Rattle.snapshots.specs.TrackWalk.{block_kept, corner_of, tracks_budget, tracks_left, blocks_budget, blocks_left}
use Rattle.snapshots.specs.declared.tracks.Tracks.{Tracks}
use Rattle.snapshots.specs.View.{SnapshotView, all_blocks, block_at, tree_in}
use Rattle.snapshots.specs.declared.anchored.Anchored.{Anchored}
use Rattle.snapshots.specs.declared.track_tree.TrackTree.{TrackTree}
use Rattle.snapshots.proofs.BlockLemmas.{same_block}
use Rattle.snapshots.proofs.KeptLemmas.{by_leaf-inside, length-by_leaf, same_codes}
use Rattle.snapshots.proofs.LeafOrderLemmas.{by_leaf-weighs}

-- the square of one cell is the cell's box
area_at-code : (height : ℕ) (base cell : Cell) → height ≤ MAX_HEIGHT → IsInGrid height base cell
    → area_at base (node 0 (morton_of height base cell)) ≡ cell_box cell
unfolding cell_of
area_at-code height base cell low inside =
    let code : ℕ = morton_of height base cell in
    let ends = highest height code low (morton_of-lt height base cell) in
    let back = cell_of-morton_of height base cell inside in
    let across : morton_column MAX_HEIGHT code * 2 ^ 0 ≡ morton_column height code = omega (arith, ends.1) in
    let up : morton_row MAX_HEIGHT code * 2 ^ 0 ≡ morton_row height code = omega (arith, ends.0) in
    let x : base.x +ℤ pos (morton_column height code) ≡ cell.x = ap (λ (c : Cell). c.x) back in
    let y : base.y +ℤ pos (morton_row height code) ≡ cell.y = ap (λ (c : Cell). c.y) back in
    let x1 : base.x +ℤ pos (morton_column MAX_HEIGHT code * 2 ^ 0) ≡ cell.x = ap (λ k. base.x +ℤ pos k) across ∙ x in
    let y1 : base.y +ℤ pos (morton_row MAX_HEIGHT code * 2 ^ 0) ≡ cell.y = ap (λ k. base.y +ℤ pos k) up ∙ y in
    same_box (area_at base (node 0 code)) (cell_box cell) x1 y1 (ap (λ z. z +ℤ pos 0) x1) (ap (λ z. z +ℤ pos 0) y1)

-- as many of the same blocks pass a test
length-weighs : (p : Anchored → Bool) (xs ys : List Anchored) → WeighSame xs ys
    → length (filter p xs) ≡ length (filter p ys)
unfolding WeighSame
length-weighs p xs ys same = omega (arith, sum_by_if 1 p xs, sum_by_if 1 p ys, same (λ b. if p b then 1 else 0))

module _ (view : SnapshotView) (is : IsSnapshot view) (rules : RulesView) (kept : TrackTree)
    (are : AreKept view.frame rules (blocks_by_leaf view) kept) where
  -- what is kept at a place is the block there
  pub record IsKeptAt (k : ℕ) (block : Anchored) : Type 0 where
    pub box : box_at kept.tree.places.boxes k ≡ track_box rules block
    pub area : area_at kept.tree.base (node 0 (slice_index kept.tree.places.codes k)) ≡ cell_box block.cell
    pub same : block_kept kept k ≡ block

  pub kept-at : (k : ℕ) (d : Anchored) → k < length (blocks_by_leaf view) → IsKeptAt k (get_or (blocks_by_leaf view) k d)
  kept-at k d within =
      let frame : Frame = view.frame in
      let blocks : List Anchored = blocks_by_leaf view in
      let block : Anchored = get_or blocks k d in
      let area : area_at kept.tree.base (node 0 (slice_index kept.tree.places.codes k)) ≡ cell_box block.cell =
      ap (λ b. area_at b (node 0 (slice_index kept.tree.places.codes k))) are.base
      ∙ ap (λ (p : Places). area_at frame.base (node 0 (slice_index p.codes k))) are.places
      ∙ ap (λ c. area_at frame.base (node 0 c)) (get_or-map (morton_of_block frame) blocks k d 0 within)
      ∙ area_at-code frame.height frame.base block.cell is.shaped.header.limit (by_leaf-inside view is k d within) in
      let begin : get_or kept.begins k (0, 0) ≡ begin_of block =
      ap (λ (xs : List (ℕ × ℕ)). get_or xs k (0, 0)) are.begins ∙ get_or-map begin_of blocks k d (0, 0) within in
      let log : get_or kept.logs k (0, 0) ≡ length_and_index block =
      ap (λ (xs : List (ℕ × ℕ)). get_or xs k (0, 0)) are.logs ∙ get_or-map length_and_index blocks k d (0, 0) within in
      record {
        box = ap (λ (p : Places). box_at p.boxes k) are.places ∙ get_or-map (track_box rules) blocks k d no_box within;
        area = area;
        same = same_block (block_kept kept k) block (ap (λ (p : ℕ × ℕ). p.1) log) (ap (λ (p : ℕ × ℕ). p.0) begin)
            (ap corner_of area) (ap (λ (p : ℕ × ℕ). p.1) begin) (ap (λ (p : ℕ × ℕ). p.0) log);
      }

  -- there are as many places
  pub count_is : length kept.tree.places.codes ≡ length (blocks_by_leaf view)
  count_is = ap (λ (p : Places). length p.codes) are.places ∙ length-map (blocks_by_leaf view) (morton_of_block view.frame)

  -- the one that is kept at a place is the block there
  pub block_kept-at : (place : ℕ) → place < length view.parts.perm → block_kept kept place ≡ block_at view place
  block_kept-at place within =
      (kept-at place (block_at view place) (omega (arith, within, length-by_leaf view))).same
      ∙ get_or-map-range_with_len (block_at view) 0 (length view.parts.perm) place place (block_at view place) within (omega arith)

  -- all of them are the blocks
  pub all-kept : map (block_kept kept) (range_with_len 0 (length kept.tree.places.codes)) ≡ blocks_by_leaf view
  all-kept =
      let n : ℕ = length kept.tree.places.codes in
      let long = length-map-range_with_len (block_kept kept) 0 n in
      same_lists (map (block_kept kept) (range_with_len 0 n)) (blocks_by_leaf view) (long ∙ count_is) (λ k d within.
      let inside : k < n = omega (arith, long) in
      get_or-map-range_with_len (block_kept kept) 0 n k k d inside (omega arith)
      ∙ (kept-at k d (omega (arith, inside, count_is))).same)

  -- a test of places is one of blocks
  pub tested : (p : ℕ → Bool) (q : Anchored → Bool)
      → ((k : ℕ) (block : Anchored) → IsKeptAt k block → p k ≡ q block)
      → map (block_kept kept) (filter p (range_with_len 0 (length kept.tree.places.codes)))
      ≡ filter q (blocks_by_leaf view)
  tested p q same =
      let n : ℕ = length kept.tree.places.codes in
      ap (map (block_kept kept)) (filter_alike p (λ k. q (block_kept kept k)) (range_with_len 0 n) (λ k inside.
      let within : k < n = omega (arith, (member_of_range 0 n k inside).1) in
      let at = kept-at k (block_kept kept k) (omega (arith, within, count_is)) in
      same k (get_or (blocks_by_leaf view) k (block_kept kept k)) at ∙ ap q (sym at.same)))
      ∙ sym (filter-map q (block_kept kept) (range_with_len 0 n)) ∙ ap (filter q) all-kept

  module _ (squares boxes : CellBox → Bool) where
    -- the places that are found are those of the blocks that may hold what is sought
    pub found-blocks : map (block_kept kept) (found_places squares boxes kept.tree)
        ≡ filter (may_hold squares boxes rules) (blocks_by_leaf view)
    unfolding place_passes
    found-blocks =
        tested (place_passes (tests_at kept.tree.base squares boxes) kept.tree.places) (may_hold squares boxes rules)
        (λ k block at.
        ap (λ b. boxes b && squares (area_at kept.tree.base (node 0 (slice_index kept.tree.places.codes k)))) at.box
        ∙ ap (λ a. boxes (track_box rules block) && squares a) at.area
        ∙ and_comm (boxes (track_box rules block)) (squares (cell_box block.cell)))

    -- as many places have a cell that passes as blocks do
    cells_pass : length (filter (cell_passes (squares_at kept.tree.base squares) kept.tree.places)
        (all_places kept.tree.places))
        ≡ length (filter (λ (block : Anchored). squares (cell_box block.cell)) (all_blocks view))
    cells_pass =
        let p : ℕ → Bool = cell_passes (squares_at kept.tree.base squares) kept.tree.places in
        let q : Anchored → Bool = λ (block : Anchored). squares (cell_box block.cell) in
        sym (length-map (filter p (all_places kept.tree.places)) (block_kept kept))
        ∙ ap length (tested p q (λ k block at. ap squares at.area))
        ∙ length-weighs q (blocks_by_leaf view) (all_blocks view) (by_leaf-weighs view is)

    -- as many squares pass as of the tree of anchors
    pub squares_pass : held_square_count (squares_at kept.tree.base squares) kept.tree.places
        ≡ square_count squares (tree_in view)
    squares_pass =
        ap (λ b. held_square_count (squares_at b squares) kept.tree.places) are.base
        ∙ ap (held_square_count (squares_at view.frame.base squares)) are.places
        ∙ held_square_count-tree (tree_in view) is.sound.tree.is_tree squares
        (map (morton_of_block view.frame) (blocks_by_leaf view))
        (map (track_box rules) (blocks_by_leaf view)) (same_codes view is)

    -- so the reads are within those of the squares and the blocks that pass
    pub found-reads : search_reads squares kept.tree + record_reads * length (found_places squares boxes kept.tree)
        ≤ square_reads * square_count squares (tree_in view)
        + block_reads * length (filter (λ (block : Anchored). squares (cell_box block.cell)) (all_blocks view))
    found-reads =
        let found : List ℕ = found_places squares boxes kept.tree in
        let cells : List ℕ =
        filter (cell_passes (squares_at kept.tree.base squares) kept.tree.places) (all_places kept.tree.places) in
        let paid = search-pays squares boxes kept.tree record_reads block_reads (λ _. 0) (omega arith) in
        let records = sum_by-each (λ _. 0) record_reads found in
        let blocks = sum_by-each (λ _. 0) block_reads cells in
        let wide : opened_square_reads * square_count squares (tree_in view)
        ≤ square_reads * square_count squares (tree_in view) =
        mul-le-mul_right (square_count squares (tree_in view)) (omega arith) in
        omega (
          arith,
          paid,
          records,
          blocks,
          wide,
          sum_by-zeros found,
          sum_by-zeros cells,
          ap (λ n. opened_square_reads * n) squares_pass,
          ap (λ n. block_reads * n) cells_pass,
        )

-- what is left of a walk over a period's blocks
module _ {S : Type 0} (squares boxes : S → CellBox → Bool) where
  pub tracks_left-is : (tracks : Tracks S) → tracks_left squares boxes tracks ≡ blocks_left squares boxes tracks.walk
  unfolding tracks_left
  tracks_left-is tracks = refl

  pub tracks_budget-is : (tracks : Tracks S)
      → tracks_budget squares boxes tracks ≡ blocks_budget squares boxes tracks.walk
  unfolding tracks_budget
  tracks_budget-is tracks = refl

-- what is kept of a period
pub tracks-at : (parts : Parts) (rules : RulesView) (snaps : List SnapshotView) (speeds : List ℕ)
    (tracks : List (Option (Box TrackTree))) (number : ℕ) (d : Option (Box TrackTree))
    → AreStores parts rules snaps speeds tracks → number < periods_of parts.frame
    → IsKept parts.frame (rules_in parts) (blocks_by_leaf (snapshot_in parts number)) (get_or tracks number d)
    × IsOfPeriod number (get_or tracks number d)
tracks-at parts rules snaps speeds tracks number d are within =
    let its = are.tracks_are in
    subst (λ kept. IsKept parts.frame (rules_in parts) (blocks_by_leaf (snapshot_in parts number)) kept × IsOfPeriod number kept)
    (sym (get_or_default tracks number d None (omega (arith, its.long, within)))) (its.kept number within, its.numbers number within)
