-- What bounds the logs of a period gives what is found by reading them.
use Rattle.std.proofs.Common.{◌≡◌, ℕ, ◌<◌, ◌+ℤ◌, List, get_or, length, map, max, ap, subst, sym, ◌∙◌, arith}
use Rattle.std.specs.Prelude.{fold, slice_index}
use Rattle.std.specs.Global.{Vec}
use Rattle.std.proofs.lemmas.Int.{ints}
use Rattle.std.proofs.lemmas.List.{get_or-map, length-map}
use Rattle.std.proofs.lemmas.List.FromFn.{get_or-map-range_with_len}
use Rattle.std.proofs.lemmas.Simd.{map-map}
use Rattle.list_laws.proofs.MapLemmas.{map_alike}
use Rattle.track_types.specs.Boxes.{moved_box}
use Rattle.track_types.specs.declared.cell.Cell.{Cell}
use Rattle.track_types.specs.declared.cell_box.CellBox.{CellBox}
use Rattle.track_types.specs.declared.frame.Frame.{Frame}
use Rattle.track_types.specs.declared.parts.Parts.{Parts}
use Rattle.rule_store.specs.View.{RulesView}
use Rattle.rule_store.specs.Cells.{cell_with, moved}
use Rattle.rule_store.proofs.CellLemmas.{same_cell}
use Rattle.log_bounds.specs.Bounds.{bounds_of, bounds_with}
use Rattle.log_bounds.specs.declared.bounds.LogBounds.{LogBounds}
use Rattle.log_bounds.proofs.BoundsLemmas.{bounds-moved}
use Rattle.k2_tree.specs.Morton.{IsInGrid}
use Rattle.snapshots.specs.Bounded.{blocks_bounds, bounds_from_base, cell_from_base, AreBounds, AreFromAnchors}
use Rattle.snapshots.specs.Parts.{block_log, rules_in}
use Rattle.snapshots.specs.Speed.{block_speed, blocks_speed}
use Rattle.snapshots.specs.Tracks.{track_box}
use Rattle.snapshots.specs.Sound.{IsSnapshot}
use Rattle.snapshots.specs.View.{SnapshotView, all_blocks, block_at}
use Rattle.snapshots.specs.declared.anchored.Anchored.{Anchored}
use Rattle.snapshots.proofs.ByObjectLemmas.{all_blocks-placed, length-all_blocks}
use Rattle.snapshots.proofs.JoinLemmas.{IsTurn}
use Rattle.snapshots.proofs.KeptLemmas.{by_leaf-inside, length-by_leaf}

-- the bounds of a block's log, from its anchor on, are those from the grid's base, moved to where the base is
bounded-block : (frame : Frame) (rules : RulesView) (block : Anchored) → bounds_of rules block.cell (block_log rules block)
    ≡ bounds_with block.cell (bounds_from_base frame rules block).speed (moved_box frame.base (bounds_from_base frame rules block).area)
bounded-block frame rules block =
    let base : Cell = frame.base in
    let start : Cell = cell_from_base frame block in
    let back : moved start (base.x, base.y) ≡ block.cell =
    same_cell _ _ block.cell.x block.cell.y (omega (arith, ints)) (omega (arith, ints)) in
    ap (λ c. bounds_of rules c (block_log rules block)) (sym back)
    ∙ bounds-moved rules (base.x, base.y) start (block_log rules block)
    ∙ ap (λ c. bounds_with c (bounds_from_base frame rules block).speed
    (moved_box base (bounds_from_base frame rules block).area)) back

-- bounds that begin at the anchors of a snapshot's blocks
module _ (view : SnapshotView) (is : IsSnapshot view) (bounds : List LogBounds) (are : AreFromAnchors view bounds) where
  pub length-anchors : length bounds ≡ length view.parts.perm
  length-anchors =
      sym (length-map bounds (λ (log : LogBounds). log.from)) ∙ ap length are
      ∙ length-map (all_blocks view) (cell_from_base view.frame) ∙ length-all_blocks view is

  -- at the place of a block by object stand its own
  pub anchor-placed : (place : ℕ) (log : LogBounds) → place < length view.parts.perm
      → log ≡ get_or bounds (slice_index view.parts.perm place) log
      → cell_with (log.from.x +ℤ view.frame.base.x) (log.from.y +ℤ view.frame.base.y) ≡ (block_at view place).cell
  anchor-placed place log within its =
      let frame : Frame = view.frame in
      let rank : ℕ = slice_index view.parts.perm place in
      let block : Anchored = block_at view place in
      let below : rank < length view.parts.perm = is.sound.permutes.within place within in
      let from : log.from ≡ cell_from_base frame block =
      ap (λ (l : LogBounds). l.from) its
      ∙ sym (get_or-map (λ (l : LogBounds). l.from) bounds rank log frame.base (omega (arith, below, length-anchors)))
      ∙ ap (λ xs. get_or xs rank frame.base) are
      ∙ get_or-map (cell_from_base frame) (all_blocks view) rank block frame.base (omega (arith, below, length-all_blocks view is))
      ∙ ap (cell_from_base frame) (all_blocks-placed view is place block within) in
      same_cell _ _ block.cell.x block.cell.y
      (omega (arith, ints, ap (λ (c : Cell). c.x) from)) (omega (arith, ints, ap (λ (c : Cell). c.y) from))

-- the anchor of a block is in the grid
pub inside-at : (view : SnapshotView) → IsSnapshot view → (place : ℕ) → place < length view.parts.perm
    → IsInGrid view.frame.height view.frame.base (block_at view place).cell
inside-at view is place within =
    subst (λ (b : Anchored). IsInGrid view.frame.height view.frame.base b.cell)
    (get_or-map-range_with_len (block_at view) 0 (length view.parts.perm) place place (block_at view place) within (omega arith))
    (by_leaf-inside view is place (block_at view place) (omega (arith, within, length-by_leaf view)))

module _ (rules : RulesView) (view : SnapshotView) (bounds : List LogBounds) (are : bounds ≡ blocks_bounds rules view) where
  -- they begin at the anchors
  pub anchors-bounded : AreFromAnchors view bounds
  anchors-bounded =
      let from : LogBounds → Cell = λ log. log.from in
      ap (map from) are ∙ map-map from (bounds_from_base view.frame rules) (all_blocks view)

  -- the greatest speed is the period's
  pub blocks_speed-bounded : fold max 0 (map (λ (log : LogBounds). log.speed) bounds) ≡ blocks_speed rules view
  unfolding blocks_speed
  blocks_speed-bounded =
      let all : List Anchored = all_blocks view in
      ap (λ bs. fold max 0 (map (λ (log : LogBounds). log.speed) bs)) are
      ∙ ap (fold max 0) (map-map (λ (log : LogBounds). log.speed) (bounds_from_base view.frame rules) all
      ∙ map_alike (λ block. (bounds_from_base view.frame rules block).speed) (block_speed rules) all
      (λ k d within. sym (ap (λ (log : LogBounds). log.speed) (bounded-block view.frame rules (get_or all k d)))))

  -- the areas are the boxes of the blocks' tracks
  pub tracks-bounded : map (λ (log : LogBounds). moved_box view.frame.base log.area) bounds
      ≡ map (track_box rules) (all_blocks view)
  tracks-bounded =
      let all : List Anchored = all_blocks view in
      let area_of : LogBounds → CellBox = λ log. moved_box view.frame.base log.area in
      ap (map area_of) are ∙ map-map area_of (bounds_from_base view.frame rules) all
      ∙ map_alike (λ block. area_of (bounds_from_base view.frame rules block)) (track_box rules) all
      (λ k d within. sym (ap (λ (log : LogBounds). log.area) (bounded-block view.frame rules (get_or all k d))))

-- the bounds that a turn takes are those of its snapshot
pub turn-bounds : (parts : Parts) (rules : RulesView) (snaps : List SnapshotView) (bounds : List (Vec LogBounds)) (number : ℕ)
    (item : SnapshotView) (of : Vec LogBounds) → IsTurn parts rules snaps number item → AreBounds parts bounds
    → of ≡ get_or bounds number of → of.items ≡ blocks_bounds rules item
turn-bounds parts rules snaps bounds number item of turn are read =
    ap (λ (v : Vec LogBounds). v.items) read ∙ are.each number of turn.within
    ∙ sym (ap (λ r. blocks_bounds r item) turn.of.rules_are ∙ ap (blocks_bounds (rules_in parts)) turn.item_is)
