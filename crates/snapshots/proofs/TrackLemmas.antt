-- The boxes of tracks: each stop of a block lies in the box of its track.
use Rattle.std.proofs.Common.{◌≡◌, ℕ, ℤ, ◌≤ℤ◌, true, List, [], ◌∷◌, length, get_or, All, Option, Some, None, IfSome, arith}
use Rattle.std.specs.Prelude.{slice_index, fold}
use Rattle.std.specs.Option.{option_map}
use Rattle.std.proofs.lemmas.Int.{ints}
use Rattle.std.proofs.lemmas.List.Elements.{All-cons, All-nil}
use Rattle.list_laws.proofs.RangeLemmas.{All-from_filter_map}
use Rattle.track_types.specs.Boxes.{cell_box, joined_box, moved_box}
use Rattle.track_types.specs.Region.{in_box}
use Rattle.track_types.specs.declared.cell.Cell.{Cell}
use Rattle.track_types.specs.declared.cell_box.CellBox.{CellBox}
use Rattle.track_types.specs.declared.parts.Parts.{Parts}
use Rattle.track_types.specs.declared.stop.Stop.{Stop}
use Rattle.track_types.proofs.RegionLemmas.{in_box-from}
use Rattle.k2_tree.specs.Areas.{IsBoxInside}
use Rattle.k2_tree.proofs.InsideLemmas.{inside-inside, inside-joined, inside-self}
use Rattle.rule_store.specs.View.{RulesView}
use Rattle.rule_store.specs.Entry.{entry_of}
use Rattle.rule_store.specs.Log.{block_stops, stop_at, stops_after}
use Rattle.log_bounds.specs.Bounds.{cell_before}
use Rattle.snapshots.specs.Parts.{anchored_at, block_log, rules_in, snapshot_in}
use Rattle.log_bounds.specs.Bounds.{log_box, symbol_box, placed_boxes}
use Rattle.snapshots.specs.Tracks.{track_box}
use Rattle.snapshots.specs.Tracks.{AreOnTracks, IsOnTrack}
use Rattle.snapshots.specs.View.{all_blocks}
use Rattle.snapshots.specs.declared.anchored.Anchored.{Anchored}
use Rattle.snapshots.proofs.ReachLemmas.{stops-after}

-- each of some boxes lies in the least box with all of them, and so does the first
pub inside-fold : (area : CellBox) (areas : List CellBox)
    → IsBoxInside area (fold joined_box area areas) × All (λ other. IsBoxInside other (fold joined_box area areas)) areas
inside-fold area [] = (inside-self area, All-nil (λ other. IsBoxInside other area))
inside-fold area (other ∷ areas) =
    let both = inside-joined area other in
    let rest = inside-fold (joined_box area other) areas in
    let whole : CellBox = fold joined_box (joined_box area other) areas in (
      inside-inside area (joined_box area other) whole both.0 rest.0,
      All-cons (λ b. IsBoxInside b whole) other areas
          (inside-inside other (joined_box area other) whole both.1 rest.0) rest.1,
    )

-- a cell of a box that lies in another is in that one
pub in_box-inside : (inner outer : CellBox) (cell : Cell) → IsBoxInside inner outer → inner.x1 ≤ℤ cell.x
    → cell.x ≤ℤ inner.x2
    → inner.y1 ≤ℤ cell.y → cell.y ≤ℤ inner.y2 → in_box outer cell ≡ true
in_box-inside inner outer cell inside left right below above = in_box-from outer cell (record {
  left = omega (arith, ints, inside.left, left);
  right = omega (arith, ints, inside.right, right);
  below = omega (arith, ints, inside.below, below);
  above = omega (arith, ints, inside.above, above);
})

-- what holds of a box that is moved
IfSome-moved : (P : CellBox → Type 0) (move : CellBox → CellBox) (hull : Option CellBox)
    → IfSome (option_map move hull) P
    → IfSome hull (λ area. P (move area))
IfSome-moved P move None held = tt
IfSome-moved P move (Some area) held = held

-- a stop is in a box
abbrev IsIn : CellBox → Stop → Type 0
IsIn whole stop = in_box whole stop.cell ≡ true

-- a placed box lies in it
abbrev IsHeldIn : CellBox → Cell → ℤ → CellBox → Type 0
IsHeldIn whole cell at hull = IsBoxInside (moved_box cell hull) whole

-- the stops of a block are in the box of its track
pub on-track : (parts : Parts) (number : ℕ) (block : Anchored) → IsOnTrack parts number block
unfolding block_stops log_box
on-track parts number block =
    let rules : RulesView = rules_in parts in
    let log : List ℕ = block_log rules block in
    let whole : CellBox = track_box rules block in
    let all = inside-fold (cell_box block.cell) (placed_boxes rules block.cell log (length log)) in
    All-cons (IsIn whole) (stop_at (anchored_at parts.frame number block) block.cell)
    (stops_after rules (anchored_at parts.frame number block) block.cell log)
    (in_box-inside (cell_box block.cell) whole block.cell all.0 (omega (arith, ints)) (omega (arith, ints))
    (omega (arith, ints)) (omega (arith, ints)))
    (stops-after (IsIn whole) (IsHeldIn whole) (λ cell at hull other instant held its late.
    in_box-inside (moved_box cell hull) whole other held its.left its.right its.below its.above)
    rules log block.cell (anchored_at parts.frame number block)
    (λ place within. IfSome-moved (λ other. IsBoxInside other whole)
    (moved_box (cell_before rules block.cell log place))
    (entry_of rules (slice_index log place)).hull
    (All-from_filter_map (λ other. IsBoxInside other whole) (symbol_box rules block.cell log) 0 (length log) all.1 place
    (omega arith) (omega arith))))

-- those of all blocks
pub on-tracks : (parts : Parts) (number : ℕ) → AreOnTracks parts number
on-tracks parts number = λ k d within. on-track parts number (get_or (all_blocks (snapshot_in parts number)) k d)
