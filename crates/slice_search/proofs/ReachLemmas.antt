-- Which boxes are within reach, where they are cut to the grid: each that is, is within reach uncut, and the cell of an anchor
-- is where a cell of the region is near it.
use Rattle.std.proofs.Common.{◌≡◌, ℕ, ◌≤◌, ℤ, pos, ◌+ℤ◌, ◌-ℤ◌, ◌≤ℤ◌, true, Bool, refl, sym}
use Rattle.std.proofs.Common.{false, inl, inr, ap, ◌∙◌, arith}
use Rattle.std.specs.Prelude.{min, ◌&&◌}
use Rattle.std.proofs.lemmas.Bool.{and_from, and_parts, cases_Bool}
use Rattle.std.proofs.lemmas.Int.{clamps, ints}
use Rattle.track_types.specs.Near.{IsAsked, IsCellAsked}
use Rattle.track_types.specs.Region.{in_box, in_region, intersects_region, is_between, overlaps}
use Rattle.track_types.specs.Widening.{widened}
use Rattle.track_types.specs.declared.cell.Cell.{Cell}
use Rattle.track_types.specs.declared.cell_box.CellBox.{CellBox}
use Rattle.track_types.specs.declared.frame.Frame.{Frame}
use Rattle.track_types.specs.declared.limit.TheConstants.{MAX_REACH}
use Rattle.track_types.specs.declared.parts.Parts.{Parts}
use Rattle.track_types.specs.declared.region.Region.{Region}
use Rattle.track_types.proofs.RegionLemmas.{in_box-from, intersects_region-exact, is_between-from}
use Rattle.track_types.proofs.WideningLemmas.{in_box-wider}
use Rattle.k2_tree.specs.Morton.{IsInGrid}
use Rattle.k2_tree.specs.Pruning.{IsWeaker}
use Rattle.log_bounds.specs.Bounds.{gap}
use Rattle.snapshots.specs.Speed.{width_at}
use Rattle.snapshots.specs.Tracks.{cell_box}
use Rattle.slice_search.specs.Cost.{is_within_reach}
use Rattle.track_types.specs.Boxes.{cut, cut_box, touches}
use Rattle.track_types.specs.Frame.{grid_of}
use Rattle.slice_search.specs.Reach.{may_reach, may_reach_in, short_width}

-- what both tests say, from the first
pub both-hold : (a b result : Bool) → a ≡ true → result ≡ b → result ≡ (a && b)
both-hold a b result first second = rw first second

pub one-fails : (a b result : Bool) → result ≡ a → result ≡ false → result ≡ (a && b)
one-fails a b result is fails =
    let first : a ≡ false = sym is ∙ fails in
    rw (first, fails) refl

-- a number between cut bounds is between both pairs of bounds, where these overlap
is_between-uncut : (low high first last z : ℤ) → low ≤ℤ high → overlaps low high first last ≡ true
    → is_between (cut low high first) (cut low high last) z ≡ true
    → (is_between low high z ≡ true) × (is_between first last z ≡ true)
is_between-uncut low high first last z wide common inside = (grind (arith, ints, clamps), grind (arith, ints, clamps))

-- and what is between both pairs is between the cut bounds, and the pairs overlap
is_between-cut : (low high first last z : ℤ) → is_between low high z ≡ true → is_between first last z ≡ true
    → (overlaps low high first last ≡ true) × (is_between (cut low high first) (cut low high last) z ≡ true)
is_between-cut low high first last z held inside = (grind (arith, ints, clamps), grind (arith, ints, clamps))

-- a cell is in a grid and in a box
abbrev pub InBoth : CellBox → CellBox → Cell → Type 0
InBoth grid area cell = (in_box grid cell ≡ true) × (in_box area cell ≡ true)

-- the cells of a cut box
in_box-uncut : (grid area : CellBox) (cell : Cell) → touches grid area ≡ true → in_box (cut_box grid area) cell ≡ true
    → InBoth grid area cell
in_box-uncut grid area cell common inside =
    let axes = and_parts (overlaps grid.x1 grid.x2 area.x1 area.x2) (overlaps grid.y1 grid.y2 area.y1 area.y2) common in
    let box = and_parts (is_between (cut grid.x1 grid.x2 area.x1) (cut grid.x1 grid.x2 area.x2) cell.x)
    (is_between (cut grid.y1 grid.y2 area.y1) (cut grid.y1 grid.y2 area.y2) cell.y) inside in
    let across = is_between-uncut grid.x1 grid.x2 area.x1 area.x2 cell.x grid.wide axes.0 box.0 in
    let along = is_between-uncut grid.y1 grid.y2 area.y1 area.y2 cell.y grid.high axes.1 box.1 in
    (and_from _ _ across.0 along.0, and_from _ _ across.1 along.1)

in_box-cut : (grid area : CellBox) (cell : Cell) → InBoth grid area cell
    → (touches grid area ≡ true) × (in_box (cut_box grid area) cell ≡ true)
in_box-cut grid area cell both =
    let held = and_parts (is_between grid.x1 grid.x2 cell.x) (is_between grid.y1 grid.y2 cell.y) both.0 in
    let box = and_parts (is_between area.x1 area.x2 cell.x) (is_between area.y1 area.y2 cell.y) both.1 in
    let across = is_between-cut grid.x1 grid.x2 area.x1 area.x2 cell.x held.0 box.0 in
    let along = is_between-cut grid.y1 grid.y2 area.y1 area.y2 cell.y held.1 box.1 in
    (and_from _ _ across.0 along.0, and_from _ _ across.1 along.1)

-- a cell of an index's grid is in its box
pub in_box-grid : (frame : Frame) (cell : Cell) → IsInGrid frame.height frame.base cell
    → in_box (grid_of frame) cell ≡ true
in_box-grid frame cell inside = in_box-from (grid_of frame) cell (record {
  left = inside.left;
  right = omega (arith, ints, inside.left, inside.right);
  below = inside.below;
  above = omega (arith, ints, inside.below, inside.above);
})

-- a number near another is between the bounds around it
is_between-around : (at z : ℤ) (n : ℕ) → IsAsked at → IsAsked z → gap z at ≤ n
    → is_between (at -ℤ pos (min n MAX_REACH)) (at +ℤ pos 0 +ℤ pos (min n MAX_REACH)) z ≡ true
is_between-around at z n near also close =
    is_between-from (at -ℤ pos (min n MAX_REACH)) (at +ℤ pos 0 +ℤ pos (min n MAX_REACH)) z
    (omega (arith, ints, clamps, near.high, also.low)) (omega (arith, ints, clamps, near.low, also.high))

-- a cell of the grid and of the region is at most so far from a box
record IsReachedFrom (region : Region) (grid : CellBox) (n : ℕ) (area : CellBox) : Type 0 where
  pub cell : Cell
  pub grid_has : in_box grid cell ≡ true
  pub near : in_box (widened n area) cell ≡ true
  pub held : in_region region cell ≡ true

module _ (region : Region) (grid : CellBox) where
  -- the test decides
  may_reach-cell : (n : ℕ) (area : CellBox) → may_reach region grid n area ≡ true → IsReachedFrom region grid n area
  unfolding may_reach
  may_reach-cell n area kept =
      let box : CellBox = widened n area in
      let tests = and_parts (touches grid box) (intersects_region region (cut_box grid box)) kept in
      let met = (intersects_region-exact region (cut_box grid box)).0 tests.1 in
      let cell : Cell = met.0 in
      let both = in_box-uncut grid box cell tests.0 met.1 in
      record { cell = cell; grid_has = both.0; near = both.1; held = met.2 }

  may_reach-from : (n : ℕ) (area : CellBox) → IsReachedFrom region grid n area → may_reach region grid n area ≡ true
  unfolding may_reach
  may_reach-from n area is =
      let both = in_box-cut grid (widened n area) is.cell (is.grid_has, is.near) in
      and_from _ _ both.0
      ((intersects_region-exact region (cut_box grid (widened n area))).1 (is.cell, both.1, is.held))

  -- where the region is within reach of a cut box, it is within reach of the box itself
  pub may_reach-uncut : (n m : ℕ) (area : CellBox) → n ≤ m → may_reach region grid n area ≡ true
      → intersects_region region (widened m area) ≡ true
  may_reach-uncut n m area more kept =
      let is = may_reach-cell n area kept in
      let same : (z : ℤ) → z ≤ℤ z = λ z. omega (arith, ints) in
      (intersects_region-exact region (widened m area)).1
      (is.cell, in_box-wider area area n m is.cell more (same area.x1) (same area.x2) (same area.y1) (same area.y2) is.near, is.held)

  -- an anchor is within reach where a cell of the region in the grid is near it
  pub may_reach-near : (n : ℕ) (at cell : Cell) → IsCellAsked at → IsCellAsked cell → in_box grid cell ≡ true
      → gap cell.x at.x ≤ n → gap cell.y at.y ≤ n → in_region region cell ≡ true
      → may_reach region grid (min n MAX_REACH) (cell_box at) ≡ true
  may_reach-near n at cell near also inside across along held =
      may_reach-from (min n MAX_REACH) (cell_box at) (record {
        cell = cell;
        grid_has = inside;
        near = and_from _ _ (is_between-around at.x cell.x n near.x also.x across)
            (is_between-around at.y cell.y n near.y also.y along);
        held = held;
      })

  -- a region beside the grid keeps no box
  pub may_reach-beside : (n : ℕ) (area : CellBox) → intersects_region region grid ≡ false
      → may_reach region grid n area ≡ false
  may_reach-beside n area beside = elim (cases_Bool (may_reach region grid n area)) [
    | inl kept ↦
        let is = may_reach-cell n area kept in
        let met = (intersects_region-exact region grid).1 (is.cell, is.grid_has, is.held) in
        absurd (cc)
    | inr gone ↦ gone
  ]

module _ (parts : Parts) (number : ℕ) (instant : ℤ) (region : Region) where
  -- what the search keeps is within reach
  pub IsWeaker-may_reach : IsWeaker (is_within_reach parts number instant region)
      (may_reach_in parts number instant region)
  IsWeaker-may_reach = λ area near kept.
      may_reach-uncut region (grid_of parts.frame) (short_width parts number instant) (width_at parts number instant) area
      (omega arith) kept

  -- so too where the test has a region, a grid and a width that are equal to these
  pub may_reach-same : (asked : Region) (grid : CellBox) (width : ℕ) → asked ≡ region → grid ≡ grid_of parts.frame
      → width ≡ short_width parts number instant
      → may_reach asked grid width ≡ may_reach_in parts number instant region
  may_reach-same asked grid width of all wide =
      ap (λ r. may_reach r grid width) of ∙ ap (λ g. may_reach region g width) all
      ∙ ap (may_reach region (grid_of parts.frame)) wide
