-- Boxes within reach of a region, on worked values.
use Rattle.std.proofs.Common.{◌≡◌, ℕ, pos, neg_ℤ, true, false, refl}
use Rattle.track_types.specs.declared.cell.Cell.{Cell}
use Rattle.track_types.specs.declared.cell_box.CellBox.{CellBox}
use Rattle.track_types.specs.declared.limit.TheConstants.{MAX_REACH}
use Rattle.track_types.specs.declared.region.Region.{Region}
use Rattle.track_types.specs.declared.region.Region.TheVariants.{Disc, Rect}
use Rattle.snapshots.specs.Tracks.{cell_box}
use Rattle.track_types.specs.Boxes.{box_from, cut}
use Rattle.slice_search.specs.Reach.{may_reach}
use Rattle.slice_search.proofs.ReachLemmas.{may_reach-beside}

-- a grid of 32 columns and 32 lines
grid : CellBox
grid = box_from (pos 0) (pos 0) 31

anchor : Cell
anchor = record { x = pos 5; y = pos 0 }

-- a rect five columns away is within reach of five, and not of four
within-five : may_reach (Rect (pos 10) (pos 0) (pos 20) (pos 0)) grid 5 (cell_box anchor) ≡ true
unfolding may_reach grid anchor
within-five = refl

beyond-four : may_reach (Rect (pos 10) (pos 0) (pos 20) (pos 0)) grid 4 (cell_box anchor) ≡ false
unfolding may_reach grid anchor
beyond-four = refl

-- a disc, whose corner of the box is too far away where its column is not
beyond-corner : may_reach (Disc (pos 9) (pos 4) 4) grid 1 (cell_box anchor) ≡ false
unfolding may_reach grid anchor
beyond-corner = refl

-- a rect that begins with the column after the grid's last one
beside : Region
beside = Rect (pos 32) (pos 0) (pos 40) (pos 31)

-- it keeps no square, not even the whole grid, of which the last column is one away from it
beside-grid : may_reach beside grid MAX_REACH grid ≡ false
unfolding may_reach grid beside
beside-grid = refl

-- so for each width
beside-always : (n : ℕ) → may_reach beside grid n grid ≡ false
unfolding grid beside
beside-always n = may_reach-beside beside grid n grid refl

-- a rect that is partly in the grid keeps its squares
across-edge : may_reach (Rect (neg_ℤ (pos 9)) (pos 0) (pos 0) (pos 31)) grid 5 (cell_box anchor) ≡ true
unfolding may_reach grid anchor
across-edge = refl

-- a box outside the grid is not kept
outside-grid : may_reach (Rect (pos 0) (pos 0) (pos 40) (pos 31)) grid 3 (box_from (pos 35) (pos 0) 4) ≡ false
unfolding may_reach grid
outside-grid = refl

-- a bound beside the grid
cut-left : cut (pos 0) (pos 31) (neg_ℤ (pos 7)) ≡ pos 0
cut-left = refl
