-- How many reads the search of the nearest makes at most.
use Rattle.std.specs.Prelude.{ℕ, zero, suc, ◌+◌, ◌-◌, ◌*◌, ℤ, Bool, true, nat_le, List, filter, slice_get, Option, None, Some}
use Rattle.std.specs.List.{sum_by}
use Rattle.track_types.specs.ByFilter.{nears_of}
use Rattle.track_types.specs.Region.{nearest_cell, squared_distance}
use Rattle.track_types.specs.declared.cell.Cell.{Cell}
use Rattle.track_types.specs.declared.cell_box.CellBox.{CellBox}
use Rattle.track_types.specs.declared.near.Near.{Near}
use Rattle.track_types.specs.declared.parts.Parts.{Parts}
use Rattle.k2_tree.specs.Pruning.{square_count}
use Rattle.snapshots.specs.View.{all_blocks, tree_in}
use Rattle.snapshots.specs.Cost.{block_reads, square_reads}
use Rattle.snapshots.specs.IndexCost.{seek_cost}
use Rattle.snapshots.specs.Parts.{chart_in, period_in, snapshot_in}
use Rattle.snapshots.specs.Speed.{reach_of}
use Rattle.snapshots.specs.Tracks.{cell_box}
use Rattle.snapshots.specs.declared.anchored.Anchored.{Anchored}

-- the least squared distance from a cell to those of a box
abbrev pub box_dist2 : Cell → CellBox → ℕ
box_dist2 cell area = squared_distance cell (nearest_cell area cell)

-- the last of so many answers, and none where there are fewer
abbrev pub last_answer : ℕ → List Near → Option Near
last_answer count nears = slice_get nears (count - 1)

-- whether a squared distance is at most that of the last answer; every one is where there are fewer answers
abbrev pub is_no_farther : Option Near → ℕ → Bool
is_no_farther None dist2 = true
is_no_farther (Some last) dist2 = nat_le dist2 last.dist2

-- whether the reach of a box of a period at an instant is no farther from a cell than the last answer
unfoldable pub is_near_enough : Parts → ℕ → ℕ → ℤ → Cell → CellBox → Bool
is_near_enough parts count number instant cell area =
    is_no_farther (last_answer count (nears_of (chart_in parts).rows count instant cell))
    (box_dist2 cell (reach_of parts number instant area))

-- the reads of a block in which the cell at an instant is sought: the block, the symbols of its log, and a rule at each
-- depth
abbrev pub near_cost : Parts → Anchored → ℕ
near_cost parts block = block_reads + seek_cost parts (Some block)

-- the reads of the nearest at an instant of a period: of the squares and the blocks whose reach is near enough
unfoldable pub period_near_cost : Parts → ℕ → ℕ → ℤ → Cell → ℕ
period_near_cost parts count number instant cell =
    square_reads * square_count (is_near_enough parts count number instant cell) (tree_in (snapshot_in parts number))
    + sum_by (near_cost parts)
    (filter (λ block. is_near_enough parts count number instant cell (cell_box block.cell))
    (all_blocks (snapshot_in parts number)))

-- the reads of the nearest, so many of them, at an instant of a period, if it is one of the index's
abbrev pub nearest_cost_in : Parts → ℕ → ℤ → Cell → Option ℕ → ℕ
nearest_cost_in parts zero instant cell number = 0
nearest_cost_in parts (suc count) instant cell None = 0
nearest_cost_in parts (suc count) instant cell (Some number) = period_near_cost parts (suc count) number instant cell

-- the reads of the nearest
unfoldable pub nearest_cost : Parts → ℕ → ℤ → Cell → ℕ
nearest_cost parts count instant cell = nearest_cost_in parts count instant cell (period_in parts.frame instant)
