-- What is left of the walk of a path: the walk over the block that was begun, and the periods after it.
use Rattle.std.specs.Prelude.{◌≡◌, ℕ, ◌+◌, ◌-◌, ◌<◌, ◌≤◌, ℤ, ◌≤ℤ◌, Bool, ◌&&◌, ◌||◌, if◌then◌else◌, List, ◌++◌, All, Option, None, Some, filter, length, min, nat_le, nat_lt}
use Rattle.std.specs.Int.Signed.{le_z}
use Rattle.std.specs.List.{range_with_len, sum_by}
use Rattle.step_count.specs.Reads.{Read}
use Rattle.track_types.specs.Frame.{periods_of}
use Rattle.track_types.specs.StopWalk.{first_past, up_to}
use Rattle.track_types.specs.declared.cell.Cell.{Cell}
use Rattle.track_types.specs.declared.cell_box.CellBox.{CellBox}
use Rattle.track_types.specs.declared.frame.Frame.{Frame}
use Rattle.track_types.specs.declared.parts.Parts.{Parts}
use Rattle.track_types.specs.declared.region.Region.{Region}
use Rattle.track_types.specs.declared.stop.Stop.{Stop}
use Rattle.log_cursor.specs.Needs.{walk_needs}
use Rattle.log_cursor.specs.Touching.{first_among}
use Rattle.log_cursor.specs.Walk.{reads_to, WalkView}
use Rattle.snapshots.specs.IndexCost.{period_cost}
use Rattle.snapshots.specs.Parts.{first_in, rules_in}
use Rattle.object_track.specs.Between.{cost_between, stops_between}
use Rattle.object_track.specs.Needs.{track_needs}

-- the window has an instant up to this one, and the period begins by then
abbrev pub begins_by : Frame → ℤ → ℤ → ℕ → Bool
begins_by frame from instant number = le_z from instant && le_z (first_in frame number) instant

-- the reads that the periods from one to before another cost up to an instant
unfoldable pub cost_until : Parts → ℕ → ℤ → ℤ → ℕ → ℕ → ℕ
cost_until parts index from instant next behind =
    sum_by (period_cost parts index from instant)
    (filter (begins_by parts.frame from instant) (range_with_len next (behind - next)))

-- The stops that are left, how many reads are still to be made for them at most, and what these reads are for. They are for
-- the walk over the block that was begun, and for the periods from `next` to before `behind`, which are still to be looked
-- into. The object is that at the place `index`, and the window is from `from` to `to`, both counted.
pub record PathView : Type 0 where
  pub stops : List Stop
  pub reads : ℕ
  pub block : WalkView
  pub parts : Parts
  pub index : ℕ
  pub from : ℤ
  pub to : ℤ
  pub next : ℕ
  pub behind : ℕ

-- the view of a walk over the stops of an object in a window, in the periods from one to before another
abbrev pub path_walk_of : Parts → ℕ → ℤ → ℤ → ℕ → ℕ → WalkView → PathView
path_walk_of parts index from to next behind block = record {
  stops = block.stops ++ stops_between parts index from to next behind;
  reads = block.reads + cost_between parts index from to next behind;
  block = block;
  parts = parts;
  index = index;
  from = from;
  to = to;
  next = next;
  behind = behind;
}

-- a period is one from one to before another
abbrev pub is_left : ℕ → ℕ → ℕ → Bool
is_left next behind period = nat_le next period && nat_lt period behind

-- the reads of the periods from one to before another, and of an object's logs there, by its place among all objects: of
-- rules only those that a walk over the window opens by a test of their boxes
abbrev pub left_needs : (Cell → Option CellBox → Bool) → Parts → ℕ → ℤ → ℤ → ℕ → ℕ → Read → Bool
left_needs may parts index from to next behind = track_needs may parts (is_left next behind) from to (Some index)

-- these reads, and those of the walk over a block that was begun
abbrev pub rest_needs : (Cell → Option CellBox → Bool) → WalkView → Parts → ℕ → ℤ → ℤ → ℕ → ℕ → Read → Bool
rest_needs may block parts index from to next behind read =
    walk_needs may block read || left_needs may parts index from to next behind read

-- the reads that are needed for the stops that are left of a walk, if it opens the rules whose boxes pass a test
abbrev pub path_needs : (Cell → Option CellBox → Bool) → PathView → Read → Bool
path_needs may path = rest_needs may path.block path.parts path.index path.from path.to path.next path.behind

-- the reads of the block that was begun up to an instant: all of them where the next period begins by then
abbrev pub block_reads_to : Frame → ℕ → WalkView → ℤ → ℕ
block_reads_to frame next block instant =
    if le_z (first_in frame next) instant then block.reads else min block.reads (reads_to block instant)

-- how many reads are made at most until all stops up to an instant are drawn: those of the block that was begun, and of the
-- periods that begin by then
abbrev pub path_reads_to : PathView → ℤ → ℕ
path_reads_to path instant = block_reads_to path.parts.frame path.next path.block instant
    + cost_until path.parts path.index path.from instant path.next path.behind

-- how many reads are made at most until a stop at an instant or after it is drawn, or none is left
abbrev pub path_reads_past : PathView → ℤ → ℕ
path_reads_past path instant =
    up_to (λ (stop : Stop). path_reads_to path stop.instant) path.reads (first_past instant path.stops)

-- a stop is in the window, and not before the period that was looked into last
pub record IsOfLast (frame : Frame) (from : ℤ) (next : ℕ) (stop : Stop) : Type 0 where
  pub window : from ≤ℤ stop.instant
  pub period : first_in frame (next - 1) ≤ℤ stop.instant

-- the object is one of the index's, and the walk is over blocks of its rules, in its periods
pub record IsPathWalk (parts : Parts) (index : ℕ) (from : ℤ) (next behind : ℕ) (block : WalkView) : Type 0 where
  pub known : index < length parts.objects
  pub within : behind ≤ periods_of parts.frame
  pub rules_are : block.rules ≡ rules_in parts
  pub stops_are : All (IsOfLast parts.frame from next) block.stops

-- what a walk that looks for its next stop has done: the same stops are left, for reads from its budget, and from that
-- up to each instant from the one on at which the period begins that was looked into last
pub record IsDrawing (first : PathView) (before : ℕ) (stores parts : Parts) (index : ℕ) (from to : ℤ)
    (next behind : ℕ) (block : WalkView) (steps : ℕ) : Type 0 where
  pub its : parts ≡ stores
  pub walk : IsPathWalk parts index from next behind block
  pub stops : first.stops ≡ (path_walk_of parts index from to next behind block).stops
  pub reads : steps + (path_walk_of parts index from to next behind block).reads ≤ before + first.reads
  pub in_time : (instant : ℤ) → from ≤ℤ instant → first_in parts.frame (next - 1) ≤ℤ instant
      → steps + path_reads_to (path_walk_of parts index from to next behind block) instant
      ≤ before + path_reads_to first instant

-- what a walk that looks for its first stop in a region has done: it passed stops outside the region, and the others are
-- left, for reads from its budget
pub record IsSeekingIn (region : Region) (first : PathView) (before : ℕ) (stores parts : Parts) (index : ℕ) (from to : ℤ)
    (next behind : ℕ) (block : WalkView) (steps : ℕ) : Type 0 where
  pub its : parts ≡ stores
  pub walk : IsPathWalk parts index from next behind block
  pub passed : List Stop
  pub all : first.stops ≡ passed ++ (path_walk_of parts index from to next behind block).stops
  pub outside : first_among region passed ≡ None
  pub reads : steps + (path_walk_of parts index from to next behind block).reads ≤ before + first.reads
