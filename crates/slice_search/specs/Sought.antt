-- What is sought in one period: the first stop of each block in a window and a region.
use Rattle.std.specs.Prelude.{ℕ, ◌+◌, ℤ, Bool, List, All, filter, Option, is_some}
use Rattle.std.specs.Int.{int_min}
use Rattle.track_types.specs.declared.frame.Frame.{Frame}
use Rattle.track_types.specs.declared.parts.Parts.{Parts}
use Rattle.track_types.specs.declared.region.Region.{Region}
use Rattle.track_types.specs.declared.stop.Stop.{Stop}
use Rattle.log_cursor.specs.Start.{start_at}
use Rattle.log_cursor.specs.Touching.{first_hit_of, touching_count}
use Rattle.snapshots.specs.Objects.{WeighSame}
use Rattle.snapshots.specs.Parts.{anchored_at, end_in, log_in, rules_in, snapshot_in}
use Rattle.snapshots.specs.Sound.{IsBlock}
use Rattle.snapshots.specs.View.{all_blocks}
use Rattle.snapshots.specs.declared.anchored.Anchored.{Anchored}

-- the last instant of a window, or of a period that ends before it
abbrev pub latest_in : Frame → ℕ → ℤ → ℤ
latest_in frame number to = int_min to (end_in frame number)

-- the first stop of a block in a window and a region
unfoldable pub first_stop_in : Parts → ℕ → ℤ → ℤ → Region → Anchored → Option Stop
first_stop_in parts number from to region block = first_hit_of (rules_in parts) (log_in parts block)
    (start_at (anchored_at parts.frame number block) block.cell) from to region

-- whether a block has a stop in a window and a region
abbrev pub has_stop_in : Parts → ℕ → ℤ → ℤ → Region → Anchored → Bool
has_stop_in parts number from to region block = is_some (first_stop_in parts number from to region block)

-- the reads in a block's log by which its first stop in a window and a region is found
unfoldable pub log_reads : Parts → ℕ → ℤ → ℤ → Region → Anchored → ℕ
log_reads parts number from to region block = block.len + touching_count (rules_in parts)
    (start_at (anchored_at parts.frame number block) block.cell) (log_in parts block) from to region

-- What a search comes to: blocks of the period. Each that has a stop in the window and the region is among them once.
pub record AreSought (parts : Parts) (number : ℕ) (from to : ℤ) (region : Region) (blocks : List Anchored)
    : Type 0 where
  pub are : All (IsBlock (snapshot_in parts number)) blocks
  pub wanted : WeighSame (filter (has_stop_in parts number from to region) blocks)
      (filter (has_stop_in parts number from to region) (all_blocks (snapshot_in parts number)))
