-- The blocks of a period as they are found: in leaf order, each with its place by object.
use Rattle.std.specs.Prelude.{◌≡◌, ℕ, ◌<◌, List, length, map, slice_index, slice_index_or, take}
use Rattle.std.specs.List.{range_with_len}
use Rattle.snapshots.specs.Sound.{IsSnapshot}
use Rattle.snapshots.specs.TrackTree.{morton_of_block}
use Rattle.snapshots.specs.Tracks.{blocks_by_leaf}
use Rattle.snapshots.specs.View.{SnapshotView, block_at}
use Rattle.snapshots.specs.declared.anchored.Anchored.{Anchored}
use Rattle.snapshots.specs.declared.finding.FoundBlocks.{FoundBlocks}

-- these are the blocks of a snapshot at the places before one in leaf order
pub record AreFoundBefore (view : SnapshotView) (place : ℕ) (found : FoundBlocks) : Type 0 where
  pub blocks_are : found.by_leaf.items ≡ map (block_at view) (range_with_len 0 place)
  pub codes_are : found.codes.items ≡ map (morton_of_block view.frame) (map (block_at view) (range_with_len 0 place))
  pub ranks_are : found.ranks.items ≡ take place view.parts.perm

-- these are the blocks of a snapshot
pub record AreFound (view : SnapshotView) (found : FoundBlocks) : Type 0 where
  pub snapshot : IsSnapshot view
  pub blocks_are : found.by_leaf.items ≡ blocks_by_leaf view
  pub codes_are : found.codes.items ≡ map (morton_of_block view.frame) (blocks_by_leaf view)
  pub ranks_are : found.ranks.items ≡ view.parts.perm

-- the first of some blocks stand in a table, each at the place that is given for it
pub record ArePut (places : List ℕ) (blocks : List Anchored) (count : ℕ) (table : List Anchored) : Type 0 where
  pub long : length table ≡ length places
  pub put : (k : ℕ) (d : Anchored) → k < count
      → slice_index_or table (slice_index places k) d ≡ slice_index_or blocks k d
