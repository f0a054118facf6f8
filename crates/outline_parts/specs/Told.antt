-- The blocks of parts by period, then object, with the places of their logs.
use Rattle.std.specs.Prelude.{◌≡◌, ℕ, ◌<◌, List, length, map, slice_index}
use Rattle.std.specs.List.{flat_map}
use Rattle.bit_rank.specs.Bits.{rank_of}
use Rattle.object_perm.specs.Permutation.{inverse_of}
use Rattle.track_types.specs.declared.frame.Frame.{Frame}
use Rattle.track_types.specs.declared.parts.Parts.{Parts}
use Rattle.track_types.specs.declared.period_parts.PeriodParts.{PeriodParts}
use Rattle.k2_tree.specs.Tree.{codes_in}
use Rattle.snapshots.specs.Parts.{numbers_in, snapshot_in}
use Rattle.snapshots.specs.View.{SnapshotView, all_blocks, view_with, widths_in}
use Rattle.snapshots.specs.declared.anchored.Anchored.{Anchored}
use Rattle.outline_parts.specs.OutlineOf.{outline_block}
use Rattle.outline_parts.specs.declared.opening.PlacedBlock.{PlacedBlock}

-- the snapshot of a period's parts
abbrev pub period_view : Frame → ℕ → ℕ → PeriodParts → SnapshotView
period_view frame number start period = view_with frame number (length period.present) start period

-- a block of a period, with the place of its log
abbrev pub placed_block : Frame → ℕ → Anchored → PlacedBlock
placed_block frame number block = record { block = outline_block frame number block; start = block.from }

-- the blocks of a snapshot
abbrev pub placed_blocks_of : SnapshotView → List PlacedBlock
placed_blocks_of view = map (placed_block view.frame view.number) (all_blocks view)

-- all blocks, by period, then object
unfoldable pub told_placed : Parts → List PlacedBlock
told_placed parts = flat_map (λ number. placed_blocks_of (snapshot_in parts number)) (numbers_in parts.frame)

-- the numbers are those of the cells of present objects, by rank
pub record AreByRank (view : SnapshotView) (codes : List ℕ) : Type 0 where
  pub long : length codes ≡ length view.parts.perm
  pub each : (rank : ℕ) → rank < length codes → slice_index codes rank
      ≡ slice_index (codes_in (widths_in view.frame) view.parts.tree) (rank_of view.parts.lasts (inverse_of view.parts.perm rank))
