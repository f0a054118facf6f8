-- What is left of a walk over the blocks whose anchors lie in squares that pass a test.
use Rattle.std.specs.Prelude.{◌≡◌, ℕ, ◌+◌, ◌*◌, Bool, List, [], ◌++◌, length, filter, Option, None, Some}
use Rattle.std.specs.List.{flat_map, sum_by}
use Rattle.step_count.specs.Reads.{Read, is_of_period}
use Rattle.track_types.specs.declared.cell.Cell.{Cell}
use Rattle.track_types.specs.declared.cell_box.CellBox.{CellBox}
use Rattle.k2_tree.specs.Pruning.{passes_at}
use Rattle.k2_tree.specs.Pruned.{pruned_budget, pruned_left}
use Rattle.snapshots.specs.View.{SnapshotView, all_blocks, blocks_in, objects_at, tree_in}
use Rattle.snapshots.specs.Cost.{block_reads, first_reads}
use Rattle.snapshots.specs.Members.{MembersView}
use Rattle.snapshots.specs.declared.anchored.Anchored.{Anchored}
use Rattle.snapshots.specs.declared.objects_in.ObjectsIn.{ObjectsIn}

-- the blocks of leaves, leaf by leaf
abbrev pub blocks_of : SnapshotView → List (ℕ × Cell) → List Anchored
blocks_of view leaves = flat_map (λ leaf. blocks_in view leaf.0) leaves

-- the blocks of leaves, each leaf's found by going through all objects in order
abbrev pub objects_of_leaves : SnapshotView → List (ℕ × Cell) → List Anchored
objects_of_leaves view leaves = flat_map (λ leaf. objects_at view leaf.0) leaves

-- the blocks of the period whose cells pass a test on each square from the whole grid down, by object
unfoldable pub passing_blocks : (CellBox → Bool) → SnapshotView → List Anchored
passing_blocks keep view = filter (λ block. passes_at keep (tree_in view) block.cell) (all_blocks view)

-- the blocks whose cells are wanted
abbrev pub wanted_blocks : (Cell → Bool) → List Anchored → List Anchored
wanted_blocks wanted blocks = filter (λ block. wanted block.cell) blocks

-- the lists have the same blocks, each as often, in whatever order: every weight adds up to the same over both
unfoldable pub WeighSame : List Anchored → List Anchored → Type 0
WeighSame blocks others = (weight : Anchored → ℕ) → sum_by weight blocks ≡ sum_by weight others

-- the reads by which the blocks of leaves are found
abbrev pub reads_of_leaves : SnapshotView → List (ℕ × Cell) → ℕ
reads_of_leaves view leaves = sum_by (λ leaf. first_reads + block_reads * length (blocks_in view leaf.0)) leaves

-- the blocks that are left of the cell that was begun, if one was
abbrev pub begun_left : Option MembersView → List Anchored
begun_left None = []
begun_left (Some members) = members.blocks

-- the reads that are still to be made for them
abbrev pub begun_reads : Option MembersView → ℕ
begun_reads None = 0
begun_reads (Some members) = members.reads

-- the reads that are needed for them
abbrev pub objects_needs : {F : Type 0} → ObjectsIn F → Read → Bool
objects_needs objects = is_of_period objects.snapshot.now.number

module _ {F : Type 0} (keeps : F → CellBox → Bool) where
  -- the blocks that are left
  abbrev pub objects_left : ObjectsIn F → List Anchored
  objects_left objects = begun_left objects.members ++ blocks_of objects.snapshot.now (pruned_left keeps objects.pruned)

  -- a bound on the reads that are still to be made for them
  abbrev pub objects_budget : ObjectsIn F → ℕ
  objects_budget objects = begun_reads objects.members
      + (pruned_budget keeps objects.pruned + reads_of_leaves objects.snapshot.now (pruned_left keeps objects.pruned))
