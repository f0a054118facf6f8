-- A walk over blocks, from draw to draw.
use Rattle.std.proofs.Common.{◌≡◌, ℕ, ◌+◌, ◌*◌, ◌≤◌, Bool, List, [], ◌∷◌, ◌++◌, length, refl, ap, arith}
use Rattle.std.proofs.lemmas.List.{length-append}
use Rattle.std.proofs.lemmas.List.Sums.{sum_by-cons}
use Rattle.std.specs.Prelude.{None}
use Rattle.track_types.specs.declared.cell.Cell.{Cell}
use Rattle.track_types.specs.declared.cell_box.CellBox.{CellBox}
use Rattle.k2_tree.specs.Pruned.{pruned_budget, pruned_left}
use Rattle.snapshots.specs.View.{SnapshotView, blocks_in}
use Rattle.snapshots.specs.Cost.{block_reads, first_reads}
use Rattle.snapshots.specs.Objects.{begun_left, begun_reads, blocks_of, objects_budget, objects_left, reads_of_leaves}
use Rattle.snapshots.specs.declared.objects_in.ObjectsIn.{ObjectsIn}

-- what leaves without a block leave: the same snapshot and blocks, and the reads from the budget
pub record IsGiving {F : Type 0} (keeps : F → CellBox → Bool) (first now : ObjectsIn F) (begun steps : ℕ) : Type 0 where
  pub same : now.snapshot.now ≡ first.snapshot.now
  pub left : objects_left keeps now ≡ objects_left keeps first
  pub cost : steps + objects_budget keeps now ≤ begun + objects_budget keeps first

-- the reads for the blocks of leaves: so many for each leaf, and so many for each block
pub reads_of_leaves-parts : (view : SnapshotView) (leaves : List (ℕ × Cell))
    → reads_of_leaves view leaves ≡ first_reads * length leaves + block_reads * length (blocks_of view leaves)
reads_of_leaves-parts view [] = refl
reads_of_leaves-parts view (leaf ∷ leaves) =
    let first = sum_by-cons (λ leaf. first_reads + block_reads * length (blocks_in view leaf.0)) leaf leaves in
    let blocks = length-append (blocks_in view leaf.0) (blocks_of view leaves) in
    omega (arith, first, blocks, reads_of_leaves-parts view leaves)

-- a walk that has begun no cell has the blocks of the leaves that are left
pub objects_left-unbegun : {F : Type 0} (keeps : F → CellBox → Bool) (objects : ObjectsIn F) → objects.members ≡ None
    → objects_left keeps objects ≡ blocks_of objects.snapshot.now (pruned_left keeps objects.pruned)
objects_left-unbegun keeps objects none =
    ap (λ begun. begun_left begun ++ blocks_of objects.snapshot.now (pruned_left keeps objects.pruned)) none

-- and the reads for them
pub objects_budget-unbegun : {F : Type 0} (keeps : F → CellBox → Bool) (objects : ObjectsIn F) → objects.members ≡ None
    → objects_budget keeps objects
    ≡ pruned_budget keeps objects.pruned + first_reads * length (pruned_left keeps objects.pruned)
    + block_reads * length (objects_left keeps objects)
objects_budget-unbegun keeps objects none =
    let view : SnapshotView = objects.snapshot.now in
    let leaves : List (ℕ × Cell) = pruned_left keeps objects.pruned in
    let reads = ap (λ begun. begun_reads begun + (pruned_budget keeps objects.pruned + reads_of_leaves view leaves)) none in
    let blocks = ap length (objects_left-unbegun keeps objects none) in
    omega (arith, reads, blocks, reads_of_leaves-parts view leaves)
