-- The first flaw of a period, from those of its parts; and parts without one, which are stored.
use Rattle.std.proofs.Common.{◌≡◌, ℕ, Bool, true, false, List, length, Option, None, Some, IfSome}
use Rattle.std.proofs.Common.{refl, ap, sym, subst, ◌∙◌}
use Rattle.std.specs.Global.{Box}
use Rattle.track_types.specs.Flaws.{flaw_in}
use Rattle.track_types.specs.Frame.{instants_in, wide_of}
use Rattle.track_types.specs.declared.flaw.Section.TheVariants.{Lasts}
use Rattle.track_types.specs.declared.flaw.Kind.TheVariants.{Cells}
use Rattle.track_types.specs.declared.period_parts.PeriodParts.{PeriodParts}
use Rattle.k2_tree.specs.Tree.{Tree, codes_in, tree_bits, tree_of}
use Rattle.k2_tree.specs.Flaws.{StandsFor}
use Rattle.k2_tree.proofs.CellLemmas.{tree_of-StandsFor}
use Rattle.snapshots.specs.View.{SnapshotView, tree_in, view_with}
use Rattle.snapshots.specs.Flaws.{bits_flaw, flaw_of, have_cells, offset_flaw, perm_flaw, IsShapedView}
use Rattle.snapshots.specs.Stored.{blocks_stored, frame_stored, objects_stored, parts_with, starts_in, starts_of, tree_stored, snapshot_view, IsStoredSnapshot}
use Rattle.snapshots.specs.declared.blocks.Blocks.{Blocks}
use Rattle.snapshots.specs.declared.period_store.PeriodStore.{PeriodStore}
use Rattle.snapshots.proofs.SoundLemmas.{IsSoundPeriod-flawless}

-- the anchors and the tree have no flaw, and it is known whether the last objects fit the leaves
pub record IsBegun (view : SnapshotView) (fit : Bool) : Type 0 where
  pub late : offset_flaw (instants_in view.frame view.number) view.parts.offsets ≡ None
  pub bits : bits_flaw view.number view.frame view.parts.tree ≡ None
  pub cells : have_cells view.parts.lasts (length (tree_in view).cells) ≡ fit

-- what was found of the anchors and the tree
pub IsBegun-found : (view : SnapshotView) (tree : Tree) (instants leaves : ℕ) (offsets : List ℕ) (fit : Bool)
    → offsets ≡ view.parts.offsets → instants ≡ instants_in view.frame view.number → None ≡ offset_flaw instants offsets
    → bits_flaw view.number view.frame view.parts.tree ≡ None
    → StandsFor view.frame.height (wide_of view.frame) view.frame.base view.parts.tree tree → leaves ≡ length tree.cells
    → fit ≡ have_cells view.parts.lasts leaves → IsBegun view fit
IsBegun-found view tree instants leaves offsets fit a b late bits stands count cells = record {
  late = sym (ap (offset_flaw (instants_in view.frame view.number)) a) ∙ sym (ap (λ n. offset_flaw n offsets) b)
      ∙ sym late;
  bits = bits;
  cells = ap (λ t. have_cells view.parts.lasts (length t.cells))
      (tree_of-StandsFor view.frame.height (wide_of view.frame) view.frame.base view.parts.tree tree stands)
      ∙ ap (have_cells view.parts.lasts) (sym count) ∙ sym cells;
}

-- the last objects do not fit the leaves
pub flaw_of-cells : (view : SnapshotView) (fit : Bool) → IsBegun view fit → fit ≡ false
    → flaw_of view ≡ Some (flaw_in view.number Lasts Cells (length view.parts.lasts))
flaw_of-cells view fit begun not = rw (begun.late, begun.bits, begun.cells, not) refl

-- the last objects fit the leaves
pub flaw_of-perm : (view : SnapshotView) (fit : Bool) → IsBegun view fit → fit ≡ true
    → flaw_of view ≡ perm_flaw view.number view.parts.lasts view.parts.perm
flaw_of-perm view fit begun is = rw (begun.late, begun.bits, begun.cells, is) refl

-- the parts with these tree bits and this permutation in place of theirs
abbrev pub with_checked : PeriodParts → List Bool → List ℕ → PeriodParts
with_checked parts tree perm = record {
  present = parts.present;
  offsets = parts.offsets;
  tree = tree;
  lasts = parts.lasts;
  perm = perm;
  lengths = parts.lengths;
}

-- the stored tree is the one of the anchors' cells
tree_stored-is : (view : SnapshotView) (tree : Tree) (blocks : Option (Box Blocks))
    → StandsFor view.frame.height (wide_of view.frame) view.frame.base view.parts.tree tree
    → parts_with view.objects blocks ≡ view.parts → IfSome blocks (λ kept. kept.value.tree ≡ tree)
    → tree_in view ≡ tree_stored view.frame blocks
unfolding codes_in
tree_stored-is view tree None stands told kept =
    ap (λ parts. tree_of view.frame.height (wide_of view.frame) view.frame.base parts.tree) (sym told)
tree_stored-is view tree (Some blocks) stands told kept =
    tree_of-StandsFor view.frame.height (wide_of view.frame) view.frame.base view.parts.tree tree stands ∙ sym kept

-- what is stored of a view's parts, with its numbers, once its tree and its permutation are made
pub record IsStoredAs (view : SnapshotView) (tree : Tree) (perm : List ℕ) (store : PeriodStore) (number start : ℕ) : Type 0 where
  pub shaped : IsShapedView view
  pub stands : StandsFor view.frame.height (wide_of view.frame) view.frame.base view.parts.tree tree
  pub permuted : perm ≡ view.parts.perm
  pub header : frame_stored store ≡ view.frame
  pub numbered : number ≡ view.number
  pub begins : start ≡ view.start
  pub objects : objects_stored store ≡ length view.parts.present
  pub parts : parts_with (length view.parts.present) (blocks_stored store) ≡ with_checked view.parts (tree_bits tree) perm
  pub kept : IfSome (blocks_stored store) (λ it. it.value.tree ≡ tree)

module _ (view : SnapshotView) (tree : Tree) (perm : List ℕ) (store : PeriodStore) (number start : ℕ)
    (is : IsStoredAs view tree perm store number start) where
  -- it is these parts
  told : parts_with view.objects (blocks_stored store) ≡ view.parts
  told =
      ap (λ n. parts_with n (blocks_stored store)) (sym is.shaped.presence) ∙ is.parts
      ∙ ap (λ bits. with_checked view.parts bits perm) is.stands.same ∙ ap (with_checked view.parts view.parts.tree) is.permuted

  -- so it tells the view
  pub snapshot_view-parts : snapshot_view (frame_stored store) number (objects_stored store) start (blocks_stored store) ≡ view
  snapshot_view-parts =
      rw (is.header, is.numbered, is.begins, is.objects, is.shaped.presence) (ap (view_with view.frame view.number view.objects view.start) told)

  -- and is stored as it should be, where the view has no flaw
  pub IsStoredSnapshot-flawless : flaw_of view ≡ None → starts_in (blocks_stored store) ≡ starts_of view.start view.parts.lengths
      → IsStoredSnapshot (snapshot_view (frame_stored store) number (objects_stored store) start (blocks_stored store))
      (tree_stored (frame_stored store) (blocks_stored store)) (starts_in (blocks_stored store))
  IsStoredSnapshot-flawless none begin =
      subst (λ v. IsStoredSnapshot v (tree_stored v.frame (blocks_stored store)) (starts_in (blocks_stored store)))
      (sym snapshot_view-parts) (record {
        is = record { shaped = is.shaped; sound = IsSoundPeriod-flawless view is.shaped none };
        tree_is = tree_stored-is view tree (blocks_stored store) is.stands told is.kept;
        begin = begin;
      })
