use Rattle.std.proofs.Common.{◌≡◌, None, ap, refl, sym, subst, ◌∙◌}
use Rattle.std.proofs.lemmas.Result.{err_from_is_err_and}
use Rattle.track_types.specs.Frame.{instants_in, wide_of}
use Rattle.track_types.specs.declared.frame.Frame.{Frame}
use Rattle.k2_tree.specs.Flaws.{StandsFor}
use Rattle.snapshots.specs.View.{SnapshotView, view_with}
use Rattle.snapshots.specs.Flaws.{bits_flaw, flaw_of, IsSnapFaultFor}
use Rattle.snapshots.proofs.JudgedLemmas.{flaw_of-cells, flaw_of-perm, snapshot_view-parts, IsBegun, IsBegun-found}
use Rattle.snapshots.proofs.JudgedLemmas.{IsStoredAs, IsStoredSnapshot-flawless}
use Rattle.snapshots.proofs.SoundLemmas.{IsSoundPeriod-flawless}
use Rattle.snapshots.proofs.snapshot.Snapshot.check_under.Goals as goal
use Rattle.snapshots.proofs.snapshot.Snapshot.check_under.Goals.{After-has_cells, After-of-2}

-- the header is the one that is kept
frame_is : (c : After-has_cells) → c.frame-frame.result.now ≡ c.args.header.now.value
frame_is c = c.frame-frame.ensures ∙ c.deref.ensures

-- the tree is under it
stands_of : (c : After-has_cells) → StandsFor c.args.header.now.value.height (wide_of c.args.header.now.value)
    c.args.header.now.value.base c.args.parts.tree c.in_ok-tree.tree
stands_of c =
    subst (λ (f : Frame). StandsFor f.height (wide_of f) f.base c.args.parts.tree c.in_ok-tree.tree) (frame_is c)
    c.in_ok-tree.ensures.ok

-- what the judgement of the cells found
begun_of : (c : After-has_cells)
    → IsBegun (view_with c.args.header.now.value c.args.number c.args.objects c.args.start c.args.parts)
    c.has_cells.result
begun_of c =
    IsBegun-found (view_with c.args.header.now.value c.args.number c.args.objects c.args.start c.args.parts)
    c.in_ok-tree.tree c.instants_in.result c.leaves.result c.as_slice.result.now c.has_cells.result c.as_slice.ensures
    (c.instants_in.ensures ∙ ap (λ (f : Frame). instants_in f c.args.number) (frame_is c)) c.in_default.ensures
    (subst (λ (f : Frame). bits_flaw c.args.number f c.args.parts.tree ≡ None) (frame_is c) c.in_ok-tree.ensures.exact)
    (stands_of c) c.leaves.ensures.value c.has_cells.ensures

pub returns-then-not-has_cells-clause-flaw : goal.returns-then-not-has_cells-clause-flaw
returns-then-not-has_cells-clause-flaw c =
    let view : SnapshotView =
    view_with c.args.header.now.value c.args.number c.args.objects c.args.start c.args.parts in
    let begun = begun_of (goal.at.returns-then-not-has_cells-clause-flaw c).After-has_cells in
    subst (IsSnapFaultFor (flaw_of view)) (sym c.flaw-then-not-has_cells.ensures)
    (rw c.len.ensures (flaw_of-cells view c.has_cells.result begun c.if-not-has_cells.true))

pub returns-in_err-perm-clause-flaw : goal.returns-in_err-perm-clause-flaw
returns-in_err-perm-clause-flaw c =
    let view : SnapshotView =
    view_with c.args.header.now.value c.args.number c.args.objects c.args.start c.args.parts in
    let begun = begun_of (goal.at.returns-in_err-perm-clause-flaw c).After-has_cells in
    let known : IsSnapFaultFor (flaw_of view) c.in_err-perm.field-0.0 =
    subst (λ first. IsSnapFaultFor first c.in_err-perm.field-0.0)
    (sym (flaw_of-perm view c.has_cells.result begun c.if-not-has_cells.false)) c.in_err-perm.ensures.flaw in
    let given = err_from_is_err_and c.from_residual-in_err-perm.result c.from_residual-in_err-perm.ensures.1 in
    rw (given.1, given.2) known

-- what is stored is the view
stored : (c : After-of-2) → StandsFor c.args.header.now.value.height (wide_of c.args.header.now.value)
    c.args.header.now.value.base c.args.parts.tree c.in_ok-tree.tree
    → IsStoredAs (view_with c.args.header.now.value c.args.number c.args.objects c.args.start c.args.parts) c.in_ok-tree.tree
    c.in_ok-perm.perm c.in_ok-store.store c.of.result.value c.of-2.result.value
stored c stands = record {
  shaped = c.requires;
  stands = stands;
  permuted = c.in_ok-perm.ensures.ok;
  header = rw (c.in_ok-store.ensures.header, c.in_ok-header.ensures.cases) refl;
  numbered = c.of.ensures;
  begins = c.of-2.ensures;
  objects = c.in_ok-store.ensures.objects;
  parts = c.in_ok-store.ensures.parts;
  kept = c.in_ok-store.ensures.tree;
}

pub invariant_of-result : goal.invariant_of-result
invariant_of-result c =
    let view : SnapshotView =
    view_with c.args.header.now.value c.args.number c.args.objects c.args.start c.args.parts in
    let at = goal.at.invariant_of-result c in
    let begun = begun_of at.After-has_cells in
    IsStoredSnapshot-flawless view _ _ _ _ _ (stored at.After-of-2 (stands_of at.After-has_cells))
    (flaw_of-perm view c.has_cells.result begun c.if-not-has_cells.false ∙ c.in_ok-perm.ensures.exact)
    c.in_ok-store.ensures.starts

pub returns-clause-ok : goal.returns-clause-ok
returns-clause-ok c =
    let at = goal.at.returns-clause-ok c in
    snapshot_view-parts _ _ _ _ _ _ (stored at.After-of-2 (stands_of at.After-has_cells))

pub returns-clause-sound : goal.returns-clause-sound
returns-clause-sound c =
    let view : SnapshotView =
    view_with c.args.header.now.value c.args.number c.args.objects c.args.start c.args.parts in
    let begun = begun_of (goal.at.returns-clause-sound c).After-has_cells in
    IsSoundPeriod-flawless view c.requires
    (flaw_of-perm view c.has_cells.result begun c.if-not-has_cells.false ∙ c.in_ok-perm.ensures.exact)

pub returns-clause-exact : goal.returns-clause-exact
returns-clause-exact c =
    let view : SnapshotView =
    view_with c.args.header.now.value c.args.number c.args.objects c.args.start c.args.parts in
    let begun = begun_of (goal.at.returns-clause-exact c).After-has_cells in
    flaw_of-perm view c.has_cells.result begun c.if-not-has_cells.false ∙ c.in_ok-perm.ensures.exact
