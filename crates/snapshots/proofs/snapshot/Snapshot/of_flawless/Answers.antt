use Rattle.std.proofs.Common.{ap, length, refl, subst, ◌∙◌}
use Rattle.object_perm.proofs.FlawLemmas.{permutes-from_none}
use Rattle.track_types.specs.Frame.{wide_of}
use Rattle.track_types.specs.declared.frame.Frame.{Frame}
use Rattle.k2_tree.specs.Flaws.{StandsFor}
use Rattle.k2_tree.proofs.CellLemmas.{tree_of-StandsFor}
use Rattle.snapshots.specs.View.{SnapshotView, view_with}
use Rattle.snapshots.proofs.FlawlessLemmas.{IsFlawless-from_none}
use Rattle.snapshots.proofs.JudgedLemmas.{IsStoredSnapshot-flawless}
use Rattle.snapshots.proofs.SoundLemmas.{IsSoundPeriod-flawless}
use Rattle.snapshots.proofs.snapshot.Snapshot.of_flawless.Goals as goal
use Rattle.snapshots.proofs.snapshot.Snapshot.of_flawless.Goals.{In_ok-tree}

-- the tree is under the header that is kept
stands_of : (c : In_ok-tree) → StandsFor c.args.header.now.value.height (wide_of c.args.header.now.value)
    c.args.header.now.value.base c.args.parts.tree c.in_ok-tree.tree
stands_of c =
    let bits = c.args.parts.tree in
    let tree = c.in_ok-tree.tree in
    let under = c.frame-frame.result.now in
    subst (λ (f : Frame). StandsFor f.height (wide_of f) f.base bits tree) (c.frame-frame.ensures ∙ c.deref.ensures)
    (subst (λ wide. StandsFor under.height wide under.base bits tree) c.wide_levels.ensures c.in_ok-tree.ensures.ok)

pub of_bits-requires-clause-flawless : goal.of_bits-requires-clause-flawless
of_bits-requires-clause-flawless c =
    let view : SnapshotView =
    view_with c.args.header.now.value c.args.number c.args.objects c.args.start c.args.parts in
    rw (c.wide_levels.ensures, c.frame-frame.ensures, c.deref.ensures)
    (IsFlawless-from_none view c.requires.flawless).tree

pub of_permutation-requires-clause-permutes : goal.of_permutation-requires-clause-permutes
of_permutation-requires-clause-permutes c =
    let view : SnapshotView =
    view_with c.args.header.now.value c.args.number c.args.objects c.args.start c.args.parts in
    permutes-from_none c.args.parts.perm (IsFlawless-from_none view c.requires.flawless).perm

pub store-requires-clause-cells : goal.store-requires-clause-cells
store-requires-clause-cells c =
    let view : SnapshotView =
    view_with c.args.header.now.value c.args.number c.args.objects c.args.start c.args.parts in
    let stands = stands_of (goal.at.store-requires-clause-cells c).In_ok-tree in
    (IsSoundPeriod-flawless view c.requires.shaped c.requires.flawless).cells
    ∙ ap (λ t. length t.cells)
    (tree_of-StandsFor view.frame.height (wide_of view.frame) view.frame.base view.parts.tree c.in_ok-tree.tree stands)

pub invariant_of-result : goal.invariant_of-result
invariant_of-result c =
    IsStoredSnapshot-flawless (view_with c.args.header.now.value c.args.number c.args.objects c.args.start c.args.parts)
    c.in_ok-tree.tree c.in_ok-perm.perm c.in_ok-store.store c.of.result.value c.of-2.result.value (record {
      shaped = c.requires.shaped;
      stands = stands_of (goal.at.invariant_of-result c).In_ok-tree;
      permuted = c.in_ok-perm.ensures.ok;
      header = rw (c.in_ok-store.ensures.header, c.in_ok-header.ensures.cases) refl;
      numbered = c.of.ensures;
      begins = c.of-2.ensures;
      objects = c.in_ok-store.ensures.objects;
      parts = c.in_ok-store.ensures.parts;
      kept = c.in_ok-store.ensures.tree;
    }) c.requires.flawless c.in_ok-store.ensures.starts

pub returns-clause-sound : goal.returns-clause-sound
returns-clause-sound c =
    IsSoundPeriod-flawless (view_with c.args.header.now.value c.args.number c.args.objects c.args.start c.args.parts)
    c.requires.shaped c.requires.flawless
