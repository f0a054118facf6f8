use Rattle.std.proofs.Common.{◌≡◌, ◌<◌, All, ap, arith, length, map, subst, sym, ◌∙◌}
use Rattle.std.proofs.lemmas.List.{get_or_default}
use Rattle.std.proofs.lemmas.Result.{IfOk-weaker}
use Rattle.box_tree.specs.Places.{box_at}
use Rattle.track_types.specs.declared.frame.Frame.{Frame}
use Rattle.snapshots.specs.TrackTree.{IsKept}
use Rattle.snapshots.specs.Tracks.{blocks_by_leaf, track_box}
use Rattle.snapshots.proofs.KeptLemmas.{tracks-picked, IsStorable-picked}
use Rattle.snapshots.proofs.keeping.keep_tracks.Goals as goal
use Rattle.snapshots.proofs.keeping.keep_tracks.Goals.{After-deref-4}

-- the places are those of areas
pub picked-requires : goal.picked-requires
picked-requires c =
    let found = c.requires.found in
    let perm = c.args.snapshot.now.parts.perm in
    subst (All (λ place. place < length c.args.areas.now)) (sym (c.deref.ensures.value ∙ found.ranks_are))
    (λ k d within.
    omega (arith, c.requires.long, get_or_default perm k d 0 within, found.snapshot.sound.permutes.within k within))

-- the boxes are those of areas, in leaf order
boxes : (c : After-deref-4) → c.deref-4.result.now ≡ map (box_at c.args.areas.now) c.args.snapshot.now.parts.perm
boxes c =
    c.deref-4.ensures.value ∙ c.in_ok-boxes.ensures
    ∙ ap (map (box_at c.args.areas.now)) (c.deref.ensures.value ∙ c.requires.found.ranks_are)

pub store-requires : goal.store-requires
store-requires c =
    let found = c.requires.found in
    let its = IsStorable-picked c.args.snapshot.now c.args.areas.now c.frame-frame.result.now c.deref-2.result.now
    c.deref-3.result.now c.deref-4.result.now found.snapshot c.requires.long c.requires.from c.frame-frame.ensures.value
    (c.deref-2.ensures.value ∙ found.blocks_are) (c.deref-3.ensures.value ∙ found.codes_are)
    (boxes (goal.at.store-requires c).After-deref-4) in
    record { header = its.header; places = its.places; from = its.from; codes = its.codes_are; few = its.few }

pub returns-clause-tracks : goal.returns-clause-tracks
returns-clause-tracks c =
    let view = c.args.snapshot.now in
    let blocks : c.deref-2.result.now ≡ blocks_by_leaf view = c.deref-2.ensures.value ∙ c.requires.found.blocks_are in
    IfOk-weaker c.store.result _ _ (λ kept keeps rules areas.
    subst (λ bs. IsKept view.frame rules bs kept) blocks
    (subst (λ (f : Frame). IsKept f rules c.deref-2.result.now kept) c.frame-frame.ensures.value
    (keeps rules (boxes (goal.at.returns-clause-tracks c).After-deref-4
    ∙ tracks-picked view rules c.args.areas.now c.requires.found.snapshot areas
    ∙ ap (map (track_box rules)) (sym blocks))))) c.store.ensures.tracks
