use Rattle.std.proofs.Common.{◌≡◌, length, ap, subst, sym, map, All, ◌∙◌}
use Rattle.std.proofs.lemmas.List.{length-map}
use Rattle.box_tree.specs.Boxes.{IsFrom}
use Rattle.track_types.specs.Boxes.{moved_box}
use Rattle.track_types.specs.declared.frame.Frame.{Frame}
use Rattle.log_bounds.specs.declared.bounds.LogBounds.{LogBounds}
use Rattle.snapshots.proofs.BoundedLemmas.{blocks_speed-bounded, length-anchors, tracks-bounded}
use Rattle.snapshots.proofs.bounded.keep_bounded.Goals as goal

pub keep_tracks-requires : goal.keep_tracks-requires
keep_tracks-requires g c =
    let view = c.args.snapshot.now in
    let found = c.in_ok-found.ensures.found in
    let frame : c.frame.result.now ≡ view.frame = c.frame.ensures.value in
    let areas = c.deref.ensures.value in
    record {
      found = found;
      long = ap length (areas ∙ c.in_ok-areas.ensures.ok)
          ∙ length-map c.args.bounds.now (λ (log : LogBounds). moved_box c.frame.result.now.base log.area)
          ∙ length-anchors view found.snapshot c.args.bounds.now c.requires.bounds;
      from = subst (λ (f : Frame). All (IsFrom f.base) c.deref.result.now) frame
          (subst (All (IsFrom c.frame.result.now.base)) (sym areas) c.in_ok-areas.ensures.from);
    }

pub returns-clause-speed : goal.returns-clause-speed
returns-clause-speed g c = λ rules are.
    c.greatest_speed-speed.ensures ∙ blocks_speed-bounded rules c.args.snapshot.now c.args.bounds.now are

pub returns-clause-tracks : goal.returns-clause-tracks
returns-clause-tracks g c = λ rules are.
    let view = c.args.snapshot.now in
    c.in_ok-tracks.ensures.tracks rules (c.deref.ensures.value ∙ c.in_ok-areas.ensures.ok
    ∙ ap (λ (f : Frame). map (λ (log : LogBounds). moved_box f.base log.area) c.args.bounds.now) c.frame.ensures.value
    ∙ tracks-bounded rules view c.args.bounds.now are)
