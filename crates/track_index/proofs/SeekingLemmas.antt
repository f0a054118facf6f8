-- The walk of a path that looks for its first stop in a region.
use Rattle.std.proofs.Common.{◌≡◌, ℕ, ◌+◌, ◌≤◌, ℤ, List, [], ◌++◌, All, Option, None, Some, append_assoc, refl, ap, sym, subst, ◌∙◌, arith}
use Rattle.std.specs.Option.{option_to_list}
use Rattle.std.proofs.lemmas.List.Folds.{find-append}
use Rattle.list_laws.proofs.FrontLemmas.{All-back}
use Rattle.track_types.specs.Region.{in_region}
use Rattle.track_types.specs.declared.parts.Parts.{Parts}
use Rattle.track_types.specs.declared.region.Region.{Region}
use Rattle.track_types.specs.declared.stop.Stop.{Stop}
use Rattle.log_cursor.specs.Touching.{IsDrawnIn}
use Rattle.log_cursor.specs.Walk.{WalkView}
use Rattle.log_cursor.proofs.SearchLemmas.{IsDrawnIn-after, IsDrawnIn-before}
use Rattle.object_track.specs.Between.{stops_between}
use Rattle.object_track.proofs.BetweenLemmas.{stops_between-none}
use Rattle.track_index.specs.Path.{IsDrawing, IsOfLast, IsPathWalk, IsSeekingIn, PathView, path_walk_of}

-- a walk that has yet to draw anything
pub drawing-here : (stores parts : Parts) (index : ℕ) (from to : ℤ) (next behind : ℕ) (block : WalkView) (steps : ℕ) →
    parts ≡ stores → IsPathWalk parts index from next behind block →
    IsDrawing (path_walk_of parts index from to next behind block) steps stores parts index from to next behind block steps
drawing-here stores parts index from to next behind block steps its walk = record {
  its = its;
  walk = walk;
  stops = refl;
  reads = omega arith;
  in_time = λ instant window begun. omega arith;
}

module _ {region : Region} {first : PathView} {before : ℕ} {stores parts : Parts} {index : ℕ} {from to : ℤ} {next behind : ℕ}
    {block : WalkView} {steps : ℕ}
    (seeking : IsSeekingIn region first before stores parts index from to next behind block steps) where
  abbrev later : List Stop
  later = stops_between parts index from to next behind

  -- the block that was begun has a hit, or none
  module _ {after : WalkView} {hit : Option Stop} (drawn : IsDrawnIn region block.stops after.stops hit)
      (rules_are : after.rules ≡ block.rules) where
    pub seeking-walk : IsPathWalk parts index from next behind after
    seeking-walk = record {
      known = seeking.walk.known;
      within = seeking.walk.within;
      rules_are = rules_are ∙ seeking.walk.rules_are;
      stops_are =
          let test : Stop → Type 0 = IsOfLast parts.frame from next in
          All-back test (option_to_list hit) after.stops
          (All-back test drawn.passed _ (subst (All test) drawn.all seeking.walk.stops_are));
    }

    -- none, and all of it was passed
    pub seeking-passed : (looked : ℕ) → hit ≡ None → looked + after.reads ≤ steps + block.reads →
        IsSeekingIn region first before stores parts index from to next behind after looked
    seeking-passed looked none cost =
        let passed : block.stops ≡ drawn.passed ++ after.stops =
        drawn.all ∙ ap (λ h. drawn.passed ++ (option_to_list h ++ after.stops)) none in
        record {
          its = seeking.its;
          walk = seeking-walk;
          passed = seeking.passed ++ drawn.passed;
          all = seeking.all
              ∙ ap (λ s. seeking.passed ++ (s ++ later)) passed
              ∙ ap (λ s. seeking.passed ++ s) (append_assoc drawn.passed after.stops later)
              ∙ sym (append_assoc seeking.passed drawn.passed (after.stops ++ later));
          outside = find-append (λ (stop : Stop). in_region region stop.cell) seeking.passed drawn.passed
              ∙ rw (seeking.outside, drawn.outside) refl;
          reads = omega (arith, seeking.reads, cost);
        }

  -- a hit, after which the others are left
  pub seeking-hit : (after : WalkView) (hit : Stop) → IsDrawnIn region block.stops after.stops (Some hit) →
      IsDrawnIn region first.stops (path_walk_of parts index from to next behind after).stops (Some hit)
  seeking-hit after hit drawn =
      subst (λ stops. IsDrawnIn region stops (after.stops ++ later) (Some hit)) (sym seeking.all)
      (IsDrawnIn-after region seeking.passed (block.stops ++ later) (after.stops ++ later) (Some hit) seeking.outside
      (IsDrawnIn-before region block.stops after.stops later hit drawn))

  -- nothing is left, and no period is left
  pub seeking-end : block.stops ≡ [] → behind ≤ next →
      IsDrawnIn region first.stops (path_walk_of parts index from to next behind block).stops None
  seeking-end empty over = record {
    passed = seeking.passed;
    all = seeking.all;
    outside = seeking.outside;
    inside = tt;
    end = rw empty (stops_between-none parts index from to next behind over);
  }

  -- the walk went on to other periods, as one that draws all stops does
  pub seeking-on : {other : ℕ} {after : WalkView} {looked : ℕ} →
      IsDrawing (path_walk_of parts index from to next behind block) steps stores parts index from to other behind after looked →
      IsSeekingIn region first before stores parts index from to other behind after looked
  seeking-on drawing = record {
    its = seeking.its;
    walk = drawing.walk;
    passed = seeking.passed;
    all = seeking.all ∙ ap (λ s. seeking.passed ++ s) drawing.stops;
    outside = seeking.outside;
    reads = omega (arith, seeking.reads, drawing.reads);
  }
