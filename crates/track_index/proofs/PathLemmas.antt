-- The walk of a path: each period gives way to the next.
use Rattle.std.proofs.Common.{◌≡◌, ℕ, ◌+◌, ◌-◌, ◌<◌, ◌≤◌, ℤ, ◌≤ℤ◌, true, List, [], ◌∷◌, ◌++◌, All, None, Some, refl, ap, sym, subst, ◌∙◌, arith, inl, inr}
use Rattle.std.specs.Int.Signed.{le_z}
use Rattle.std.proofs.lemmas.Bool.{cases_Bool}
use Rattle.std.proofs.lemmas.Int.{ints}
use Rattle.std.proofs.lemmas.List.Elements.{All-head, All-same, All-tail}
use Rattle.track_types.specs.Frame.{periods_of}
use Rattle.track_types.specs.declared.parts.Parts.{Parts}
use Rattle.track_types.specs.declared.stop.Stop.{Stop}
use Rattle.track_types.proofs.RegionLemmas.{le_z-from}
use Rattle.rule_store.specs.View.{RulesView}
use Rattle.rule_store.specs.Log.{in_window}
use Rattle.log_cursor.specs.Start.{start_at}
use Rattle.log_cursor.specs.declared.start.Start.{Start}
use Rattle.log_cursor.specs.Walk.{reads_to, walk_from, IsDrawnInTime, WalkView}
use Rattle.snapshots.specs.Cost.{lookup_reads}
use Rattle.snapshots.specs.IndexCost.{period_cost, walk_cost}
use Rattle.snapshots.specs.Parts.{anchored_at, first_in, log_in, rules_in, snapshot_in, stops_in}
use Rattle.snapshots.specs.Sound.{IsBlock}
use Rattle.snapshots.specs.SoundParts.{IsValid}
use Rattle.snapshots.specs.View.{block_of}
use Rattle.snapshots.specs.declared.anchored.Anchored.{Anchored}
use Rattle.object_track.specs.Between.{stops_between}
use Rattle.object_track.proofs.BetweenLemmas.{cost_between-step, stops_between-step}
use Rattle.track_index.specs.Path.{IsDrawing, IsOfLast, IsPathWalk, PathView, block_reads_to, path_reads_to, path_walk_of}
use Rattle.track_index.proofs.UntilLemmas.{cost_until-step, period-onward, stops-of_last, walk_cost-until}

module _ (parts : Parts) (valid : IsValid parts) (index : ℕ) (from to : ℤ) where
  module _ (next behind : ℕ) (less : next < behind) where
    -- nothing is left of the block that was begun, and the next period is looked into: whatever walk has its stops
    drawing-next : (stores : Parts) (first : PathView) (now after : WalkView) (before steps looked : ℕ)
        → IsDrawing first before stores parts index from to next behind now steps → now.stops ≡ []
        → after.rules ≡ now.rules → after.stops ≡ in_window from to (stops_in parts index next)
        → looked + after.reads ≤ steps + now.reads + period_cost parts index from to next
        → ((instant : ℤ) → from ≤ℤ instant → looked + block_reads_to parts.frame (next + 1) after instant
        ≤ steps + now.reads + period_cost parts index from instant next)
        → IsDrawing first before stores parts index from to (next + 1) behind after looked
    drawing-next stores first now after before steps looked is empty rules_are own cost cost_to =
        let last : next + 1 - 1 ≡ next = omega arith in
        let onward : first_in parts.frame (next - 1) ≤ℤ first_in parts.frame next =
        period-onward parts.frame (next - 1) next (omega arith) in
        record {
          its = is.its;
          walk = record {
            known = is.walk.known;
            within = is.walk.within;
            rules_are = rules_are ∙ is.walk.rules_are;
            stops_are = All-same (IsOfLast parts.frame from (next + 1)) after.stops
                (in_window from to (stops_in parts index next)) own
                (stops-of_last parts valid next (omega (arith, less, is.walk.within)) index from to);
          };
          stops =
              is.stops ∙ ap (λ stops. stops ++ stops_between parts index from to next behind) empty
              ∙ stops_between-step parts index from to next behind less
              ∙ ap (λ stops. stops ++ stops_between parts index from to (next + 1) behind) (sym own);
          reads = omega (arith, is.reads, cost, cost_between-step parts index from to next behind less);
          in_time = λ instant window begun.
              let come : first_in parts.frame next ≤ℤ instant = subst (λ n. first_in parts.frame n ≤ℤ instant) last begun in
              let all : le_z (first_in parts.frame next) instant ≡ true = le_z-from _ instant come in
              let so_far = rw all at (is.in_time instant window (omega (arith, ints, onward, come))) in
              omega (
                arith,
                so_far,
                cost_to instant window,
                cost_until-step parts index from instant next behind less window come,
              );
        }

    -- nothing is left, and the object's block was looked for in the next period
    module _ (stores : Parts) (first : PathView) (now after : WalkView) (before steps drawn looked : ℕ)
        (is : IsDrawing first before stores parts index from to next behind now steps) (empty : now.stops ≡ [])
        (rules_are : after.rules ≡ now.rules) (cost : drawn + after.reads ≤ steps + now.reads)
        (found : looked ≤ drawn + lookup_reads) where
      here : snapshot_in stores next ≡ snapshot_in parts next
      here = ap (λ p. snapshot_in p next) (sym is.its)

      -- there is none
      pub drawing-absent : now.stops ≡ after.stops → None ≡ block_of (snapshot_in stores next) index
          → IsDrawing first before stores parts index from to (next + 1) behind after looked
      unfolding stops_in in_window
      drawing-absent left absent =
          let none : None ≡ block_of (snapshot_in parts next) index = absent ∙ ap (λ s. block_of s index) here in
          let own : (end : ℤ) → period_cost parts index from end next ≡ lookup_reads + 0 =
          λ end. rw (← none) refl in
          drawing-next stores first now after before steps looked is empty rules_are
          (rw (← none) (sym left ∙ empty)) (omega (arith, cost, found, own to))
          (λ instant window. elim (cases_Bool (le_z (first_in parts.frame (next + 1)) instant)) [
            | inl begins ↦ rw begins (omega (arith, cost, found, own instant))
            | inr before ↦ rw before (omega (arith, cost, found, own instant))
          ])

      -- there is one, over which a walk is begun
      pub drawing-walk_from : (block : Anchored) (walk : WalkView) (rules : RulesView) (places : ℕ × ℕ) (log : List ℕ) (start : Start)
          (low high : ℤ) → Some block ≡ block_of (snapshot_in stores next) index → IsBlock (snapshot_in stores next) block → rules ≡ rules_in stores
          → log ≡ log_in stores block → start ≡ start_at (anchored_at stores.frame next block) block.cell → low ≡ from
          → high ≡ to → walk ≡ walk_from rules places log start low high
          → IsDrawing first before stores parts index from to (next + 1) behind walk looked
      unfolding stops_in
      drawing-walk_from block walk rules places log start low high some is_block of its_log its_start is_from is_to is_begun =
          let one : Some block ≡ block_of (snapshot_in parts next) index = some ∙ ap (λ s. block_of s index) here in
          let own : (end : ℤ) → period_cost parts index from end next
          ≡ lookup_reads + walk_cost parts from end next (Some block) = λ end. rw (← one) refl in
          let same : walk ≡ walk_from (rules_in parts) places (log_in parts block)
          (start_at (anchored_at parts.frame next block) block.cell) from to =
          is_begun ∙ (rw (of, its_log, its_start, is_from, is_to)
          (ap (λ (p : Parts). walk_from (rules_in p) places (log_in p block)
          (start_at (anchored_at p.frame next block) block.cell) from to) (sym is.its))) in
          let within : next < periods_of parts.frame = omega (arith, less, is.walk.within) in
          drawing-next stores first now walk before steps looked is empty
          (ap (λ (w : WalkView). w.rules) same ∙ sym is.walk.rules_are)
          (rw (← one) (ap (λ (w : WalkView). w.stops) same))
          (omega (arith, cost, found, own to, ap (λ (w : WalkView). w.reads) same))
          (λ instant window.
          let its : IsBlock (snapshot_in parts next) block = subst (λ s. IsBlock s block) here is_block in
          let begun = walk_cost-until parts valid next within block its places from to instant window in
          let reads = ap (λ (w : WalkView). block_reads_to parts.frame (next + 1) w instant) same in
          omega (arith, cost, found, own instant, begun, reads))

-- a stop was drawn from the block that was begun
module _ (parts : Parts) (index : ℕ) (from to : ℤ) (next behind : ℕ) (stores : Parts) (first : PathView) (block after : WalkView)
    (before steps drawn : ℕ) (stop : Stop)
    (is : IsDrawing first before stores parts index from to next behind block steps)
    (found : block.stops ≡ stop ∷ after.stops) where
  its_stops : All (IsOfLast parts.frame from next) (stop ∷ after.stops)
  its_stops = subst (All (IsOfLast parts.frame from next)) found is.walk.stops_are

  -- what is left is a walk
  pub drawn-walk : after.rules ≡ block.rules → IsPathWalk parts index from next behind after
  drawn-walk rules_are = record {
    known = is.walk.known;
    within = is.walk.within;
    rules_are = rules_are ∙ is.walk.rules_are;
    stops_are = All-tail (IsOfLast parts.frame from next) stop after.stops its_stops;
  }

  -- in time, as from the block
  pub drawn-in_time : drawn + after.reads ≤ steps + block.reads → IsDrawnInTime (reads_to block) (reads_to after) steps drawn stop
      → IsDrawnInTime (path_reads_to first) (path_reads_to (path_walk_of parts index from to next behind after)) before drawn
      stop
  drawn-in_time cost in_time = λ instant come.
      let its = All-head (IsOfLast parts.frame from next) stop after.stops its_stops in
      let so_far = is.in_time instant (omega (arith, ints, its.window, come)) (omega (arith, ints, its.period, come)) in
      elim (cases_Bool (le_z (first_in parts.frame next) instant)) [
        | inl begins ↦ let all = rw begins at so_far in rw begins (omega (arith, all, cost))
        | inr earlier ↦ let some = rw earlier at so_far in rw earlier (omega (arith, some, cost, in_time instant come))
      ]
