-- What follows from no flaw: sound rules, sound logs, and sound parts.
use Rattle.std.proofs.Common.{◌≡◌, ℕ, ◌+◌, ◌^◌, ℤ, pos, ◌+ℤ◌, ◌≤ℤ◌, ◌<ℤ◌, true, false, eqb, List, length, Option, None, Some, IfSome, inl, inr, subst, arith}
use Rattle.std.specs.Prelude.{slice_index, ◌&&◌}
use Rattle.std.proofs.lemmas.Bool.{and_parts, cases_Bool, eqb-true, ltb-false, not-false}
use Rattle.std.proofs.lemmas.Int.{ints}
use Rattle.std.proofs.lemmas.List.Elements.{All-weaker}
use Rattle.list_laws.proofs.FindLemmas.{find_in_range-all}
use Rattle.list_laws.proofs.FirstLemmas.{All-first_given, map-none, or-none}
use Rattle.spiral_code.specs.Spiral.{ring_of}
use Rattle.track_types.specs.Flaws.{flaw_in}
use Rattle.track_types.specs.Frame.{periods_of}
use Rattle.track_types.specs.declared.cell.Cell.{Cell}
use Rattle.track_types.specs.declared.cell_box.CellBox.{CellBox}
use Rattle.track_types.specs.declared.flaw.Kind.TheVariants as kind
use Rattle.track_types.specs.declared.flaw.Section.TheVariants.{Log}
use Rattle.track_types.specs.declared.frame.Frame.{Frame}
use Rattle.track_types.specs.declared.parts.Parts.{Parts}
use Rattle.rule_store.specs.View.{RulesView, symbols_in}
use Rattle.rule_store.specs.Cells.{movement_of}
use Rattle.rule_store.specs.Entry.{entry_of}
use Rattle.rule_store.specs.Flaws.{box_passes, code_flaw, leads_out, reach_limit, AreRules}
use Rattle.rule_store.proofs.FlawLemmas.{box_passes-false, near_entry, no_flaws, rule-sound, symbol-known}
use Rattle.log_bounds.specs.Bounds.{cell_before}
use Rattle.snapshots.specs.JoinFlaws.{block_flaw, blocks_flaw, duration_flaw, has_columns, has_lines}
use Rattle.log_bounds.specs.Bounds.{duration_of_log}
use Rattle.snapshots.specs.JoinFlaws.{instants_after, is_along, is_off_grid, log_flaw, off_grid_at, passes_grid}
use Rattle.snapshots.specs.Parts.{block_log, rules_in, snapshot_in}
use Rattle.snapshots.specs.SoundParts.{AreSoundLogs, AreSoundRules, IsBoxInReach, IsInGridAt, IsSound, IsSoundLog}
use Rattle.snapshots.specs.declared.track_tree.TrackTree.{TrackTree}
use Rattle.std.specs.Global.{Box}
use Rattle.snapshots.specs.Stores.{AreOf, AreStores}
use Rattle.snapshots.specs.View.{SnapshotView, all_blocks, rank_in}
use Rattle.snapshots.specs.declared.anchored.Anchored.{Anchored}
use Rattle.snapshots.proofs.JoinLemmas.{IsJoined, IsJoining}

-- a box that does not pass the reach
box-reach : (height : ℕ) (hull : Option CellBox) → box_passes height hull ≡ false
    → IfSome hull (IsBoxInReach height)
box-reach height None near = tt
box-reach height (Some area) near = box_passes-false height area near

-- rules without a flaw are sound
pub AreSoundRules-flawless : (view : RulesView) → AreRules view → AreSoundRules view
unfolding code_flaw
AreSoundRules-flawless view is =
    let none = no_flaws view is.flawless in
    record {
      codes = λ i within.
          ltb-false (reach_limit view.height) (ring_of (movement_of (slice_index view.alphabet i)).0
          (movement_of (slice_index view.alphabet i)).1)
          (find_in_range-all (λ k. leads_out view.height (slice_index view.alphabet k)) 0 (length view.alphabet) none.codes
          i (omega arith) (omega arith));
      rules_are = λ j within.
          let sound = rule-sound view j none.rules within in
          let near = near_entry view.height view.period (entry_of view (length view.alphabet + j)) sound.near in
          record {
            left = sound.left;
            right = sound.right;
            entry = record {
              duration = near.duration;
              displacement = near.displacement;
              hull = box-reach view.height (entry_of view (length view.alphabet + j)).hull near.hull;
            };
          };
      symbols = λ i within. symbol-known (symbols_in view) view.symbols i none.symbols within;
    }

-- numbers that lie in a row
along-bounds : (height : ℕ) (least amount first last : ℤ) → is_along height least amount first last ≡ true
    → (least ≤ℤ (amount +ℤ first)) × ((amount +ℤ last) <ℤ (least +ℤ pos (2 ^ height)))
along-bounds height least amount first last holds = (grind (arith, ints), grind (arith, ints))

-- a box that does not pass the grid is in it
placed : (frame : Frame) (cell : Cell) (hull : Option CellBox) → passes_grid frame cell hull ≡ false
    → IfSome hull (IsInGridAt frame cell)
placed frame cell None within = tt
placed frame cell (Some hull) within =
    let both = and_parts (has_columns frame cell hull) (has_lines frame cell hull)
    (not-false (has_columns frame cell hull && has_lines frame cell hull) within) in
    let columns = along-bounds frame.height frame.base.x cell.x hull.x1 hull.x2 both.0 in
    let lines = along-bounds frame.height frame.base.y cell.y hull.y1 hull.y2 both.1 in
    record { left = columns.0; right = columns.1; below = lines.0; above = lines.1 }

-- a log without a flaw is sound
pub IsSoundLog-flawless : (frame : Frame) (rules : RulesView) (number rank : ℕ) (block : Anchored)
    → log_flaw frame rules number rank block ≡ None → IsSoundLog frame rules number block
unfolding log_flaw off_grid_at is_off_grid
IsSoundLog-flawless frame rules number rank block none =
    let log : List ℕ = block_log rules block in
    let both = or-none _ _ none in
    let inside : off_grid_at frame rules block.cell log ≡ None =
    map-none (λ place. flaw_in number Log kind.OffGrid (block.from + place)) (off_grid_at frame rules block.cell log)
    both.0 in
    record {
      placed = λ place within.
          placed frame (cell_before rules block.cell log place) (entry_of rules (slice_index log place)).hull
          (find_in_range-all (is_off_grid frame rules block.cell log) 0 (length log) inside place (omega arith)
          (omega arith));
      lasts = elim (cases_Bool (eqb (duration_of_log rules log) (instants_after frame number block))) [
        | inl same ↦ eqb-true _ _ same
        | inr apart ↦
            let flaw : duration_flaw frame rules number rank block ≡ None = both.1 in
            absurd (let some = rw apart at flaw in cc)
      ];
    }

-- a snapshot whose blocks have no flaw has sound logs
pub AreSoundLogs-flawless : (rules : RulesView) (view : SnapshotView) → blocks_flaw rules view ≡ None
    → AreSoundLogs rules view
unfolding blocks_flaw
AreSoundLogs-flawless rules view none =
    All-weaker (λ block. block_flaw rules view block ≡ None) (IsSoundLog view.frame rules view.number)
    (λ block flawless.
    IsSoundLog-flawless view.frame rules view.number (rank_in view block.index) block flawless)
    (all_blocks view) (All-first_given (block_flaw rules view) (all_blocks view) none)

-- parts whose rules, snapshots and logs were judged are sound
pub IsSound-joined : (parts : Parts) (rules : RulesView) (snaps : List SnapshotView) (before steps : ℕ)
    → AreOf parts rules snaps → AreRules rules → IsJoining parts (periods_of parts.frame) before steps → IsSound parts
IsSound-joined parts rules snaps before steps of are is = record {
  rules = AreSoundRules-flawless (rules_in parts) (subst AreRules of.rules_are are);
  total = of.total;
  periods = λ number within. (is.snapshots number within).sound;
  logs = λ number within. AreSoundLogs-flawless (rules_in parts) (snapshot_in parts number) (is.none number within);
}

pub AreStores-joined : (parts : Parts) (rules : RulesView) (snaps : List SnapshotView) (speeds : List ℕ)
    (tracks : List (Option (Box TrackTree))) (before steps : ℕ) → AreOf parts rules snaps → AreRules rules
    → IsJoined parts (periods_of parts.frame) before steps speeds tracks → AreStores parts rules snaps speeds tracks
AreStores-joined parts rules snaps speeds tracks before steps of are is = record {
  valid = record { shaped = of.shaped; sound = IsSound-joined parts rules snaps before steps of are is.joining };
  rules_are = of.rules_are;
  snaps_are = of.snaps_are;
  speeds_are = is.speeds_are;
  tracks_are = is.tracks_are;
}
