-- What a path costs up to an instant: the periods that begin by then, and their blocks up to it.
use Rattle.std.proofs.Common.{◌≡◌, ℕ, suc, ◌+◌, ◌-◌, ◌*◌, ◌<◌, ◌≤◌, ℤ, ◌≤ℤ◌, Bool, true, List, ◌∷◌, All, length, Some, refl, ap, sym, subst, ◌∙◌, arith, inl, inr}
use Rattle.std.specs.Prelude.{◌&&◌, if◌then◌else◌}
use Rattle.std.specs.Int.Signed.{le_z}
use Rattle.std.specs.List.{Contains, filter, range_with_len, sum_by}
use Rattle.std.proofs.Math.Nat.{mul-le-mul_right}
use Rattle.std.proofs.lemmas.Bool.{cases_Bool}
use Rattle.std.proofs.lemmas.Int.{ints}
use Rattle.std.proofs.lemmas.List.Concat.{length-flat_map}
use Rattle.std.proofs.lemmas.List.Elements.{All-contains, All-contains_itself, All-weaker}
use Rattle.std.proofs.lemmas.List.Sums.{sum_by-cons}
use Rattle.list_laws.proofs.FilterLemmas.{filter_and, sum_by-filter, sum_by-filter-le}
use Rattle.list_laws.proofs.MemberLemmas.{member_of_filter}
use Rattle.list_laws.proofs.RangeLemmas.{sum_by-range_part}
use Rattle.list_laws.proofs.SumLemmas.{sum_by-agree}
use Rattle.track_types.specs.Frame.{periods_of}
use Rattle.track_types.specs.Region.{is_between}
use Rattle.track_types.specs.declared.frame.Frame.{Frame}
use Rattle.track_types.specs.declared.parts.Parts.{Parts}
use Rattle.track_types.specs.declared.stop.Stop.{Stop}
use Rattle.track_types.proofs.RegionLemmas.{is_between-bounds, le_z-from}
use Rattle.rule_store.specs.View.{RulesView}
use Rattle.rule_store.specs.Entry.{duration_of}
use Rattle.rule_store.specs.Expansion.{values_of}
use Rattle.rule_store.specs.Log.{in_window, log_values}
use Rattle.rule_store.proofs.ExpansionLemmas.{length-values_of}
use Rattle.log_cursor.specs.Start.{start_at}
use Rattle.log_cursor.specs.Walk.{at_rest, walk_from, WalkView}
use Rattle.log_cursor.proofs.ExtentLemmas.{block_budget-until, reads_to-walk_from}
use Rattle.snapshots.specs.IndexCost.{is_met, path_cost, period_cost, walk_cost}
use Rattle.log_bounds.specs.Bounds.{duration_of_log}
use Rattle.snapshots.specs.Parts.{anchored_at, end_in, first_in, index_in, log_in, rules_in, snapshot_in, stops_in}
use Rattle.snapshots.specs.Sound.{IsBlock}
use Rattle.snapshots.specs.SoundParts.{IsValid}
use Rattle.snapshots.specs.declared.anchored.Anchored.{Anchored}
use Rattle.object_track.specs.Met.{AreMet}
use Rattle.object_track.proofs.BlockLemmas.{IsSoundLog-block}
use Rattle.object_track.proofs.StopsLemmas.{All-stops_in, IsStopIn}
use Rattle.track_index.specs.Path.{IsOfLast, begins_by, block_reads_to, cost_until}

-- no period begins after a later one
pub period-onward : (frame : Frame) (i j : ℕ) → i ≤ j → first_in frame i ≤ℤ first_in frame j
period-onward frame i j low =
    let more : i * frame.period ≤ j * frame.period = mul-le-mul_right frame.period low in omega (arith, ints, more)

-- a walk with nothing left reads nothing
pub block_reads_to-none : (frame : Frame) (next : ℕ) (block : WalkView) (rules : RulesView) (places : ℕ × ℕ) (instant : ℤ)
    → block ≡ at_rest rules places → block_reads_to frame next block instant ≡ 0
block_reads_to-none frame next block rules places instant rests =
    rw rests (elim (cases_Bool (le_z (first_in frame next) instant)) [
      | inl begins ↦ rw begins refl
      | inr before ↦ rw before refl
    ])

-- no period is left
pub cost_until-none : (parts : Parts) (index : ℕ) (from instant : ℤ) (next behind : ℕ) → behind ≤ next
    → cost_until parts index from instant next behind ≡ 0
unfolding cost_until
cost_until-none parts index from instant next behind over =
    let none : behind - next ≡ 0 = omega arith in
    ap (λ n. sum_by (period_cost parts index from instant)
    (filter (begins_by parts.frame from instant) (range_with_len next n))) none

-- the cost of the next period, where it begins by the instant, and of those after it
pub cost_until-step : (parts : Parts) (index : ℕ) (from instant : ℤ) (next behind : ℕ) → next < behind → from ≤ℤ instant
    → first_in parts.frame next ≤ℤ instant → cost_until parts index from instant next behind
    ≡ period_cost parts index from instant next + cost_until parts index from instant (next + 1) behind
unfolding cost_until
cost_until-step parts index from instant next behind less window begun =
    let one : behind - next ≡ suc (behind - (next + 1)) = omega arith in
    let cost : ℕ → ℕ = period_cost parts index from instant in
    let test : ℕ → Bool = begins_by parts.frame from instant in
    let rest = range_with_len (next + 1) (behind - (next + 1)) in
    let begins : test next ≡ true = rw (le_z-from from instant window, le_z-from _ instant begun) refl in
    let kept : sum_by cost (filter test (next ∷ rest)) ≡ sum_by cost (next ∷ filter test rest) = rw begins refl in
    ap (λ n. sum_by cost (filter test (range_with_len next n))) one ∙ kept ∙ sum_by-cons cost next (filter test rest)

-- the periods that a longer window meets cost no more up to an instant than the path does
pub cost_until-met : (parts : Parts) (object index : ℕ) (from to instant : ℤ) (next behind : ℕ)
    → index_in parts.objects object ≡ Some index → AreMet parts.frame from to next behind
    → cost_until parts index from instant next behind ≤ path_cost parts object from instant
unfolding cost_until path_cost
cost_until-met parts object index from to instant next behind is met =
    let cost : ℕ → ℕ = period_cost parts index from instant in
    let begins : ℕ → Bool = begins_by parts.frame from instant in
    let longer : ℕ → Bool = is_met parts.frame from to in
    let shorter : ℕ → Bool = is_met parts.frame from instant in
    let kept : ℕ → ℕ = λ j. if begins j then cost j else 0 in
    let all = range_with_len 0 (periods_of parts.frame) in
    let part = range_with_len next (behind - next) in
    let both : (j : ℕ) → (begins j && longer j) ≡ true → shorter j ≡ true = λ j hold. grind (arith, ints, hold) in
    rw is (omega (
      arith,
      sum_by-filter cost begins part,
      sum_by-range_part kept longer next behind (periods_of parts.frame) met.ordered met.within met.met,
      sum_by-filter cost begins (filter longer all),
      ap (sum_by cost) (filter_and begins longer all),
      sum_by-filter-le (λ j. begins j && longer j) shorter cost all (λ k d within. both _),
    ))

-- the same, as the stores of the index say it, for a window of the same first instant
pub cost_until-path : (parts stores : Parts) → stores ≡ parts → (object index : ℕ) (low high from instant : ℤ) → low ≡ from
    → (next behind : ℕ) → Some index ≡ index_in stores.objects object → AreMet stores.frame low high next behind
    → cost_until parts index low instant next behind ≤ path_cost parts object from instant
cost_until-path parts stores same object index low high from instant is_from next behind known met =
    let known_here : index_in parts.objects object ≡ Some index =
    sym (known ∙ ap (λ (p : Parts). index_in p.objects object) same) in
    let met_here : AreMet parts.frame low high next behind =
    subst (λ (p : Parts). AreMet p.frame low high next behind) same met in
    omega (
      arith,
      cost_until-met parts object index low high instant next behind known_here met_here,
      ap (λ z. path_cost parts object z instant) is_from,
    )

-- there are as many values in a log as it lasts
length-log_values : (rules : RulesView) (log : List ℕ) → length (log_values rules log) ≡ duration_of_log rules log
unfolding log_values duration_of_log
length-log_values rules log =
    length-flat_map (values_of rules) log
    ∙ sum_by-agree (λ symbol. length (values_of rules symbol)) (duration_of rules) (length-values_of rules) log

module _ (parts : Parts) (valid : IsValid parts) (number : ℕ) (within : number < periods_of parts.frame) where
  -- an object's stops in a period and a window are in both
  pub stops-of_last : (index : ℕ) (from to : ℤ)
      → All (IsOfLast parts.frame from (number + 1)) (in_window from to (stops_in parts index number))
  unfolding in_window
  stops-of_last index from to =
      let stops = stops_in parts index number in
      let test : Stop → Bool = λ stop. is_between from to stop.instant in
      let same : number ≡ number + 1 - 1 = omega arith in
      All-weaker (Contains (filter test stops)) (IsOfLast parts.frame from (number + 1))
      (λ stop among.
      let from_stops = member_of_filter test stops stop among in
      let its = All-contains (IsStopIn (first_in parts.frame number) (end_in parts.frame number)) stops stop
      (All-stops_in parts valid index number within) from_stops.0 in
      record {
        window = (is_between-bounds from to stop.instant from_stops.1).0;
        period = subst (λ n. first_in parts.frame n ≤ℤ stop.instant) same its.above;
      })
      (filter test stops) (All-contains_itself (filter test stops))

  -- a walk over a block reads no more up to an instant than the block costs by then
  pub walk_cost-until : (block : Anchored) → IsBlock (snapshot_in parts number) block → (places : ℕ × ℕ) (from to instant : ℤ)
      → from ≤ℤ instant
      → block_reads_to parts.frame (number + 1) (walk_from (rules_in parts) places (log_in parts block)
      (start_at (anchored_at parts.frame number block) block.cell) from to) instant
      ≤ walk_cost parts from instant number (Some block)
  walk_cost-until block its places from to instant window =
      let rules = rules_in parts in
      let log = log_in parts block in
      let anchored = anchored_at parts.frame number block in
      let lasts = (IsSoundLog-block parts valid number within block its).lasts in
      let long = length-log_values rules log in
      let offset = its.offset in
      let next : (number + 1) * parts.frame.period ≡ number * parts.frame.period + parts.frame.period = grind arith in
      elim (cases_Bool (le_z (first_in parts.frame (number + 1)) instant)) [
        | inl begins ↦
            let begun : first_in parts.frame (number + 1) ≤ℤ instant = grind (arith, ints, begins) in
            rw begins (block_budget-until rules anchored from to instant window log
            (omega (arith, ints, lasts, long, offset, next, begun)))
        | inr before ↦
            let most = reads_to-walk_from rules places log (start_at anchored block.cell) from to instant window in
            rw before (omega (arith, most))
      ]
