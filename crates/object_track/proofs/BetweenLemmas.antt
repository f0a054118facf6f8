-- The stops and the cost of an object in some periods: one period after the other, and in those that a window meets the
-- path.
use Rattle.std.proofs.Common.{◌≡◌, ℕ, suc, ◌+◌, ◌-◌, ◌<◌, ◌≤◌, ℤ, [], ◌∷◌, ◌++◌, Some, refl, ap, sym, subst, ◌∙◌, arith}
use Rattle.std.specs.List.{flat_map, range_with_len, sum_by}
use Rattle.std.proofs.lemmas.List.Sums.{sum_by-cons}
use Rattle.list_laws.proofs.RangeLemmas.{flat_map-range_part, sum_by-range_part}
use Rattle.track_types.specs.ByFilter.{path_of}
use Rattle.track_types.specs.Frame.{periods_of}
use Rattle.track_types.specs.declared.parts.Parts.{Parts}
use Rattle.rule_store.specs.Log.{in_window}
use Rattle.snapshots.specs.IndexCost.{is_met, path_cost, period_cost}
use Rattle.snapshots.specs.Parts.{chart_in, index_in, stops_in}
use Rattle.snapshots.specs.SoundParts.{IsValid}
use Rattle.object_track.specs.Between.{cost_between, stops_between}
use Rattle.object_track.specs.Met.{AreMet}
use Rattle.object_track.proofs.ChartLemmas.{in_window-missed, path_of-known}

-- a range is its first number and the others
range-step : (next behind : ℕ) → next < behind
    → range_with_len next (behind - next) ≡ next ∷ range_with_len (next + 1) (behind - (next + 1))
range-step next behind less =
    let one : behind - next ≡ suc (behind - (next + 1)) = omega arith in rw one refl

-- no period is left
pub stops_between-none : (parts : Parts) (index : ℕ) (from to : ℤ) (next behind : ℕ) → behind ≤ next
    → stops_between parts index from to next behind ≡ []
unfolding stops_between
stops_between-none parts index from to next behind over =
    let none : behind - next ≡ 0 = omega arith in
    ap (λ n. flat_map (λ number. in_window from to (stops_in parts index number)) (range_with_len next n)) none

pub cost_between-none : (parts : Parts) (index : ℕ) (from to : ℤ) (next behind : ℕ) → behind ≤ next
    → cost_between parts index from to next behind ≡ 0
unfolding cost_between
cost_between-none parts index from to next behind over =
    let none : behind - next ≡ 0 = omega arith in
    ap (λ n. sum_by (period_cost parts index from to) (range_with_len next n)) none

module _ (parts : Parts) (index : ℕ) (from to : ℤ) where
  module _ (next behind : ℕ) (less : next < behind) where
    -- the stops and the cost of the next period, and of those after it
    pub stops_between-step : stops_between parts index from to next behind
        ≡ in_window from to (stops_in parts index next) ++ stops_between parts index from to (next + 1) behind
    unfolding stops_between
    stops_between-step =
        ap (flat_map (λ number. in_window from to (stops_in parts index number))) (range-step next behind less)

    pub cost_between-step : cost_between parts index from to next behind
        ≡ period_cost parts index from to next + cost_between parts index from to (next + 1) behind
    unfolding cost_between
    cost_between-step =
        ap (sum_by (period_cost parts index from to)) (range-step next behind less)
        ∙ sum_by-cons (period_cost parts index from to) next (range_with_len (next + 1) (behind - (next + 1)))

-- the stops of the periods that a window meets are the path
pub stops_between-met : (parts : Parts) → IsValid parts → (object index : ℕ) (from to : ℤ) (next behind : ℕ)
    → index_in parts.objects object ≡ Some index → AreMet parts.frame from to next behind
    → stops_between parts index from to next behind ≡ path_of (chart_in parts).rows object from to
unfolding stops_between
stops_between-met parts valid object index from to next behind is met =
    sym (path_of-known parts valid object index is from to
    ∙ flat_map-range_part (λ number. in_window from to (stops_in parts index number)) next behind
    (periods_of parts.frame) met.ordered met.within
    (λ j less. in_window-missed parts valid index j from to (omega (arith, less, met.ordered, met.within))
    (met.early j less))
    (λ j most within. in_window-missed parts valid index j from to within (met.late j most within)))

-- and their cost is within that of the path
pub cost_between-met : (parts : Parts) (object index : ℕ) (from to : ℤ) (next behind : ℕ)
    → index_in parts.objects object ≡ Some index → AreMet parts.frame from to next behind
    → cost_between parts index from to next behind ≤ path_cost parts object from to
unfolding cost_between path_cost
cost_between-met parts object index from to next behind is met =
    rw is (sum_by-range_part (period_cost parts index from to) (is_met parts.frame from to) next behind
    (periods_of parts.frame) met.ordered met.within met.met)

-- the same, as the stores of the index say it, for a window of the same ends
module _ (parts stores : Parts) (same : stores ≡ parts) (object index : ℕ) (low high from to : ℤ) (is_from : low ≡ from)
    (is_to : high ≡ to) (next behind : ℕ) (known : Some index ≡ index_in stores.objects object)
    (met : AreMet stores.frame low high next behind) where
  known_here : index_in parts.objects object ≡ Some index
  known_here = sym (known ∙ ap (λ (p : Parts). index_in p.objects object) same)

  met_here : AreMet parts.frame low high next behind
  met_here = subst (λ (p : Parts). AreMet p.frame low high next behind) same met

  pub stops_between-path : IsValid parts
      → stops_between parts index low high next behind ≡ path_of (chart_in parts).rows object from to
  stops_between-path valid =
      stops_between-met parts valid object index low high next behind known_here met_here
      ∙ ap (λ z. path_of (chart_in parts).rows object z high) is_from
      ∙ ap (λ z. path_of (chart_in parts).rows object from z) is_to

  pub cost_between-path : cost_between parts index low high next behind ≤ path_cost parts object from to
  cost_between-path =
      omega (
        arith,
        cost_between-met parts object index low high next behind known_here met_here,
        ap (λ z. path_cost parts object z high) is_from,
        ap (λ z. path_cost parts object from z) is_to,
      )
