-- What a search through periods costs, from one to the next.
use Rattle.std.proofs.Common.{◌≡◌, ℕ, suc, ◌+◌, ◌-◌, ◌<◌, ◌≤◌, ℤ, ap, ◌∙◌, arith}
use Rattle.std.specs.List.{range_with_len, sum_by}
use Rattle.std.proofs.lemmas.List.Sums.{sum_by-cons}
use Rattle.list_laws.proofs.RangeLemmas.{sum_by-range_part}
use Rattle.track_types.specs.Frame.{periods_of}
use Rattle.track_types.specs.declared.parts.Parts.{Parts}
use Rattle.track_types.specs.declared.region.Region.{Region}
use Rattle.snapshots.specs.IndexCost.{is_met}
use Rattle.object_track.specs.Met.{AreMet}
use Rattle.interval_search.specs.Cost.{interval_cost, window_cost}

module _ (parts : Parts) (from to : ℤ) (region : Region) (next behind : ℕ) where
  abbrev cost : ℕ → ℕ
  cost = window_cost parts from to region

  -- the next period, and those after it
  pub cost-step : next < behind → sum_by cost (range_with_len next (behind - next))
      ≡ cost next + sum_by cost (range_with_len (next + 1) (behind - (next + 1)))
  cost-step less =
      let one : behind - next ≡ suc (behind - (next + 1)) = omega arith in
      ap (λ n. sum_by cost (range_with_len next n)) one
      ∙ sum_by-cons cost next (range_with_len (next + 1) (behind - (next + 1)))

  -- those that the window meets
  pub cost-met : AreMet parts.frame from to next behind
      → sum_by cost (range_with_len next (behind - next)) ≤ interval_cost parts from to region
  unfolding interval_cost
  cost-met met =
      sum_by-range_part cost (is_met parts.frame from to) next behind (periods_of parts.frame) met.ordered met.within met.met
