-- The stops of an object in two walks, as one.
use Rattle.std.specs.Prelude.{ℕ, List, [], ◌++◌, ◌||◌, Bool, false, Option, None, Some}
use Rattle.std.specs.Option.{option_to_list}
use Rattle.std.specs.Ordering.{int_cmp}
use Rattle.std.specs.declared.cmp.Ordering.{Ordering}
use Rattle.step_count.specs.Reads.{Read}
use Rattle.track_types.specs.declared.row.Row.{Row}
use Rattle.track_types.specs.declared.stop.Stop.{Stop}
use Rattle.path_union.specs.Merge.{merge_of}

-- the row of an object's stop
abbrev pub row_at : ℕ → Stop → Row
row_at object stop = record { object = object; instant = stop.instant; cell = stop.cell }

-- the order of stops by instant
abbrev pub stop_order : Stop → Stop → Ordering
stop_order a b = int_cmp a.instant b.instant

-- later stops and older ones, by instant: where both have an instant, the later
abbrev pub stops_of_both : List Stop → List Stop → List Stop
stops_of_both later older = merge_of stop_order later older

module _ {W : Type 0} where
  -- the stops that are left of a walk, if there is one
  abbrev pub left_of : (W → List Stop) → Option W → List Stop
  left_of left None = []
  left_of left (Some walk) = left walk

  -- the stops that are left of a walk, with one that was drawn from it ahead
  abbrev pub front_left : (W → List Stop) → Option Stop → Option W → List Stop
  front_left left ahead walk = option_to_list ahead ++ left_of left walk

  -- the reads that are needed for the stops that are left of a walk
  abbrev pub needs_of : (W → Read → Bool) → Option W → Read → Bool
  needs_of needs None read = false
  needs_of needs (Some walk) read = needs walk read

  -- what is still to be read for the stops that are left of a walk
  abbrev pub budget_of : (W → ℕ) → Option W → ℕ
  budget_of budget None = 0
  budget_of budget (Some walk) = budget walk

-- the reads that are needed for the stops that are left of two walks
abbrev pub needs_of_both : {W V : Type 0} → (W → Read → Bool) → (V → Read → Bool) → Option W → Option V → Read → Bool
needs_of_both later older own other read = needs_of later own read || needs_of older other read
