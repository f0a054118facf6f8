-- What is read of a path until a stop is passed.
use Rattle.std.proofs.Common.{◌≡◌, ℕ, ℤ, ◌≤ℤ◌, ◌+◌, ◌≤◌, true, false, List, [], ◌∷◌, ◌++◌, Option, None, Some, Result, Ok, Err, sym, ◌∙◌, arith, inl, inr}
use Rattle.std.specs.Int.Signed.{le_z}
use Rattle.std.specs.Option.{IfNone, IfSome, option_to_list}
use Rattle.std.specs.Prelude.{IfOk}
use Rattle.std.proofs.lemmas.Bool.{cases_Bool}
use Rattle.std.proofs.lemmas.Int.{ints}
use Rattle.track_types.specs.ByFilter.{path_of}
use Rattle.track_types.specs.StopWalk.{IsDrawnInTime, first_past, up_to}
use Rattle.track_types.specs.declared.parts.Parts.{Parts}
use Rattle.track_types.specs.declared.stop.Stop.{Stop}
use Rattle.log_cursor.specs.Walk.{IsDrawnInTime as IsSoonDrawn}
use Rattle.snapshots.specs.IndexCost.{path_cost}
use Rattle.snapshots.specs.Parts.{chart_in}
use Rattle.track_index.specs.Cost.{path_cost_until}
use Rattle.track_index.specs.Path.{PathView, path_reads_past, path_reads_to}

later_from : (instant : ℤ) (stop other : Stop) → le_z instant stop.instant ≡ false → le_z instant other.instant ≡ true
    → stop.instant ≤ℤ other.instant
later_from instant stop other before past = grind (arith, ints)

-- the first stop at an instant or after it is such a one
past-first_past : (instant : ℤ) (stops : List Stop) → IfSome (first_past instant stops) (λ stop. le_z instant stop.instant ≡ true)
past-first_past instant [] = tt
past-first_past instant (stop ∷ stops) = elim (cases_Bool (le_z instant stop.instant)) [
  | inl past ↦ rw past past
  | inr before ↦ rw before (past-first_past instant stops)
]

-- a stop was drawn, by what is read up to an instant
module _ (to to_now : ℤ → ℕ) (all left begun steps : ℕ) (cost : steps + left ≤ begun + all) where
  -- it is before the instant, and the first that is not is still to come
  drawn-before : (instant : ℤ) (stop : Stop) (end : Option Stop) → IsSoonDrawn to to_now begun steps stop
      → le_z instant stop.instant ≡ false → IfSome end (λ other. le_z instant other.instant ≡ true)
      → steps + up_to (λ (other : Stop). to_now other.instant) left end ≤ begun + up_to (λ (other : Stop). to other.instant) all end
  drawn-before instant stop None soon before past = cost
  drawn-before instant stop (Some other) soon before past = soon other.instant (later_from instant stop other before past)

  -- nothing was read beyond the first stop at an instant or after it
  pub next-in_time : (result : Option Stop) (stops now : List Stop) → stops ≡ option_to_list result ++ now → IfNone result (stops ≡ [])
      → IfSome result (IsSoonDrawn to to_now begun steps)
      → IsDrawnInTime (λ instant. up_to (λ (stop : Stop). to stop.instant) all (first_past instant stops))
      (λ instant. up_to (λ (stop : Stop). to_now stop.instant) left (first_past instant now)) begun steps result
  next-in_time None stops now found none soon instant =
      let nothing : now ≡ [] = sym found ∙ none in
      rw (none, nothing) cost
  next-in_time (Some stop) stops now found none soon instant = elim (cases_Bool (le_z instant stop.instant)) [
    | inl past ↦
        let same : stop.instant ≤ℤ stop.instant = omega (arith, ints) in
        let its = soon stop.instant same in
        rw (found, past) (omega (arith, its))
    | inr before ↦
        rw (found, before)
        (drawn-before instant stop (first_past instant now) soon before (past-first_past instant now))
  ]

-- where less is read up to each stop, less is read up to any
pub up_to-less : {X : Type 0} (reads more : X → ℕ) (all most : ℕ) (end : Option X) → ((x : X) → reads x ≤ more x) → all ≤ most
    → up_to reads all end ≤ up_to more most end
up_to-less reads more all most None each least = least
up_to-less reads more all most (Some x) each least = each x

-- a walk over a path is left for what the path costs until then
module _ (parts : Parts) (object : ℕ) (from to : ℤ) where
  until-walk : (walk : PathView) → walk.stops ≡ path_of (chart_in parts).rows object from to
      → walk.reads ≤ path_cost parts object from to
      → ((instant : ℤ) → path_reads_to walk instant ≤ path_cost parts object from instant)
      → (instant : ℤ) → path_reads_past walk instant ≤ path_cost_until parts object from to instant
  unfolding path_cost_until
  until-walk walk are within each instant =
      rw are (up_to-less (λ (stop : Stop). path_reads_to walk stop.instant) (λ (stop : Stop). path_cost parts object from stop.instant)
      walk.reads (path_cost parts object from to) (first_past instant (path_of (chart_in parts).rows object from to))
      (λ stop. each stop.instant) within)

  pub until-made : {E : Type 0} (made : Result PathView E)
      → IfOk made (λ walk. walk.stops ≡ path_of (chart_in parts).rows object from to)
      → IfOk made (λ walk. walk.reads ≤ path_cost parts object from to)
      → IfOk made (λ walk. (instant : ℤ) → path_reads_to walk instant ≤ path_cost parts object from instant)
      → IfOk made (λ walk. (instant : ℤ) → path_reads_past walk instant ≤ path_cost_until parts object from to instant)
  until-made (Ok walk) are within each = until-walk walk are within each
  until-made (Err fault) are within each = tt
