-- The first cause for which rows that are gridded already have no chart.
use Rattle.std.proofs.Common.{◌≡◌, ℕ, ◌<◌, ◌≤◌, true, false, List, [], ◌∷◌, All, None, Some, length, refl, ap, ◌∙◌, arith}
use Rattle.std.specs.Prelude.{ℤ, unsigned_abs}
use Rattle.std.specs.Option.{option_map}
use Rattle.std.proofs.lemmas.Bool.Decides.{nat_tests}
use Rattle.std.proofs.lemmas.Int.{ints}
use Rattle.list_laws.proofs.GreatestLemmas.{fold_max-each}
use Rattle.track_types.specs.Limits.{limit_of}
use Rattle.track_types.specs.Near.{IsNear, IsRowInRange}
use Rattle.track_types.specs.declared.limit.LimitKind.TheVariants.{Base}
use Rattle.track_types.specs.declared.row.Row.{Row}
use Rattle.gridding.specs.GridLimit.{base_of, chart_fault, chart_limit, first_past, IsGridFaultFor, IsRefusal, is_past, limit_fault}
use Rattle.gridding.specs.declared.fault.GridFault.{GridFault}
use Rattle.gridding.specs.declared.fault.GridFault.TheVariants.{Empty, Limit, Memory}

-- without a row
pub chart_fault-none : (rows : List Row) (period : ℕ) → length rows ≡ 0 → chart_fault rows period ≡ Some Empty
unfolding chart_fault
chart_fault-none [] period none = refl
chart_fault-none (row ∷ rows) period none = absurd (omega arith)

-- with some rows
chart_fault-some : (rows : List Row) (period : ℕ) → 0 < length rows
    → chart_fault rows period ≡ option_map limit_fault (chart_limit rows period)
unfolding chart_fault
chart_fault-some [] period some = absurd (omega arith)
chart_fault-some (row ∷ rows) period some = refl

-- a fault that is the cause
pub IsGridFaultFor-is : (rows : List Row) (period : ℕ) (fault : GridFault) → fault ≡ Limit Base (base_of rows)
    → chart_fault rows period ≡ Some (Limit Base (base_of rows)) → IsGridFaultFor (chart_fault rows period) fault
IsGridFaultFor-is rows period fault is first = rw is first

module _ (rows : List Row) (period : ℕ) (some : 0 < length rows) where
  -- a cell is too far
  pub base_fault : is_past (Base, base_of rows) ≡ true → chart_fault rows period ≡ Some (Limit Base (base_of rows))
  base_fault past = chart_fault-some rows period some ∙ rw past refl

  module _ (near : is_past (Base, base_of rows) ≡ false) where
    -- none is
    chart_fault-near : chart_fault rows period ≡ option_map limit_fault (first_past rows period)
    chart_fault-near = chart_fault-some rows period some ∙ rw near refl

    -- and no quantity passes its limit
    pub chart_fault-within : first_past rows period ≡ None → chart_fault rows period ≡ None
    chart_fault-within none = chart_fault-near ∙ ap (option_map limit_fault) none

    -- or one does
    pub IsGridFaultFor-refusal : (fault : GridFault) → IsRefusal (first_past rows period) fault
        → IsGridFaultFor (chart_fault rows period) fault
    IsGridFaultFor-refusal (Limit kind value) refusal = chart_fault-near ∙ ap (option_map limit_fault) refusal
    IsGridFaultFor-refusal Empty refusal = absurd refusal
    IsGridFaultFor-refusal Memory refusal = tt

-- a coordinate that is not farther
IsNear-within : (z : ℤ) → unsigned_abs z ≤ limit_of Base → IsNear z
IsNear-within z within = record { low = omega (arith, ints, within); high = omega (arith, ints, within) }

-- where no cell is too far, rows at instants in range are in range
pub IsRowInRange-near : (rows : List Row) → is_past (Base, base_of rows) ≡ false → All (λ row. IsNear row.instant) rows
    → All IsRowInRange rows
IsRowInRange-near rows near instants = grind (arith, nat_tests, fold_max-each, IsNear-within)
