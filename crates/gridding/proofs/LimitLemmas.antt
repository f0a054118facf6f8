-- Which quantity is refused.
use Rattle.std.proofs.Common.{◌≡◌, ℕ, ◌<◌, ◌≤◌, true, false, length, arith, Option, Some, None, Result, Ok, Err, sym, subst}
use Rattle.std.specs.Prelude.{All, IfErr, List}
use Rattle.track_types.specs.Chart.{IsChart, chart_with}
use Rattle.track_types.specs.Limits.{IsPeriod, IsResolution, limit_of}
use Rattle.track_types.specs.Near.{IsRowInRange}
use Rattle.track_types.specs.Row.{IsAscending}
use Rattle.track_types.specs.Quantities.{block_count, extent_of, object_count, span_of, symbol_count}
use Rattle.track_types.specs.declared.limit.LimitKind.{LimitKind}
use Rattle.track_types.specs.declared.limit.LimitKind.TheVariants.{Rows, Objects, Span, Extent, Blocks, Symbols}
use Rattle.track_types.specs.declared.row.Row.{Row}
use Rattle.gridding.specs.GridLimit.{IsRefusal, first_past, is_past}
use Rattle.gridding.specs.declared.fault.GridFault.{GridFault}
use Rattle.gridding.specs.declared.fault.GridFault.TheVariants.{Limit}

-- a fault that tells the quantity that passes its limit is the refusal of it
pub refused : (r : Result (Unit {0}) GridFault) (past : Option (LimitKind × ℕ)) (kind : LimitKind) (value : ℕ) →
    (is_past (kind, value) ≡ true → past ≡ Some (kind, value)) →
    IfErr r (λ fault. (fault ≡ Limit kind value) × (is_past (kind, value) ≡ true)) → IfErr r (IsRefusal past)
refused (Ok done) past kind value is told = tt
refused (Err fault) past kind value is told = subst (IsRefusal past) (sym told.0) (is told.1)

-- no quantity but the terminals passes its limit, and these are so many
pub record IsJudged (rows : List Row) (period terminals : ℕ) : Type 0 where
  pub objects : is_past (Objects, object_count rows) ≡ false
  pub span : is_past (Span, span_of rows) ≡ false
  pub extent : is_past (Extent, extent_of rows) ≡ false
  pub blocks : is_past (Blocks, block_count rows period) ≡ false
  pub symbols : terminals ≡ symbol_count rows period

module _ {rows : List Row} {period terminals : ℕ} (judged : IsJudged rows period terminals) where
  -- the terminals are refused
  pub symbols_past : is_past (Symbols, terminals) ≡ true → first_past rows period ≡ Some (Symbols, terminals)
  symbols_past past = grind arith

  -- nothing is
  pub none_past : is_past (Symbols, terminals) ≡ false → first_past rows period ≡ None
  none_past within = grind arith

-- rows in order and in range, of which no quantity passes its limit, are those of a chart
pub chart_with-IsChart : (rows : List Row) (cell tick period : ℕ) → 0 < length rows → length rows ≤ limit_of Rows → IsAscending rows → All IsRowInRange rows →
    IsResolution cell → IsResolution tick → IsPeriod period → first_past rows period ≡ None → IsChart (chart_with rows cell tick period)
chart_with-IsChart rows cell tick period some few up in_range is_cell is_tick is_period none = grind arith
