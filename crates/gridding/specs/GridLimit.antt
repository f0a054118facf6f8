-- Which quantity of a chart passes its limit.
use Rattle.std.specs.Prelude.{◌≡◌, ◌≢◌, ⊤, ℕ, max, unsigned_abs, Bool, nat_lt, List, [], ◌∷◌, map, fold, find, Option, Some}
use Rattle.std.specs.Option.{option_map}
use Rattle.track_types.specs.Limits.{limit_of}
use Rattle.track_types.specs.Quantities.{block_count, extent_of, object_count, span_of, symbol_count}
use Rattle.track_types.specs.declared.limit.LimitKind.{LimitKind}
use Rattle.track_types.specs.declared.limit.LimitKind.TheVariants.{Base, Objects, Span, Extent, Blocks, Symbols}
use Rattle.track_types.specs.declared.raw_row.RawRow.{RawRow}
use Rattle.track_types.specs.declared.row.Row.{Row}
use Rattle.gridding.specs.ChartOf.{chart_rows}
use Rattle.gridding.specs.declared.fault.GridFault.{GridFault}
use Rattle.gridding.specs.declared.fault.GridFault.TheVariants.{Empty, Limit, Memory}

-- the quantities of rows, in the order in which they are judged
abbrev pub quantities_of : List Row → ℕ → List (LimitKind × ℕ)
quantities_of rows period =
    (Objects, object_count rows) ∷ (Span, span_of rows) ∷ (Extent, extent_of rows) ∷ (Blocks, block_count rows period) ∷ (Symbols, symbol_count rows period) ∷ []

-- whether a quantity passes its limit
abbrev pub is_past : LimitKind × ℕ → Bool
is_past (kind, value) = nat_lt (limit_of kind) value

-- the first quantity of rows that passes its limit
abbrev pub first_past : List Row → ℕ → Option (LimitKind × ℕ)
first_past rows period = find is_past (quantities_of rows period)

-- the first quantity past its limit in the chart of raw rows
abbrev pub grid_limit : List RawRow → ℕ → ℕ → ℕ → Option (LimitKind × ℕ)
grid_limit raws cell tick period = first_past (chart_rows raws cell tick) period

-- a fault that tells the quantity
abbrev pub IsRefusal : Option (LimitKind × ℕ) → GridFault → Type 0
IsRefusal past (Limit kind value) = past ≡ Some (kind, value)
IsRefusal past Empty = ⊥
IsRefusal past Memory = ⊥

-- a fault that raw rows may be answered: their own, and want of memory whatever they are
abbrev pub IsGridFault : List RawRow → ℕ → ℕ → ℕ → GridFault → Type 0
IsGridFault raws cell tick period Memory = Unit {0}
IsGridFault raws cell tick period Empty = raws ≡ []
IsGridFault raws cell tick period (Limit kind value) = (raws ≢ []) × (grid_limit raws cell tick period ≡ Some (kind, value))

-- how many cells a row's cell is away from 0, along the axis along which it is farther
abbrev pub distance_of : Row → ℕ
distance_of row = max (unsigned_abs row.cell.x) (unsigned_abs row.cell.y)

-- how many cells the farthest cell is away from 0
abbrev pub base_of : List Row → ℕ
base_of rows = fold max 0 (map distance_of rows)

-- the first quantity past its limit in the chart of rows that are gridded already: their cells may be too far from 0,
-- which those of raw rows never are
abbrev pub chart_limit : List Row → ℕ → Option (LimitKind × ℕ)
chart_limit rows period = find is_past ((Base, base_of rows) ∷ quantities_of rows period)

-- the fault that tells a quantity
abbrev pub limit_fault : LimitKind × ℕ → GridFault
limit_fault (kind, value) = Limit kind value

-- the first cause for which rows that are gridded already have no chart
unfoldable pub chart_fault : List Row → ℕ → Option GridFault
chart_fault [] period = Some Empty
chart_fault (row ∷ rows) period = option_map limit_fault (chart_limit (row ∷ rows) period)

-- a fault is this one, or memory was refused
abbrev pub IsGridFaultFor : Option GridFault → GridFault → Type 0
IsGridFaultFor first Memory = ⊤
IsGridFaultFor first Empty = first ≡ Some Empty
IsGridFaultFor first (Limit kind value) = first ≡ Some (Limit kind value)
