-- What the log of a block means: the stops of its object, from the anchor on.
use Rattle.std.specs.Prelude.{ℕ, ℤ, pos, ◌+ℤ◌, List, [], ◌∷◌, filter, Option, Some, None}
use Rattle.std.specs.List.{flat_map, slice_range}
use Rattle.std.specs.Prelude.{◌+◌}
use Rattle.track_types.specs.Region.{is_between}
use Rattle.track_types.specs.declared.cell.Cell.{Cell}
use Rattle.track_types.specs.declared.stop.Stop.{Stop}
use Rattle.rule_store.specs.View.{RulesView}
use Rattle.rule_store.specs.Expansion.{values_of}
use Rattle.rule_store.specs.Cells.{cells_along}
use Rattle.rule_store.specs.declared.log_view.LogView.{LogView}

-- the symbols of a log
abbrev pub log_of : LogView → List ℕ
log_of view = slice_range view.rules.now.symbols view.from (view.from + view.len)

-- the values that the symbols of a log stand for
unfoldable pub log_values : RulesView → List ℕ → List ℕ
log_values rules log = flat_map (values_of rules) log

-- the stop at an instant in a cell
abbrev pub stop_at : ℤ → Cell → Stop
stop_at instant cell = record { instant = instant; cell = cell }

-- the stops at the cells of instants that follow each other, where an object is present
unfoldable pub stops_from : ℤ → List (Option Cell) → List Stop
stops_from instant [] = []
stops_from instant (None ∷ cells) = stops_from (instant +ℤ pos 1) cells
stops_from instant (Some cell ∷ cells) = stop_at instant cell ∷ stops_from (instant +ℤ pos 1) cells

-- the stops after a start: one for each movement of the symbols
unfoldable pub stops_after : RulesView → ℤ → Cell → List ℕ → List Stop
stops_after rules instant cell log = stops_from (instant +ℤ pos 1) (cells_along cell (log_values rules log))

-- the stops of a block: its anchor, and those of its log
unfoldable pub block_stops : RulesView → ℤ → Cell → List ℕ → List Stop
block_stops rules instant cell log = stop_at instant cell ∷ stops_after rules instant cell log

-- the stops of a window, whose ends count
unfoldable pub in_window : ℤ → ℤ → List Stop → List Stop
in_window from to stops = filter (λ stop. is_between from to stop.instant) stops
