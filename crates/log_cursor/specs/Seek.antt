-- The cell at an instant, among stops.
use Rattle.std.specs.Prelude.{◌≡◌, ℕ, ◌+◌, ◌<◌, ◌≤◌, ℤ, pos, ◌+ℤ◌, ◌<ℤ◌, ◌≤ℤ◌, Bool, List, [], ◌∷◌, drop, find, Option}
use Rattle.std.specs.Option.{option_map}
use Rattle.std.specs.Ordering.{int_eq}
use Rattle.track_types.specs.declared.cell.Cell.{Cell}
use Rattle.track_types.specs.declared.stop.Stop.{Stop}
use Rattle.rule_store.specs.View.{RulesView, symbols_in}
use Rattle.rule_store.specs.Expansion.{depth_of}
use Rattle.rule_store.specs.Entry.{entry_of}
use Rattle.rule_store.specs.Log.{block_stops, stops_after}
use Rattle.rule_store.specs.declared.entry.Entry.{Entry}
use Rattle.log_cursor.specs.Needs.{RulesWithin}
use Rattle.log_cursor.specs.Start.{IsWayOf}
use Rattle.log_cursor.specs.Touching.{holding_rule}
use Rattle.log_cursor.specs.declared.start.Start.{Start}

-- whether a stop is at an instant
abbrev pub is_stop_at : ℤ → Stop → Bool
is_stop_at instant stop = int_eq instant stop.instant

-- the cell of the stop at an instant, and none where there is no such stop
unfoldable pub cell_among : List Stop → ℤ → Option Cell
cell_among stops instant = option_map (λ stop. stop.cell) (find (is_stop_at instant) stops)

-- What a search in a block has done: the symbols from a place of its log on have the cell, for one read each. No other rules
-- hold the instant in them.
pub record IsSeeking (rules : RulesView) (log : List ℕ) (start : Start) (instant : ℤ) (before i : ℕ) (at : Start)
    (steps : ℕ) : Type 0 where
  pub way : IsWayOf rules at (drop i log)
  pub after : at.instant <ℤ instant
  pub same : cell_among (stops_after rules at.instant at.cell (drop i log)) instant
      ≡ cell_among (block_stops rules start.instant start.cell log) instant
  pub cost : steps ≤ before + i
  pub opens : RulesWithin (holding_rule rules at (drop i log) instant) (holding_rule rules start log instant)

-- What a search in a symbol has done: the inner symbol has the cell, for one read at each depth above it. No other rules hold
-- the instant in it.
pub record IsInside (rules : RulesView) (outer : ℕ) (start : Start) (instant : ℤ) (before : ℕ) (inner : Entry)
    (at : Start) (steps : ℕ) : Type 0 where
  pub known : inner.symbol < symbols_in rules
  pub is : inner ≡ entry_of rules inner.symbol
  pub way : IsWayOf rules at (inner.symbol ∷ [])
  pub after : at.instant <ℤ instant
  pub within : instant ≤ℤ (at.instant +ℤ pos inner.duration)
  pub same : cell_among (stops_after rules at.instant at.cell (inner.symbol ∷ [])) instant
      ≡ cell_among (stops_after rules start.instant start.cell (outer ∷ [])) instant
  pub cost : steps + depth_of rules inner.symbol ≤ before + depth_of rules outer
  pub opens : RulesWithin (holding_rule rules at (inner.symbol ∷ []) instant)
      (holding_rule rules start (outer ∷ []) instant)
