-- What the parts of an index mean: its rules, its snapshots, the log of each block, and the chart.
use Rattle.std.specs.Prelude.{ℕ, ◌+◌, ◌==◌, ℤ, pos, ◌+ℤ◌}
use Rattle.std.specs.Prelude.{List, [], length, map, take, find, sum, slice_index, slice_index_or}
use Rattle.std.specs.Prelude.{Option, None, Some}
use Rattle.std.specs.List.{flat_map, range_with_len, slice_range, sum_by}
use Rattle.track_types.specs.Chart.{ChartView}
use Rattle.track_types.specs.Frame.{periods_of}
pub use Rattle.track_types.specs.Frame.{end_in, first_in, is_covered, last_in, period_in}
use Rattle.track_types.specs.declared.frame.Frame.{Frame}
use Rattle.track_types.specs.declared.parts.Parts.{Parts}
use Rattle.track_types.specs.declared.period_parts.PeriodParts.{PeriodParts}
use Rattle.track_types.specs.declared.row.Row.{Row}
use Rattle.track_types.specs.declared.stop.Stop.{Stop}
use Rattle.rule_store.specs.View.{RulesView, rules_with}
use Rattle.rule_store.specs.Log.{block_stops}
use Rattle.snapshots.specs.View.{SnapshotView, block_of, view_with}
use Rattle.snapshots.specs.declared.anchored.Anchored.{Anchored}

-- the rules of the parts, with the symbols of all logs
abbrev pub rules_in : Parts → RulesView
rules_in parts = rules_with parts.alphabet parts.rules parts.symbols parts.frame.height parts.frame.period

-- what stands for a period that is not there
abbrev pub no_period : PeriodParts
no_period = record { present = []; offsets = []; tree = []; lasts = []; perm = []; lengths = [] }

-- the parts of a period
abbrev pub period_at : List PeriodParts → ℕ → PeriodParts
period_at periods number = slice_index_or periods number no_period

-- how many symbols the logs of a period have
abbrev pub symbols_of : PeriodParts → ℕ
symbols_of period = sum period.lengths

-- where the logs of a period begin among all symbols: after those of the earlier periods
unfoldable pub start_in : Parts → ℕ → ℕ
start_in parts number = sum_by symbols_of (take number parts.periods)

-- the snapshot of a period
abbrev pub snapshot_in : Parts → ℕ → SnapshotView
snapshot_in parts number =
    view_with parts.frame number (length parts.objects) (start_in parts number) (period_at parts.periods number)

-- the numbers of all periods
abbrev pub numbers_in : Frame → List ℕ
numbers_in frame = range_with_len 0 (periods_of frame)

-- the symbols of a block's log
abbrev pub block_log : RulesView → Anchored → List ℕ
block_log rules block = slice_range rules.symbols block.from (block.from + block.len)

-- the symbols of a block's log
abbrev pub log_in : Parts → Anchored → List ℕ
log_in parts block = block_log (rules_in parts) block

-- the instant of a block's anchor, in a period
abbrev pub anchored_at : Frame → ℕ → Anchored → ℤ
anchored_at frame number block = first_in frame number +ℤ pos block.offset

-- the stops of a block in a period: its anchor, and those of its log
abbrev pub stops_of : Parts → ℕ → Anchored → List Stop
stops_of parts number block =
    block_stops (rules_in parts) (anchored_at parts.frame number block) block.cell (log_in parts block)

-- the stops of a block, if there is one
abbrev pub stops_in_block : Parts → ℕ → Option Anchored → List Stop
stops_in_block parts number None = []
stops_in_block parts number (Some block) = stops_of parts number block

-- the stops of an object in a period, by the object's place among all objects
unfoldable pub stops_in : Parts → ℕ → ℕ → List Stop
stops_in parts index number = stops_in_block parts number (block_of (snapshot_in parts number) index)

-- the row of an object's stop
abbrev pub row_of : ℕ → Stop → Row
row_of object stop = record { object = object; instant = stop.instant; cell = stop.cell }

-- the rows of an object, by its place among all objects
unfoldable pub rows_in : Parts → ℕ → List Row
rows_in parts index =
    map (row_of (slice_index parts.objects index)) (flat_map (stops_in parts index) (numbers_in parts.frame))

-- the chart that parts hold: for each object the rows of its blocks in order, with the numbers of the header
unfoldable pub chart_in : Parts → ChartView
chart_in parts = record {
  rows = flat_map (rows_in parts) (range_with_len 0 (length parts.objects));
  first = parts.frame.first;
  last = last_in parts.frame;
  period = parts.frame.period;
  cell = parts.frame.cell;
  tick = parts.frame.tick;
}

-- the place of an object among ascending ones, if it is one of them
abbrev pub index_in : List ℕ → ℕ → Option ℕ
index_in objects object = find (λ i. slice_index objects i == object) (range_with_len 0 (length objects))
