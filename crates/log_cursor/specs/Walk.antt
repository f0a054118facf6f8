-- What is left of a walk over the stops of a block.
use Rattle.std.specs.Prelude.{ℕ, ◌+◌, ◌≤◌, ℤ, pos, ◌+ℤ◌, ◌≤ℤ◌, List, [], ◌++◌, filter, length, map, slice_index, Option, IfSome, if◌then◌else◌}
use Rattle.std.specs.Int.Signed.{le_z}
use Rattle.std.specs.Option.{option_to_list}
use Rattle.track_types.specs.Near.{IsCellAsked}
use Rattle.track_types.specs.declared.cell.Cell.{Cell}
use Rattle.track_types.specs.declared.stop.Stop.{Stop}
use Rattle.rule_store.specs.View.{RulesView}
use Rattle.rule_store.specs.Cells.{displacement_of, moved}
use Rattle.rule_store.specs.Log.{block_stops, in_window, stops_after}
use Rattle.rule_store.specs.Nodes.{RuleNode, block_budget, is_opened, nodes_in, opened_count}
use Rattle.log_cursor.specs.Pending.{PendingView}
use Rattle.log_cursor.specs.Start.{IsWayOf}
use Rattle.log_cursor.specs.declared.start.Start.{Start}

-- a rule's node that a walk opens: its first instant, the cell where it begins, and the terminals that it stands for
pub record WalkNode : Type 0 where
  pub begin : ℤ
  pub cell : Cell
  pub inside : List ℕ

-- the rules, where the symbols of the log stand, the stops that are left, and how many reads are still to be made for
-- them at most: one for each unread symbol of the log, and one for each of the rule nodes that are opened
pub record WalkView : Type 0 where
  pub rules : RulesView
  pub places : ℕ × ℕ
  pub stops : List Stop
  pub reads : ℕ
  pub unread : ℕ
  pub nodes : List WalkNode

-- how many of these reads are made at most until all stops up to an instant are drawn: the rules that begin after it are
-- not opened
abbrev pub reads_to : WalkView → ℤ → ℕ
reads_to walk instant = walk.unread + length (filter (λ node. le_z node.begin instant) walk.nodes)

-- a stop was drawn by no read that is made for later stops alone: by two counts of the reads that are to be made up to an
-- instant, before and now
abbrev pub IsDrawnInTime : (ℤ → ℕ) → (ℤ → ℕ) → ℕ → ℕ → Stop → Type 0
IsDrawnInTime before now begun steps stop =
    (instant : ℤ) → stop.instant ≤ℤ instant → steps + now instant ≤ begun + before instant

-- a walk with nothing left
abbrev pub at_rest : RulesView → ℕ × ℕ → WalkView
at_rest rules places = record { rules = rules; places = places; stops = []; reads = 0; unread = 0; nodes = [] }

-- the first instant of a node, in a block whose anchor is at an instant
abbrev pub begin_of : ℤ → RuleNode → ℤ
begin_of instant node = instant +ℤ pos (length node.before + 1)

-- the values of terminals
abbrev pub terminal_values : RulesView → List ℕ → List ℕ
terminal_values rules terminals = map (slice_index rules.alphabet) terminals

-- a node where it stands in a block with this anchor
abbrev pub walk_node : RulesView → Start → RuleNode → WalkNode
walk_node rules start node = record {
  begin = begin_of start.instant node;
  cell = moved start.cell (displacement_of (terminal_values rules node.before));
  inside = node.inside;
}

-- the nodes that a walk opens below symbols
unfoldable pub nodes_left : RulesView → ℤ → ℤ → Start → List ℕ → List WalkNode
nodes_left rules from to start symbols =
    map (walk_node rules start) (filter (is_opened rules start.instant from to) (nodes_in rules symbols))

-- a walk over the stops of a block in a window
abbrev pub walk_from : RulesView → ℕ × ℕ → List ℕ → Start → ℤ → ℤ → WalkView
walk_from rules places log start from to = record {
  rules = rules;
  places = places;
  stops = in_window from to (block_stops rules start.instant start.cell log);
  reads = block_budget rules start.instant log from to;
  unread = if le_z from to then length log else 0;
  nodes = nodes_left rules from to start log;
}

-- the stops of symbols in a window
abbrev pub stops_left : RulesView → ℤ → ℤ → Start → List ℕ → List Stop
stops_left rules from to start symbols = in_window from to (stops_after rules start.instant start.cell symbols)

-- how many rules of symbols a walk opens
abbrev pub opened_left : RulesView → ℤ → ℤ → Start → List ℕ → ℕ
opened_left rules from to start symbols = opened_count rules start.instant symbols from to

-- the view of a walk: the anchor, if it is still to come, and the stops of the symbols from a start
abbrev pub walk_of : PendingView → Option Stop → Start → ℤ → ℤ → WalkView
walk_of pending anchor start from to = record {
  rules = pending.rules;
  places = pending.places;
  stops = option_to_list anchor ++ stops_left pending.rules from to start pending.symbols;
  reads = pending.unread + opened_left pending.rules from to start pending.symbols;
  unread = pending.unread;
  nodes = nodes_left pending.rules from to start pending.symbols;
}

-- The symbols that are still to come lead from a start within the numbers, the anchor is near, and the window has an
-- instant.
pub record IsGoing (pending : PendingView) (anchor : Option Stop) (at : Start) (from to : ℤ) : Type 0 where
  pub way : IsWayOf pending.rules at pending.symbols
  pub near : IfSome anchor (λ stop. IsCellAsked stop.cell)
  pub window : from ≤ℤ to
