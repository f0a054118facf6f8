-- What a walk that looks for a stop has done: the one invariant of drawing stops and of searching a region.
use Rattle.std.specs.Prelude.{◌≡◌, ℕ, ◌+◌, ◌*◌, ◌≤◌, ℤ, ◌≤ℤ◌, ◌<ℤ◌, Bool, true, ◌&&◌, List, ◌++◌, length, filter, find, Option, None}
use Rattle.std.specs.Int.{int_min}
use Rattle.std.specs.List.{list_any}
use Rattle.std.specs.Option.{is_some}
use Rattle.track_types.specs.Region.{in_region}
use Rattle.track_types.specs.declared.cell.Cell.{Cell}
use Rattle.track_types.specs.declared.cell_box.CellBox.{CellBox}
use Rattle.track_types.specs.declared.region.Region.{Region}
use Rattle.track_types.specs.declared.stop.Stop.{Stop}
use Rattle.rule_store.specs.View.{RulesView}
use Rattle.rule_store.specs.Boxes.{bounding_box_of}
use Rattle.rule_store.specs.Cells.{displacement_of, moved}
use Rattle.rule_store.specs.Nodes.{RuleNode, meets, nodes_in}
use Rattle.log_cursor.specs.Pending.{PendingView}
use Rattle.log_cursor.specs.Start.{IsWayOf}
use Rattle.log_cursor.specs.Touching.{is_rule_of}
use Rattle.log_cursor.specs.Walk.{reads_to, stops_left, terminal_values, WalkView}
use Rattle.log_cursor.specs.declared.start.Start.{Start}

-- a walk that draws stops wants every one
abbrev pub is_any : Stop → Bool
is_any stop = true

-- it opens the rules that have a box, wherever they are placed
abbrev pub has_hull : Cell → Option CellBox → Bool
has_hull cell hull = is_some hull

-- a search wants the stops in its region
abbrev pub is_stop_in : Region → Stop → Bool
is_stop_in region stop = in_region region stop.cell

-- the instants of a node meet the window, and its box, placed where the node begins, passes a test
abbrev pub is_opening : RulesView → (Cell → Option CellBox → Bool) → ℤ → ℤ → Start → RuleNode → Bool
is_opening rules may from to start node =
    meets start.instant from to node
    && may (moved start.cell (displacement_of (terminal_values rules node.before)))
    (bounding_box_of (terminal_values rules node.inside))

-- the nodes of symbols that a walk opens by such a test
abbrev pub opening_nodes : RulesView → (Cell → Option CellBox → Bool) → ℤ → ℤ → Start → List ℕ → List RuleNode
opening_nodes rules may from to start symbols = filter (is_opening rules may from to start) (nodes_in rules symbols)

-- how many they are
unfoldable pub opening_count : RulesView → (Cell → Option CellBox → Bool) → ℤ → ℤ → Start → List ℕ → ℕ
opening_count rules may from to start symbols = length (opening_nodes rules may from to start symbols)

-- a rule stands for the terminals of one of them
unfoldable pub opening_rule : RulesView → (Cell → Option CellBox → Bool) → ℤ → ℤ → Start → List ℕ → ℕ → Bool
opening_rule rules may from to start symbols rule =
    list_any (is_rule_of rules rule) (opening_nodes rules may from to start symbols)

-- What a walk that has come to no wanted stop has done. It passed stops, and wants none of them. The others are those of
-- the symbols that are left. Its reads, with those that are still to be made, are within a budget.
pub record IsWalking (wanted : Stop → Bool) (may : Cell → Option CellBox → Bool) (rules : RulesView) (stops : List Stop)
    (budget : ℕ) (from to : ℤ) (pending : PendingView) (at : Start) (steps : ℕ) : Type 0 where
  pub passed : List Stop
  pub same : pending.rules ≡ rules
  pub window : from ≤ℤ to
  pub way : IsWayOf rules at pending.symbols
  pub all : stops ≡ passed ++ stops_left rules from to at pending.symbols
  pub unwanted : find wanted passed ≡ None
  pub reads : steps + (pending.unread + opening_count rules may from to at pending.symbols) ≤ budget

-- how often it still turns at most: a symbol that is opened gives way to two
abbrev pub turns_left : RulesView → (Cell → Option CellBox → Bool) → ℤ → ℤ → Start → List ℕ → ℕ
turns_left rules may from to start symbols = 2 * opening_count rules may from to start symbols + length symbols

-- a walk that wants every stop has done what one over these rules does, whatever stops it began with
pub record IsWalkingWithin (rules : RulesView) (budget : ℕ) (from to : ℤ) (pending : PendingView) (at : Start)
    (steps : ℕ) : Type 0 where
  pub stops : List Stop
  pub walking : IsWalking is_any has_hull rules stops budget from to pending at steps

-- For each instant that it has not come to, a walk has done what the walk over the window does that ends there: so its
-- reads are within those up to the instant.
pub record IsWalkingInTime (first : WalkView) (begun : ℕ) (from to : ℤ) (pending : PendingView) (at : Start)
    (steps : ℕ) : Type 0 where
  pub each : (instant : ℤ) → from ≤ℤ int_min instant to → at.instant <ℤ int_min instant to
      → IsWalkingWithin first.rules (begun + reads_to first instant) from (int_min instant to) pending at steps
