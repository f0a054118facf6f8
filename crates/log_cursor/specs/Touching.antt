-- What a search for the first stop in a region finds, and which rules it opens; and which rules hold an instant.
use Rattle.std.specs.Prelude.{◌≡◌, ℕ, ◌+◌, ◌≤◌, ℤ, Bool, true, false, ◌&&◌, List, [], ◌++◌, length, filter, find, option_to_list, Option, Some, None, IfNone, IfSome}
use Rattle.std.specs.List.{list_any}
use Rattle.std.specs.Str.{bytes_eq}
use Rattle.track_types.specs.Region.{in_region, intersects_region}
use Rattle.track_types.specs.declared.cell.Cell.{Cell}
use Rattle.track_types.specs.declared.cell_box.CellBox.{CellBox}
use Rattle.track_types.specs.declared.region.Region.{Region}
use Rattle.track_types.specs.declared.stop.Stop.{Stop}
use Rattle.rule_store.specs.View.{RulesView}
use Rattle.rule_store.specs.Boxes.{bounding_box_of}
use Rattle.rule_store.specs.Cells.{displacement_of, moved}
use Rattle.rule_store.specs.Expansion.{expansion_of}
use Rattle.rule_store.specs.Log.{block_stops, in_window}
use Rattle.rule_store.specs.Nodes.{RuleNode, is_opened, meets, nodes_in}
use Rattle.track_types.specs.Boxes.{moved_box}
use Rattle.log_cursor.specs.Needs.{RulesWithin}
use Rattle.log_cursor.specs.Pending.{PendingView}
use Rattle.log_cursor.specs.Start.{IsWayOf, start_at}
use Rattle.log_cursor.specs.Walk.{opened_left, stops_left, terminal_values}
use Rattle.log_cursor.specs.declared.start.Start.{Start}

-- the first of some stops in a region
abbrev pub first_among : Region → List Stop → Option Stop
first_among region stops = find (λ stop. in_region region stop.cell) stops

-- the first stop of a block in a window and a region
unfoldable pub first_hit_of : RulesView → List ℕ → Start → ℤ → ℤ → Region → Option Stop
first_hit_of rules log start from to region =
    first_among region (in_window from to (block_stops rules start.instant start.cell log))

-- the region has a cell of a box that is placed at a cell, if there is a box
abbrev pub touches_at : Region → Cell → Option CellBox → Bool
touches_at region cell None = false
touches_at region cell (Some hull) = intersects_region region (moved_box cell hull)

-- the placed box of a rule's node has a cell of the region, in a block with its anchor in this cell
abbrev pub is_touched : RulesView → Cell → Region → RuleNode → Bool
is_touched rules cell region node =
    touches_at region (moved cell (displacement_of (terminal_values rules node.before)))
    (bounding_box_of (terminal_values rules node.inside))

-- the node's instants meet the window besides
abbrev pub is_touching : RulesView → Start → ℤ → ℤ → Region → RuleNode → Bool
is_touching rules start from to region node =
    meets start.instant from to node && is_touched rules start.cell region node

-- how many rule nodes of a log's parse trees have instants in the window and a cell of the region in their placed box
unfoldable pub touching_count : RulesView → Start → List ℕ → ℤ → ℤ → Region → ℕ
touching_count rules start log from to region =
    length (filter (is_touching rules start from to region) (nodes_in rules log))

-- a rule stands for the terminals of a node
abbrev pub is_rule_of : RulesView → ℕ → RuleNode → Bool
is_rule_of rules rule node = bytes_eq (expansion_of rules rule) node.inside

-- a rule stands for the terminals of one of these nodes
unfoldable pub touching_rule : RulesView → Start → List ℕ → ℤ → ℤ → Region → ℕ → Bool
touching_rule rules start log from to region rule =
    list_any (is_rule_of rules rule) (filter (is_touching rules start from to region) (nodes_in rules log))

-- a rule stands for the terminals of a node that holds an instant and has a box
unfoldable pub holding_rule : RulesView → Start → List ℕ → ℤ → ℕ → Bool
holding_rule rules start log instant rule =
    list_any (is_rule_of rules rule) (filter (is_opened rules start.instant instant instant) (nodes_in rules log))

-- the first stop of symbols in a window and a region
abbrev pub hit_left : RulesView → ℤ → ℤ → Region → Start → List ℕ → Option Stop
hit_left rules from to region start symbols = first_among region (stops_left rules from to start symbols)

-- how many rules of symbols a search opens
abbrev pub touching_left : RulesView → ℤ → ℤ → Region → Start → List ℕ → ℕ
touching_left rules from to region start symbols = touching_count rules start symbols from to region

-- What was drawn of some stops for a region: the first stop that is in it, and those before it were passed; or none, and
-- then all were passed.
pub record IsDrawnIn (region : Region) (before now : List Stop) (hit : Option Stop) : Type 0 where
  pub passed : List Stop
  pub all : before ≡ passed ++ (option_to_list hit ++ now)
  pub outside : first_among region passed ≡ None
  pub inside : IfSome hit (λ stop. in_region region stop.cell ≡ true)
  pub end : IfNone hit (now ≡ [])

-- where a stop leads on
abbrev pub start_of : Stop → Start
start_of stop = start_at stop.instant stop.cell

-- A hit among the stops of symbols from a start: the symbols that are left lead on from it, have the stops after it, and open
-- no other rules, and the reads were those of a walk that draws all stops.
pub record IsHitOf (region : Region) (from to : ℤ) (start : Start) (before now : PendingView) (begun steps : ℕ) (hit : Stop) :
    Type 0 where
  pub drawn : IsDrawnIn region (stops_left before.rules from to start before.symbols)
      (stops_left before.rules from to (start_of hit) now.symbols) (Some hit)
  pub way : IsWayOf before.rules (start_of hit) now.symbols
  pub opens : RulesWithin (touching_rule before.rules (start_of hit) now.symbols from to region)
      (touching_rule before.rules start before.symbols from to region)
  pub reads : steps + (now.unread + opened_left before.rules from to (start_of hit) now.symbols)
      ≤ begun + (before.unread + opened_left before.rules from to start before.symbols)
