-- The nodes of a block's parse trees, each with its instants and its placed box, and which of them may be opened where two
-- blocks are gone through together.
use Rattle.std.specs.Prelude.{ℕ, ◌+◌, ◌*◌, ℤ, pos, ◌+ℤ◌, ◌-ℤ◌, unsigned_abs, Bool, false, ◌&&◌, ◌||◌, nat_le, List, [], ◌∷◌, ◌++◌, length, map, filter, Option, Some, None}
use Rattle.std.specs.Int.{int_max, int_min}
use Rattle.std.specs.Int.Signed.{le_z}
use Rattle.std.specs.List.{list_any}
use Rattle.std.specs.Str.{bytes_eq}
use Rattle.track_types.specs.declared.cell_box.CellBox.{CellBox}
use Rattle.track_types.specs.declared.stop.Stop.{Stop}
use Rattle.rule_store.specs.View.{RulesView}
use Rattle.rule_store.specs.Boxes.{box_round}
use Rattle.rule_store.specs.Cells.{cells_along, displacement_of, moved, present_in}
use Rattle.rule_store.specs.Expansion.{expansion_of}
use Rattle.rule_store.specs.Log.{block_stops}
use Rattle.rule_store.specs.Nodes.{RuleNode, nodes_in}
use Rattle.log_cursor.specs.Walk.{terminal_values}
use Rattle.log_cursor.specs.declared.start.Start.{Start}

-- a node: the instant before its first, its last instant, the least box round the cells in which the object is present, and
-- the terminals that it stands for where it is a rule's
pub record Span : Type 0 where
  pub begin : ℤ
  pub end : ℤ
  pub area : Option CellBox
  pub inside : List ℕ

-- the span of values that are walked from a place, by the terminals of a rule
abbrev pub span_along : Start → List ℕ → List ℕ → Span
span_along start values inside = record {
  begin = start.instant;
  end = start.instant +ℤ pos (length values);
  area = box_round (present_in (cells_along start.cell values));
  inside = inside;
}

-- where a list of terminals leads
abbrev pub start_beyond : RulesView → Start → List ℕ → Start
start_beyond rules start terminals = record {
  instant = start.instant +ℤ pos (length terminals);
  cell = moved start.cell (displacement_of (terminal_values rules terminals));
}

-- the span of a rule's node
abbrev pub node_span : RulesView → Start → RuleNode → Span
node_span rules start node =
    span_along (start_beyond rules start node.before) (terminal_values rules node.inside) node.inside

-- the rule nodes of a log's parse trees
unfoldable pub spans_in : RulesView → Start → List ℕ → List Span
spans_in rules start log = map (node_span rules start) (nodes_in rules log)

-- a stop is a node of one instant and one cell: the anchor, or a terminal
abbrev pub span_at : Stop → Span
span_at stop = record {
  begin = stop.instant -ℤ pos 1;
  end = stop.instant;
  area = box_round (stop.cell ∷ []);
  inside = [];
}

-- how far two ranges of numbers are apart
abbrev pub gap_of : ℤ → ℤ → ℤ → ℤ → ℕ
gap_of low high first last = unsigned_abs (int_max (pos 0) (int_max (first -ℤ high) (low -ℤ last)))

-- the least squared distance of a cell of one box and a cell of another
abbrev pub box_distance : CellBox → CellBox → ℕ
box_distance a b = gap_of a.x1 a.x2 b.x1 b.x2 * gap_of a.x1 a.x2 b.x1 b.x2
    + gap_of a.y1 a.y2 b.y1 b.y2 * gap_of a.y1 a.y2 b.y1 b.y2

-- whether there are two boxes, within a distance of each other
abbrev pub are_near : ℕ → Option CellBox → Option CellBox → Bool
are_near reach None other = false
are_near reach (Some area) None = false
are_near reach (Some area) (Some other) = nat_le (box_distance area other) (reach * reach)

-- whether two nodes have an instant of the window in common
abbrev pub are_common : ℤ → ℤ → Span → Span → Bool
are_common from to a b =
    le_z (int_max from (int_max a.begin b.begin +ℤ pos 1)) (int_min to (int_min a.end b.end))

-- whether two nodes are close: they may have a meeting
abbrev pub is_close : ℤ → ℤ → ℕ → Span → Span → Bool
is_close from to reach a b = are_common from to a b && are_near reach a.area b.area

-- a block, or what remains of it: its stops and its rule nodes
pub record BlockTree : Type 0 where
  pub stops : List Stop
  pub rules : List Span

-- all nodes of a block: the anchor and the terminals with a cell are its stops
abbrev pub tree_nodes : BlockTree → List Span
tree_nodes tree = map span_at tree.stops ++ tree.rules

-- how many of some nodes pass a test with some of others
unfoldable pub count_with : (Span → Span → Bool) → List Span → List Span → ℕ
count_with test nodes others = length (filter (λ node. list_any (test node) others) nodes)

-- how many rule nodes of two blocks are close to some node of the other block
unfoldable pub close_count : ℤ → ℤ → ℕ → BlockTree → BlockTree → ℕ
close_count from to reach left right =
    count_with (is_close from to reach) left.rules (tree_nodes right)
    + count_with (λ node other. is_close from to reach other node) right.rules (tree_nodes left)

-- a rule stands for the terminals of a node of some that passes a test with some of others
unfoldable pub rule_with : RulesView → (Span → Span → Bool) → List Span → List Span → ℕ → Bool
rule_with rules test nodes others rule = list_any (λ node. bytes_eq (expansion_of rules rule) node.inside)
    (filter (λ node. list_any (test node) others) nodes)

-- a rule is close to a node of the other block: it stands for the terminals of such a node of one of two blocks
unfoldable pub close_rule : RulesView → ℤ → ℤ → ℕ → BlockTree → BlockTree → ℕ → Bool
close_rule rules from to reach left right rule =
    rule_with rules (is_close from to reach) left.rules (tree_nodes right) rule
    || rule_with rules (λ node other. is_close from to reach other node) right.rules (tree_nodes left) rule

-- the parse trees of a block
abbrev pub log_tree : RulesView → Start → List ℕ → BlockTree
log_tree rules start log = record {
  stops = block_stops rules start.instant start.cell log;
  rules = spans_in rules start log;
}
