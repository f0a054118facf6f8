-- Which reads a search needs in a log.
use Rattle.std.specs.Prelude.{ℕ, Bool, false, filter, IsTrue, Option}
use Rattle.std.specs.List.{list_any}
use Rattle.std.specs.Str.{bytes_eq}
use Rattle.step_count.specs.Reads.{Read, ofPeriod, ofRule, ofSymbol}
use Rattle.track_types.specs.declared.cell.Cell.{Cell}
use Rattle.track_types.specs.declared.cell_box.CellBox.{CellBox}
use Rattle.rule_store.specs.Boxes.{bounding_box_of}
use Rattle.rule_store.specs.Expansion.{expansion_of}
use Rattle.rule_store.specs.Needs.{is_among}
use Rattle.log_cursor.specs.Walk.{terminal_values, WalkView}

-- each rule that passes one test passes another
abbrev pub RulesWithin : (ℕ → Bool) → (ℕ → Bool) → Type 0
RulesWithin these those = (rule : ℕ) → IsTrue (these rule) → IsTrue (those rule)

-- the reads of the rules that pass a test, and of the symbols at these places
abbrev pub search_needs : ℕ × ℕ → (ℕ → Bool) → Read → Bool
search_needs places rules (ofPeriod period) = false
search_needs places rules (ofRule rule) = rules rule
search_needs places rules (ofSymbol place) = is_among places place

-- the reads of the symbols at these places alone
abbrev pub symbol_needs : ℕ × ℕ → Read → Bool
symbol_needs places = search_needs places (λ rule. false)

-- a rule stands for a node that a walk may still open, whose box passes a test where it is placed
unfoldable pub walk_rule : (Cell → Option CellBox → Bool) → WalkView → ℕ → Bool
walk_rule may walk rule =
    list_any (λ node. bytes_eq (expansion_of walk.rules rule) node.inside)
    (filter (λ node. may node.cell (bounding_box_of (terminal_values walk.rules node.inside))) walk.nodes)

-- the reads of a walk that opens rules by such a test: of these rules, and of the symbols of its log
abbrev pub walk_needs : (Cell → Option CellBox → Bool) → WalkView → Read → Bool
walk_needs may walk = search_needs walk.places (walk_rule may walk)
