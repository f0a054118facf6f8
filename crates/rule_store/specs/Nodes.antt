-- The rule nodes of parse trees, and how many of them a walk over a window opens.
use Rattle.std.specs.Prelude.{ℕ, ◌+◌, ℤ, pos, ◌+ℤ◌, Bool, ◌&&◌, if◌then◌else◌, List, [], ◌∷◌, ◌++◌, length, map, filter, slice_index}
use Rattle.std.specs.Option.{is_some}
use Rattle.std.specs.Int.Signed.{le_z}
use Rattle.std.specs.List.{range_with_len}
use Rattle.list_laws.specs.Grown.{table_of_rules, known_of}
use Rattle.rule_store.specs.View.{RulesView}
use Rattle.rule_store.specs.Boxes.{bounding_box_of}

-- a rule's node in a parse tree: the terminals that come before it, and those that it stands for
pub record RuleNode : Type 0 where
  pub before : List ℕ
  pub inside : List ℕ

-- a rule's node, where more terminals come before it
abbrev pub after : List ℕ → RuleNode → RuleNode
after terminals node = record { before = terminals ++ node.before; inside = node.inside }

-- a symbol's parse tree: the terminals that it stands for, and its rule nodes
pub record Parsed : Type 0 where
  pub terminals : List ℕ
  pub nodes : List RuleNode

-- the parse tree of a rule: its own node, and those of its parts
abbrev pub parsed_with : Parsed → Parsed → Parsed
parsed_with left right = record {
  terminals = left.terminals ++ right.terminals;
  nodes = record { before = []; inside = left.terminals ++ right.terminals }
      ∷ left.nodes ++ map (after left.terminals) right.nodes;
}

-- the tree of a terminal has no node
abbrev pub leaf : ℕ → Parsed
leaf terminal = record { terminals = terminal ∷ []; nodes = [] }

-- what stands for a symbol that is not there
abbrev pub unparsed : Parsed
unparsed = record { terminals = []; nodes = [] }

-- the parse tree of a symbol
unfoldable pub parsed : RulesView → ℕ → Parsed
parsed view symbol = known_of parsed_with unparsed
    (table_of_rules parsed_with unparsed (map leaf (range_with_len 0 (length view.alphabet))) view.rules) symbol

-- the rule nodes of a log's parse trees
unfoldable pub nodes_in : RulesView → List ℕ → List RuleNode
nodes_in view [] = []
nodes_in view (symbol ∷ log) =
    (parsed view symbol).nodes ++ map (after (parsed view symbol).terminals) (nodes_in view log)

-- the window has an instant, and those of a node meet it: the node begins an instant after those before it, in a block
-- whose anchor is at this instant
abbrev pub meets : ℤ → ℤ → ℤ → RuleNode → Bool
meets instant from to node = le_z from to
    && (le_z (instant +ℤ pos (length node.before + 1)) to
    && le_z from (instant +ℤ pos (length node.before + length node.inside)))

-- the object is present at some instant of the node
abbrev pub has_box : RulesView → RuleNode → Bool
has_box view node = is_some (bounding_box_of (map (slice_index view.alphabet) node.inside))

-- a walk over the window opens the node
abbrev pub is_opened : RulesView → ℤ → ℤ → ℤ → RuleNode → Bool
is_opened view instant from to node = meets instant from to node && has_box view node

-- how many rule nodes of a log's parse trees have instants in the window and a box
unfoldable pub opened_count : RulesView → ℤ → List ℕ → ℤ → ℤ → ℕ
opened_count view instant log from to = length (filter (is_opened view instant from to) (nodes_in view log))

-- how much a walk over the window reads at most: each symbol of the log, and the parts of each opened rule, and nothing
-- where the window has no instant
unfoldable pub block_budget : RulesView → ℤ → List ℕ → ℤ → ℤ → ℕ
block_budget view instant log from to =
    if le_z from to then (length log + opened_count view instant log from to) else 0
