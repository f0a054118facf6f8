-- What a symbol stands for: the terminals that replacing each rule by its two parts leaves.
use Rattle.std.specs.Prelude.{ℕ, ◌+◌, max, List, [], ◌++◌, length, map, fold, slice_index}
use Rattle.std.specs.List.{range_with_len}
use Rattle.list_laws.specs.Grown.{expansions, table_of_rules, known_of}
use Rattle.rule_store.specs.View.{RulesView}

-- the terminals that a symbol stands for
unfoldable pub expansion_of : RulesView → ℕ → List ℕ
expansion_of view symbol = known_of ◌++◌ [] (expansions (length view.alphabet) view.rules) symbol

-- the alphabet's values of these terminals
unfoldable pub values_of : RulesView → ℕ → List ℕ
values_of view symbol = map (slice_index view.alphabet) (expansion_of view symbol)

-- the depth of a rule: one more than the greater depth of its parts
abbrev pub depth_above : ℕ → ℕ → ℕ
depth_above left right = 1 + max left right

-- the depth of each symbol: 0 for a terminal
abbrev pub depths : ℕ → List (ℕ × ℕ) → List ℕ
depths size rules = table_of_rules depth_above 0 (map (λ terminal. 0) (range_with_len 0 size)) rules

-- the depth of a symbol
unfoldable pub depth_of : RulesView → ℕ → ℕ
depth_of view symbol = known_of depth_above 0 (depths (length view.alphabet) view.rules) symbol

-- the depth of the deepest symbol, which is the height of the grammar, and 0 without rules
unfoldable pub depth_in : RulesView → ℕ
depth_in view = fold max 0 (depths (length view.alphabet) view.rules)
