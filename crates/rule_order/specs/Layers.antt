-- The layers of a grammar's symbols: how many rules stand on each other above the terminals.
use Rattle.std.specs.Prelude.{ℕ, ◌+◌, ◌-◌, ◌<◌, List, length}
use Rattle.list_laws.specs.Grown.{known_of}
use Rattle.rule_store.specs.Expansion.{depth_above, depths}
use Rattle.rule_store.specs.Flaws.{rule_parts}

-- how many symbols there are: the terminals, and one symbol for each rule
abbrev pub symbol_count : ℕ → List (ℕ × ℕ) → ℕ
symbol_count alphabet rules = alphabet + length rules

-- the parts of a rule, by its symbol
abbrev pub parts_of : ℕ → List (ℕ × ℕ) → ℕ → ℕ × ℕ
parts_of alphabet rules symbol = rule_parts rules (symbol - alphabet)

-- the parts of each rule are below its own symbol
abbrev pub AreBelow : ℕ → List (ℕ × ℕ) → Type 0
AreBelow alphabet rules = (j : ℕ) → j < length rules →
    ((rule_parts rules j).0 < alphabet + j) × ((rule_parts rules j).1 < alphabet + j)

-- the layer of a symbol: 0 for a terminal, and for a rule one more than the greater of the layers of its two parts
unfoldable pub layer_of : ℕ → List (ℕ × ℕ) → ℕ → ℕ
layer_of alphabet rules symbol = known_of depth_above 0 (depths alphabet rules) symbol
