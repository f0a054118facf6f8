-- Tables that grow by rules: what each symbol of a grammar stands for, by any way to join two parts.
use Rattle.std.specs.Prelude.{ℕ, List, [], ◌∷◌, ◌++◌, map, slice_index_or}
use Rattle.std.specs.List.{range_with_len}

module _ {A : Type 0} (join : A → A → A) (none : A) where
  -- what the table has for a symbol, and `none` past its end
  abbrev pub known_of : List A → ℕ → A
  known_of known symbol = slice_index_or known symbol none

  -- the table with one more element for each rule, the join of what it has for the rule's two parts
  unfoldable pub table_of_rules : List A → List (ℕ × ℕ) → List A
  table_of_rules known [] = known
  table_of_rules known (rule ∷ rules) =
      table_of_rules (known ++ join (known_of known rule.0) (known_of known rule.1) ∷ []) rules

-- what each symbol of a grammar stands for: a terminal for itself, a rule's symbol for what its two parts stand for, one
-- after the other
abbrev pub expansions : ℕ → List (ℕ × ℕ) → List (List ℕ)
expansions size rules = table_of_rules (◌++◌) [] (map (λ terminal. terminal ∷ []) (range_with_len 0 size)) rules
