-- What holds of a grammar of blocks: its symbols stand for the blocks, and each rule is needed.
use Rattle.std.specs.Prelude.{◌≡◌, ℕ, ◌+◌, ◌*◌, ◌<◌, ◌≤◌, Bool, true, ◌||◌, ◌==◌, List, [], length, map, slice_index_or}
use Rattle.std.specs.List.{list_any, sum_by, flat_map}
use Rattle.list_laws.specs.Grown.{expansions}
use Rattle.repair_grammar.specs.declared.grammar.Grammar.{Grammar}
use Rattle.repair_grammar.specs.RePair.{AreBelow}

-- what the symbols of a block stand for, one after another
unfoldable pub expanded : ℕ → List (ℕ × ℕ) → List ℕ → List ℕ
expanded alphabet rules block = flat_map (λ symbol. slice_index_or (expansions alphabet rules) symbol []) block

-- whether a symbol stands in a block or is a part of a rule
unfoldable pub is_used : Grammar → ℕ → Bool
is_used grammar symbol = list_any (list_any (λ other. other == symbol)) grammar.blocks
    || list_any (λ rule. rule.0 == symbol || rule.1 == symbol) grammar.rules

-- the grammar stands for the blocks, and is no longer than they are
pub record IsGrammarOf (alphabet : ℕ) (blocks : List (List ℕ)) (grammar : Grammar) : Type 0 where
  -- block by block, the symbols stand for those of the old block
  pub expands : map (expanded alphabet grammar.rules) grammar.blocks ≡ blocks
  -- each symbol is a terminal or a rule's
  pub below : AreBelow (alphabet + length grammar.rules) grammar.blocks
  -- the parts of each rule are below its own symbol
  pub parts : (rule : ℕ) → rule < length grammar.rules →
      ((slice_index_or grammar.rules rule (0, 0)).0 < alphabet + rule)
      × ((slice_index_or grammar.rules rule (0, 0)).1 < alphabet + rule)
  -- each rule is used
  pub used : (rule : ℕ) → rule < length grammar.rules → is_used grammar (alphabet + rule) ≡ true
  -- each rule takes at least two symbols away, so there are at most half as many rules as symbols
  pub few : 2 * length grammar.rules + sum_by length grammar.blocks ≤ sum_by length blocks
  -- there are as many blocks, and none is longer
  pub same : length grammar.blocks ≡ length blocks
  pub shorter : (block : ℕ) → length (slice_index_or grammar.blocks block []) ≤ length (slice_index_or blocks block [])
