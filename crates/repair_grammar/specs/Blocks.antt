-- Blocks in one list, one after the other, and how many symbols each has.
use Rattle.std.specs.Prelude.{ℕ, List, [], ◌∷◌, drop, length, map, take}
use Rattle.std.specs.List.{flat_map}
use Rattle.repair_grammar.specs.declared.blocks.JoinedBlocks.{JoinedBlocks}
use Rattle.repair_grammar.specs.declared.grammar.Grammar.{Grammar}
use Rattle.repair_grammar.specs.declared.grammar.JoinedGrammar.{JoinedGrammar}

-- blocks one after the other
abbrev pub joined_blocks : List (List ℕ) → JoinedBlocks
joined_blocks blocks = record { symbols = flat_map (λ block. block) blocks; lengths = map length blocks }

-- a list of symbols, cut into blocks of these lengths
unfoldable pub split_by : List ℕ → List ℕ → List (List ℕ)
split_by [] symbols = []
split_by (len ∷ lengths) symbols = take len symbols ∷ split_by lengths (drop len symbols)

-- blocks that stand one after the other
abbrev pub blocks_in : JoinedBlocks → List (List ℕ)
blocks_in joined = split_by joined.lengths joined.symbols

-- a grammar with its blocks one after the other
abbrev pub joined_grammar : Grammar → JoinedGrammar
joined_grammar grammar = record { rules = grammar.rules; blocks = joined_blocks grammar.blocks }
