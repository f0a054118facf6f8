-- A round over the row of all blocks, as it is seen in the blocks.
use Rattle.std.proofs.Common.{◌≡◌, ℕ, ◌<◌, List, map, ◌∙◌, ap, arith}
use Rattle.std.proofs.lemmas.Bool.Decides.{nat_tests}
use Rattle.repair_grammar.specs.declared.key.Key.{Key}
use Rattle.repair_grammar.specs.declared.pairs.Pairs.{Pairs}
use Rattle.repair_grammar.specs.RePair.{AreBelow, pair_count, block_after_pass}
use Rattle.repair_grammar.specs.Kept.{Covers}
use Rattle.repair_grammar.specs.Pairs.{count_of, places_of}
use Rattle.repair_grammar.specs.Threads.{live, marked_row, IsCounted, IsUnmarked}
use Rattle.repair_grammar.proofs.CoverLemmas.{counted_below}
use Rattle.repair_grammar.proofs.RowLemmas.{replacement_count-row, block_after_pass-row}
use Rattle.repair_grammar.specs.declared.symbol_row.TheConstants.{END}

-- every pair counts in the row what it counts in the blocks
module _ (limit : ℕ) (symbols : List ℕ) (blocks : List (List ℕ)) (count : ℕ × ℕ → ℕ) (places : ℕ × ℕ → List ℕ)
    (fits : limit < END) (below : AreBelow limit blocks) (row : live symbols ≡ marked_row blocks)
    (counted : IsCounted symbols count places) where
  no_mark : (pair : ℕ × ℕ) → (IsUnmarked pair → ⊥) → count pair ≡ pair_count blocks pair
  no_mark pair marked = grind (arith, nat_tests, counted_below)

  pub counts_all : (pair : ℕ × ℕ) → count pair ≡ pair_count blocks pair
  counts_all pair = grind (arith, nat_tests, replacement_count-row, no_mark)

-- the row after a pass
pub row_after : (old new : List ℕ) (pair : ℕ × ℕ) (symbol : ℕ) (blocks : List (List ℕ)) → IsUnmarked pair →
    live old ≡ marked_row blocks → live new ≡ block_after_pass pair symbol (live old) →
    live new ≡ marked_row (map (block_after_pass pair symbol) blocks)
row_after old new pair symbol blocks plain row all =
    all ∙ ap (block_after_pass pair symbol) row ∙ block_after_pass-row pair plain.0 plain.1 symbol blocks

-- the same table, with other fresh pairs
pub counted_same : (symbols : List ℕ) (old new : Pairs) → new.table ≡ old.table →
    IsCounted symbols (count_of old) (places_of old) → IsCounted symbols (count_of new) (places_of new)
counted_same symbols old new same counted = grind (arith, nat_tests)

pub covers_same : (old new : Pairs) (keys : List Key) → new.table ≡ old.table → Covers (count_of old) keys →
    Covers (count_of new) keys
covers_same old new keys same covers = rw same covers
