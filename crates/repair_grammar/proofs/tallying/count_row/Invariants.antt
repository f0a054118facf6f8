use Rattle.std.proofs.Common.{◌≡◌, ℕ, ◌+◌, ◌<◌, true, ◌∷◌, drop}
use Rattle.std.specs.List.{Contains}
use Rattle.repair_grammar.specs.RePair.{replacement_count}
use Rattle.repair_grammar.specs.Counts.{met_after}
use Rattle.repair_grammar.specs.Pairs.{count_of, places_of}
use Rattle.repair_grammar.specs.Threads.{at, stands_at, IsUnmarked}
use Rattle.repair_grammar.proofs.tallying.count_row.Given as goal

-- what is counted and still met, and the places so far
abbrev pub invariant-symbols : goal.invariant-symbols
invariant-symbols l = record {
  left : at l.row l.place ≡ l.left;
  counts : (pair : ℕ × ℕ) → IsUnmarked pair →
      count_of l.pairs pair + met_after l.taken pair (l.left ∷ drop l.place l.rest) ≡ replacement_count pair l.row;
  noted : (pair : ℕ × ℕ) (k : ℕ) → IsUnmarked pair → k < l.place → stands_at l.row pair k ≡ true →
      Contains (places_of l.pairs pair) k;
  plain : (pair : ℕ × ℕ) → 0 < count_of l.pairs pair → IsUnmarked pair;
  fresh : (pair : ℕ × ℕ) → 0 < count_of l.pairs pair → Contains l.pairs.fresh.items pair;
}
