-- Re-Pair by rounds. Each round counts every pair afresh, takes the one that counts most, and replaces it.
use Rattle.std.specs.Prelude.{ℕ, zero, suc, ◌+◌, ◌<◌, Bool, ◌&&◌, ◌==◌, nat_lt, not, if◌then◌else◌, Option, None, Some, List, [], ◌∷◌, ◌++◌, length, map, filter, find}
use Rattle.std.specs.List.{list_any, sum_by, flat_map, AllByRecursion}
use Rattle.std.specs.Ordering.{ordering_then, nat_cmp, is_lt, on, flip_args, then_cmp}
use Rattle.std.specs.declared.cmp.Ordering.{Ordering}
use Rattle.repair_grammar.specs.declared.grammar.Grammar.{Grammar}
use Rattle.repair_grammar.specs.declared.key.Key.{Key}

-- whether these two symbols are the pair
abbrev pub is_pair : ℕ × ℕ → ℕ → ℕ → Bool
is_pair pair left right = left == pair.0 && right == pair.1

-- how many replacements of the pair one pass from left to right through a block makes
unfoldable pub replacement_count : ℕ × ℕ → List ℕ → ℕ
replacement_count pair (left ∷ right ∷ rest) =
    if is_pair pair left right then suc (replacement_count pair rest) else replacement_count pair (right ∷ rest)
replacement_count pair block = 0

-- what the pass leaves of the block, with a symbol in place of each pair that it meets
unfoldable pub block_after_pass : ℕ × ℕ → ℕ → List ℕ → List ℕ
block_after_pass pair symbol (left ∷ right ∷ rest) =
    if is_pair pair left right then symbol ∷ block_after_pass pair symbol rest else left ∷ block_after_pass pair symbol (right ∷ rest)
block_after_pass pair symbol block = block

-- the count of a pair: the replacements in all blocks, so that no pair spans two of them
unfoldable pub pair_count : List (List ℕ) → ℕ × ℕ → ℕ
pair_count blocks pair = sum_by (replacement_count pair) blocks

-- the pairs that stand side by side in a block
unfoldable pub pairs_in : List ℕ → List (ℕ × ℕ)
pairs_in (left ∷ right ∷ rest) = (left, right) ∷ pairs_in (right ∷ rest)
pairs_in block = []

-- a pair with its count in the blocks
abbrev pub key_of : List (List ℕ) → ℕ × ℕ → Key
key_of blocks pair = record { count = pair_count blocks pair; pair = pair }

-- the order in which rounds take keys: the greatest count first, then the smaller left symbol, then the smaller right
-- one
unfoldable pub key_order : Key → Key → Ordering
key_order a b = ordering_then (nat_cmp b.count a.count)
    (ordering_then (nat_cmp a.pair.0 b.pair.0) (nat_cmp a.pair.1 b.pair.1))

-- the order of keys by std's words, as an impl of `Ord` states it: the key that is taken first is the greatest
abbrev pub key_cmp : Key → Key → Ordering
key_cmp = then_cmp (on (λ k. k.count) nat_cmp)
    (flip_args (then_cmp (on (λ k. k.pair.0) nat_cmp) (on (λ k. k.pair.1) nat_cmp)))

-- whether no key is taken before this one
unfoldable pub is_first_of : List Key → Key → Bool
is_first_of keys key = not (list_any (λ other. is_lt (key_order other key)) keys)

-- the pairs that count two or more, with their counts
unfoldable pub keys_of : List (List ℕ) → List Key
keys_of blocks = filter (λ key. nat_lt 1 key.count) (map (key_of blocks) (flat_map pairs_in blocks))

-- the key that a round takes
unfoldable pub first_key : List Key → Option Key
first_key keys = find (is_first_of keys) keys

-- the grammar with one more rule, and each block after the pass that replaces its pair
unfoldable pub after_round : ℕ → Grammar → ℕ × ℕ → Grammar
after_round alphabet grammar pair = record {
  rules = grammar.rules ++ pair ∷ [];
  blocks = map (block_after_pass pair (alphabet + length grammar.rules)) grammar.blocks;
}

-- the grammar after at most so many rounds; there are fewer if no pair is left that counts two
unfoldable pub rounds : ℕ → ℕ → Grammar → Grammar
rounds zero alphabet grammar = grammar
rounds (suc more) alphabet grammar = elim (first_key (keys_of grammar.blocks)) as (λ _. Grammar) [
  | None ↦ grammar
  | Some key ↦ rounds more alphabet (after_round alphabet grammar key.pair)
]

-- all rounds: there are no more than symbols, since each takes two away
unfoldable pub re_pair : ℕ → List (List ℕ) → Grammar
re_pair alphabet blocks = rounds (sum_by length blocks) alphabet (record { rules = []; blocks = blocks })

-- every symbol of the blocks is below this number
unfoldable pub AreBelow : ℕ → List (List ℕ) → Type 0
AreBelow limit blocks = AllByRecursion (AllByRecursion (λ symbol. symbol < limit)) blocks
