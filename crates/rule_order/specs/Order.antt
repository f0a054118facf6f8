-- The order of rules: by layer, then by left part, then by right part, where a part counts by its place in this order.
use Rattle.std.specs.Prelude.{◌≡◌, ℕ, zero, suc, ◌+◌, ◌<◌, false, List, length, map, filter, drop}
use Rattle.std.specs.List.{range_with_len}
use Rattle.std.specs.Ordering.{is_lt, nat_cmp, on, then_cmp}
use Rattle.std.specs.declared.cmp.Ordering.{Ordering}
use Rattle.list_laws.specs.Ordered.{ordered}
use Rattle.rule_store.specs.Flaws.{rule_parts}
use Rattle.rule_order.specs.Layers.{AreBelow, layer_of, parts_of, symbol_count}

-- what tells rules apart: their layer, their left part and their right part
abbrev pub rule_key : ℕ → List (ℕ × ℕ) → ℕ → ℕ × (ℕ × ℕ)
rule_key alphabet rules j = (layer_of alphabet rules (alphabet + j), rule_parts rules j)

-- the lower layer comes first; in a layer the lesser left part, and of equal ones the lesser right part
abbrev pub key_order : ℕ × (ℕ × ℕ) → ℕ × (ℕ × ℕ) → Ordering
key_order = then_cmp (on (λ key. key.0) nat_cmp) (then_cmp (on (λ key. key.1.0) nat_cmp) (on (λ key. key.1.1) nat_cmp))

-- rules stand in order: the parts of each are below its own symbol, and none stands after one that it should come before
pub record IsSettled (alphabet : ℕ) (rules : List (ℕ × ℕ)) : Type 0 where
  pub below : AreBelow alphabet rules
  pub sorted : (i j : ℕ) → i < j → j < length rules →
      is_lt (key_order (rule_key alphabet rules j) (rule_key alphabet rules i)) ≡ false

module _ (alphabet : ℕ) (rules : List (ℕ × ℕ)) where
  -- The order of symbols, where the layers are at most `depth`: by layer; then by left parts and then by right parts in
  -- this order, whose layers are lower; then by number, as terminals and equal rules stand.
  unfoldable pub order_to : ℕ → ℕ → ℕ → Ordering
  order_to zero = nat_cmp
  order_to (suc depth) =
      then_cmp (on (layer_of alphabet rules) nat_cmp)
      (then_cmp (on (λ symbol. (parts_of alphabet rules symbol).0) (order_to depth))
      (then_cmp (on (λ symbol. (parts_of alphabet rules symbol).1) (order_to depth)) nat_cmp))

  -- the order of symbols: no layer is above the number of rules
  abbrev pub symbol_order : ℕ → ℕ → Ordering
  symbol_order = order_to (length rules)

  -- all symbols in their order
  unfoldable pub symbols_in_order : List ℕ
  symbols_in_order = ordered symbol_order (range_with_len 0 (symbol_count alphabet rules))

  -- the new number of a symbol: how many symbols come before it
  unfoldable pub new_symbol : ℕ → ℕ
  new_symbol symbol =
      length (filter (λ other. is_lt (symbol_order other symbol)) (range_with_len 0 (symbol_count alphabet rules)))

  -- the rules in their order, each with the new numbers of its parts
  unfoldable pub settled_rules : List (ℕ × ℕ)
  settled_rules =
      map (λ symbol. (new_symbol (parts_of alphabet rules symbol).0, new_symbol (parts_of alphabet rules symbol).1))
      (drop alphabet symbols_in_order)
