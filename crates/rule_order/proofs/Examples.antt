-- The definitions, run on small grammars.
use Rattle.std.proofs.Common.{◌≡◌, ℕ, List, [], ◌∷◌, refl, map}
use Rattle.std.specs.List.{range_with_len}
use Rattle.list_laws.specs.Grown.{table_of_rules}
use Rattle.list_laws.specs.Ordered.{insert_in_order, ordered}
use Rattle.rule_order.specs.Layers.{layer_of}
use Rattle.rule_order.specs.Order.{new_symbol, order_to, settled_rules, symbols_in_order}

-- two terminals; rule 2 is (1, 1), and rule 3 is (2, 1), which stand in order
in_order : settled_rules 2 ((1, 1) ∷ (2, 1) ∷ []) ≡ (1, 1) ∷ (2, 1) ∷ []
unfolding settled_rules symbols_in_order new_symbol order_to layer_of table_of_rules insert_in_order ordered
in_order = refl

-- three terminals; rule 3 is (2, 0), rule 4 is (3, 1), rule 5 is (0, 1) and rule 6 is (5, 1)
abbrev four : List (ℕ × ℕ)
four = (2, 0) ∷ (3, 1) ∷ (0, 1) ∷ (5, 1) ∷ []

-- of layer 1 are 3 and 5, and of layer 2 are 4 and 6
layers : map (layer_of 3 four) (range_with_len 0 7) ≡ 0 ∷ 0 ∷ 0 ∷ 1 ∷ 2 ∷ 1 ∷ 2 ∷ []
unfolding layer_of table_of_rules
layers = refl

-- the terminals, then 5 and 3, and then 6, whose left part is 5, and 4
turned : symbols_in_order 3 four ≡ 0 ∷ 1 ∷ 2 ∷ 5 ∷ 3 ∷ 6 ∷ 4 ∷ []
unfolding symbols_in_order order_to layer_of table_of_rules insert_in_order ordered
turned = refl

turned_numbers : map (new_symbol 3 four) (range_with_len 0 7) ≡ 0 ∷ 1 ∷ 2 ∷ 4 ∷ 6 ∷ 3 ∷ 5 ∷ []
unfolding new_symbol order_to layer_of table_of_rules
turned_numbers = refl

turned_rules : settled_rules 3 four ≡ (0, 1) ∷ (2, 0) ∷ (3, 1) ∷ (4, 1) ∷ []
unfolding settled_rules symbols_in_order new_symbol order_to layer_of table_of_rules insert_in_order ordered
turned_rules = refl

-- equal rules stay as they stood, and the one of the lesser number counts as the lesser part
equal_rules : settled_rules 2 ((0, 1) ∷ (0, 1) ∷ (3, 0) ∷ (2, 0) ∷ []) ≡ (0, 1) ∷ (0, 1) ∷ (2, 0) ∷ (3, 0) ∷ []
unfolding settled_rules symbols_in_order new_symbol order_to layer_of table_of_rules insert_in_order ordered
equal_rules = refl

-- a layer goes before parts: (0, 2) is of layer 2, and stands behind (1, 1)
layer_first : settled_rules 2 ((0, 0) ∷ (0, 2) ∷ (1, 1) ∷ []) ≡ (0, 0) ∷ (1, 1) ∷ (0, 2) ∷ []
unfolding settled_rules symbols_in_order new_symbol order_to layer_of table_of_rules insert_in_order ordered
layer_first = refl

-- of one left part the lesser right part comes first
right_parts : settled_rules 3 ((1, 2) ∷ (1, 0) ∷ []) ≡ (1, 0) ∷ (1, 2) ∷ []
unfolding settled_rules symbols_in_order new_symbol order_to layer_of table_of_rules insert_in_order ordered
right_parts = refl
