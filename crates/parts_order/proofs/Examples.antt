-- The definition, run on the parts of one period.
use Rattle.std.proofs.Common.{◌≡◌, pos, true, [], ◌∷◌, refl}
use Rattle.list_laws.specs.Grown.{table_of_rules}
use Rattle.list_laws.specs.Ordered.{insert_in_order, ordered}
use Rattle.track_types.specs.declared.parts.Parts.{Parts}
use Rattle.rule_order.specs.Layers.{layer_of}
use Rattle.rule_order.specs.Order.{new_symbol, order_to, settled_rules, symbols_in_order}
use Rattle.parts_order.specs.SettledParts.{settled_parts}

-- the values 0 and 2; rule 2 is (1, 1), rule 3 is (1, 0) and rule 4 is (0, 1), and the log has one of each
abbrev turned : Parts
turned = record {
  frame = record { version = 2; first = pos 0; span = 7; period = 7; height = 3; base = record { x = pos 0; y = pos 0 }; cell = 1; tick = 1 };
  objects = 7 ∷ [];
  alphabet = 0 ∷ 2 ∷ [];
  rules = (1, 1) ∷ (1, 0) ∷ (0, 1) ∷ [];
  periods = record {
    present = true ∷ [];
    offsets = 0 ∷ [];
    tree = [];
    lasts = true ∷ [];
    perm = 0 ∷ [];
    lengths = 3 ∷ [];
  } ∷ [];
  symbols = 4 ∷ 3 ∷ 2 ∷ [];
}

-- the rules go by their left part, then by their right part, and the log by their new numbers
turned_parts : settled_parts turned ≡ record {
  frame = turned.frame;
  objects = turned.objects;
  alphabet = turned.alphabet;
  rules = (0, 1) ∷ (1, 0) ∷ (1, 1) ∷ [];
  periods = turned.periods;
  symbols = 2 ∷ 3 ∷ 4 ∷ [];
}
unfolding settled_parts settled_rules symbols_in_order new_symbol order_to layer_of table_of_rules insert_in_order ordered
turned_parts = refl
