-- The parts of an index, after their rules were brought into order.
use Rattle.std.specs.Prelude.{length, map}
use Rattle.track_types.specs.declared.parts.Parts.{Parts}
use Rattle.rule_order.specs.Order.{new_symbol, settled_rules}

-- the parts with their rules in order and the new number of each symbol in the logs; all else is as it was
unfoldable pub settled_parts : Parts → Parts
settled_parts parts = record {
  frame = parts.frame;
  objects = parts.objects;
  alphabet = parts.alphabet;
  rules = settled_rules (length parts.alphabet) parts.rules;
  periods = parts.periods;
  symbols = map (new_symbol (length parts.alphabet) parts.rules) parts.symbols;
}
