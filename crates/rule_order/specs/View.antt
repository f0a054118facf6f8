-- What a rule store holds once its rules are settled.
use Rattle.std.specs.Prelude.{length, map}
use Rattle.rule_store.specs.View.{RulesView, rules_with}
use Rattle.rule_order.specs.Order.{new_symbol, settled_rules}

-- the view of a rule store whose rules are in order and whose stored symbols have their new numbers; all else stays
abbrev pub settled_view : RulesView → RulesView
settled_view view =
    rules_with view.alphabet (settled_rules (length view.alphabet) view.rules)
    (map (new_symbol (length view.alphabet) view.rules) view.symbols) view.height view.period
