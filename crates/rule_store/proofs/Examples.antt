-- The definitions, run on worked values.
use Rattle.std.proofs.Common.{◌≡◌, [], ◌∷◌, refl}
use Rattle.rule_store.specs.View.{RulesView, rules_with}
use Rattle.rule_store.specs.Expansion.{expansion_of, depth_of, depth_in}
use Rattle.list_laws.specs.Grown.{table_of_rules}

-- two terminals; rule 2 is (0, 1), and rule 3 is (2, 2)
abbrev four : RulesView
four = rules_with (2 ∷ 4 ∷ []) ((0, 1) ∷ (2, 2) ∷ []) (3 ∷ 0 ∷ []) 4 9

expanded : expansion_of four 3 ≡ 0 ∷ 1 ∷ 0 ∷ 1 ∷ []
unfolding expansion_of table_of_rules
expanded = refl

deep : depth_of four 3 ≡ 2
unfolding depth_of table_of_rules
deep = refl

deepest : depth_in four ≡ 2
unfolding depth_in table_of_rules
deepest = refl
