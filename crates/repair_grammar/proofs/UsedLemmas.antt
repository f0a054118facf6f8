-- Each rule of a grammar is used: what holds of the symbols of its blocks, and passes from a rule to its parts, holds
-- of all rules.
use Rattle.std.proofs.Common.{◌≡◌, ℕ, zero, suc, ◌+◌, ◌<◌, ◌≤◌, ◌==◌, ◌||◌, true, List, length, get_or, subst, arith, inl, inr}
use Rattle.std.specs.List.{Contains, list_any}
use Rattle.std.proofs.lemmas.Bool.{eqb-true, or_cases}
use Rattle.std.proofs.lemmas.List.{get_or_default}
use Rattle.std.proofs.lemmas.List.Folds.{Any-from_list_any}
use Rattle.std.proofs.lemmas.Bool.Decides.{nat_tests}
use Rattle.repair_grammar.specs.declared.grammar.Grammar.{Grammar}
use Rattle.repair_grammar.specs.GrammarOf.{IsGrammarOf, is_used}

module _ (alphabet : ℕ) (blocks : List (List ℕ)) (grammar : Grammar) (is : IsGrammarOf alphabet blocks grammar)
    (P : ℕ → Type 0)
    (stored : (block : List ℕ) (symbol : ℕ) → Contains grammar.blocks block → Contains block symbol → P symbol)
    (parts : (rule : ℕ) → rule < length grammar.rules → P (alphabet + rule) →
    P (get_or grammar.rules rule (0, 0)).0 × P (get_or grammar.rules rule (0, 0)).1) where
  -- a symbol that stands in a block
  standing : (symbol : ℕ) → list_any (list_any (λ other. other == symbol)) grammar.blocks ≡ true → P symbol
  standing symbol stands =
      let any = Any-from_list_any (list_any (λ other. other == symbol)) grammar.blocks stands in
      let block : List ℕ = any.1 in
      let one = Any-from_list_any (λ other. other == symbol) block any.4 in
      let other : ℕ = one.1 in
      subst P (eqb-true other symbol one.4) (stored block other (any.0, any.2, any.3) (one.0, one.2, one.3))

  -- a symbol that is a part of a rule of which it holds
  part : (symbol : ℕ) → ((rule : ℕ) → rule < length grammar.rules → symbol < alphabet + rule → P (alphabet + rule)) →
      list_any (λ pair. pair.0 == symbol || pair.1 == symbol) grammar.rules ≡ true → P symbol
  part symbol later stands = grind (arith, nat_tests, Any-from_list_any, get_or_default)

  -- from the last rule down
  used_from : (left rule : ℕ) → rule < length grammar.rules → length grammar.rules ≤ rule + left → P (alphabet + rule)
  unfolding is_used
  used_from zero rule within near = absurd (omega arith)
  used_from (suc left) rule within near =
      let symbol : ℕ = alphabet + rule in
      elim (or_cases (list_any (list_any (λ other. other == symbol)) grammar.blocks)
      (list_any (λ pair. pair.0 == symbol || pair.1 == symbol) grammar.rules) (is.used rule within)) [
        | inl stands ↦ standing symbol stands
        | inr in_rule ↦
            part symbol (λ later inside above. used_from left later inside (omega arith)) in_rule
      ]

  pub holds_of_rules : (rule : ℕ) → rule < length grammar.rules → P (alphabet + rule)
  holds_of_rules rule within = used_from (length grammar.rules) rule within (omega arith)
