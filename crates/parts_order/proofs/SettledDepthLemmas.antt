-- The greatest depth of all symbols: it stays where the symbols have new numbers.
use Rattle.std.proofs.Common.{◌≡◌, ℕ, suc, ◌<◌, ◌≤◌, List, [], ◌∷◌, length, get_or, max, ap, sym, ◌∙◌, arith}
use Rattle.std.specs.Prelude.{fold}
use Rattle.list_laws.proofs.GreatestLemmas.{fold_max-at}
use Rattle.rule_store.specs.Expansion.{depth_in, depth_of, depths}
use Rattle.rule_store.specs.View.{RulesView, symbols_in}
use Rattle.rule_store.proofs.ExpansionLemmas.{length-depths}
use Rattle.rule_order.specs.Layers.{AreBelow}
use Rattle.rule_order.specs.Order.{new_symbol, symbols_in_order}
use Rattle.rule_order.specs.View.{settled_view}
use Rattle.rule_order.proofs.KeptLemmas.{depth_of-settled}
use Rattle.rule_order.proofs.SettledLemmas.{length-settled_rules, old_symbol}

-- the greatest of some numbers is no greater than what none of them passes
pub fold_max-most : (numbers : List ℕ) (n most : ℕ) → n ≤ most →
    ((place : ℕ) → place < length numbers → get_or numbers place 0 ≤ most) → fold max n numbers ≤ most
fold_max-most [] n most first each = first
fold_max-most (other ∷ numbers) n most first each =
    fold_max-most numbers (max n other) most (omega (arith, first, each 0 (omega arith)))
    (λ place within. each (suc place) (omega arith))

-- no symbol is deeper than the deepest
depth_of-most : (view : RulesView) (symbol : ℕ) → depth_of view symbol ≤ depth_in view
unfolding depth_of depth_in
depth_of-most view symbol = fold_max-at (depths (length view.alphabet) view.rules) 0 symbol

-- what no symbol's depth passes, the deepest does not pass
depth_in-most : (view : RulesView) (most : ℕ) →
    ((symbol : ℕ) → symbol < symbols_in view → depth_of view symbol ≤ most) → depth_in view ≤ most
unfolding depth_of depth_in
depth_in-most view most each =
    fold_max-most (depths (length view.alphabet) view.rules) 0 most (omega arith)
    (λ symbol within. each symbol (omega (arith, within, length-depths view)))

module _ (view : RulesView) (below : AreBelow (length view.alphabet) view.rules) where
  -- the deepest symbol is as deep as it was
  pub depth_in-settled : depth_in (settled_view view) ≡ depth_in view
  depth_in-settled =
      let many = length-settled_rules (length view.alphabet) view.rules below in
      let low : depth_in (settled_view view) ≤ depth_in view =
      depth_in-most (settled_view view) (depth_in view) (λ place within.
      let symbol : ℕ = get_or (symbols_in_order (length view.alphabet) view.rules) place 0 in
      let old = old_symbol (length view.alphabet) view.rules below place (omega (arith, within, many)) in
      let same = ap (depth_of (settled_view view)) (sym old.is) ∙ depth_of-settled view below symbol old.within in
      omega (arith, same, depth_of-most view symbol)) in
      let high : depth_in view ≤ depth_in (settled_view view) =
      depth_in-most view (depth_in (settled_view view)) (λ symbol within.
      let now : ℕ = new_symbol (length view.alphabet) view.rules symbol in
      omega (arith, depth_of-settled view below symbol within, depth_of-most (settled_view view) now)) in
      omega (arith, low, high)
