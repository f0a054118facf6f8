-- The stops of a log, symbol by symbol, and of a rule by its parts.
use Rattle.std.proofs.Common.{◌≡◌, ℕ, suc, ◌+◌, ◌<◌, ℤ, pos, ◌+ℤ◌, List, [], ◌∷◌, ◌++◌, length, Option, Some, None, refl, ap, ◌∙◌, arith}
use Rattle.std.proofs.lemmas.Int.{ints}
use Rattle.std.proofs.lemmas.List.{append_assoc}
use Rattle.track_types.specs.declared.cell.Cell.{Cell}
use Rattle.rule_store.specs.View.{RulesView}
use Rattle.rule_store.specs.Expansion.{values_of}
use Rattle.rule_store.specs.Cells.{cells_along, displacement_of, moved}
use Rattle.rule_store.specs.Entry.{duration_of}
use Rattle.rule_store.specs.Flaws.{rule_parts}
use Rattle.rule_store.specs.Log.{log_values, stop_at, stops_after, stops_from}
use Rattle.rule_store.proofs.CellLemmas.{cells_along-append, length-cells_along}
use Rattle.rule_store.proofs.ExpansionLemmas.{length-values_of, values_of-rule}

-- stops at some instants, and then at those after them
pub stops_from-append : (instant : ℤ) (xs ys : List (Option Cell)) →
    stops_from instant (xs ++ ys) ≡ stops_from instant xs ++ stops_from (instant +ℤ pos (length xs)) ys
unfolding stops_from
stops_from-append instant [] ys =
    let same : instant ≡ instant +ℤ pos 0 = omega (arith, ints) in
    ap (λ at. stops_from at ys) same
stops_from-append instant (None ∷ xs) ys =
    let same : (instant +ℤ pos 1) +ℤ pos (length xs) ≡ instant +ℤ pos (suc (length xs)) = omega (arith, ints) in
    stops_from-append (instant +ℤ pos 1) xs ys
    ∙ ap (λ at. stops_from (instant +ℤ pos 1) xs ++ stops_from at ys) same
stops_from-append instant (Some cell ∷ xs) ys =
    let same : (instant +ℤ pos 1) +ℤ pos (length xs) ≡ instant +ℤ pos (suc (length xs)) = omega (arith, ints) in
    ap (λ rest. stop_at instant cell ∷ rest) (stops_from-append (instant +ℤ pos 1) xs ys
    ∙ ap (λ at. stops_from (instant +ℤ pos 1) xs ++ stops_from at ys) same)

-- a log with no symbol has no stop after its start
pub stops_after-none : (rules : RulesView) (instant : ℤ) (cell : Cell) → stops_after rules instant cell [] ≡ []
unfolding stops_after log_values cells_along stops_from
stops_after-none rules instant cell = refl

-- the stops of a log are those of its first symbol, and then those of the others from where it leads
pub stops_after-cons : (rules : RulesView) (instant : ℤ) (cell : Cell) (symbol : ℕ) (log : List ℕ) →
    stops_after rules instant cell (symbol ∷ log)
    ≡ stops_from (instant +ℤ pos 1) (cells_along cell (values_of rules symbol))
    ++ stops_after rules (instant +ℤ pos (duration_of rules symbol))
    (moved cell (displacement_of (values_of rules symbol))) log
unfolding stops_after log_values
stops_after-cons rules instant cell symbol log =
    let values = values_of rules symbol in
    let later = log_values rules log in
    let next = moved cell (displacement_of values) in
    let long : length (cells_along cell values) ≡ duration_of rules symbol =
    length-cells_along cell values ∙ length-values_of rules symbol in
    let at : (instant +ℤ pos 1) +ℤ pos (length (cells_along cell values))
    ≡ (instant +ℤ pos (duration_of rules symbol)) +ℤ pos 1 = omega (arith, ints, long) in
    ap (stops_from (instant +ℤ pos 1)) (cells_along-append cell values later)
    ∙ stops_from-append (instant +ℤ pos 1) (cells_along cell values) (cells_along next later)
    ∙ ap (λ from. stops_from (instant +ℤ pos 1) (cells_along cell values) ++ stops_from from
    (cells_along next later)) at

-- a rule has the stops of its two parts
pub stops_after-rule : (rules : RulesView) (instant : ℤ) (cell : Cell) (j left right : ℕ) (log : List ℕ) →
    j < length rules.rules → rule_parts rules.rules j ≡ (left, right) → left < length rules.alphabet + j →
    right < length rules.alphabet + j →
    stops_after rules instant cell ((length rules.alphabet + j) ∷ log) ≡ stops_after rules instant cell
    (left ∷ right ∷ log)
unfolding stops_after log_values
stops_after-rule rules instant cell j left right log within is left_below right_below =
    ap (λ values. stops_from (instant +ℤ pos 1) (cells_along cell values))
    (ap (λ values. values ++ log_values rules log) (values_of-rule rules j left right within is left_below right_below)
    ∙ append_assoc (values_of rules left) (values_of rules right) (log_values rules log))
