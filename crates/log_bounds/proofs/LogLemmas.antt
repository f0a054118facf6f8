-- Where an object is after the symbols of a log, how long these last, and what the first symbols of a longer log are.
use Rattle.std.proofs.Common.{◌≡◌, ℕ, ◌+◌, ◌<◌, ℤ, List, [], ◌∷◌, ◌++◌, length, take, refl, ap, ◌∙◌, arith}
use Rattle.std.specs.Prelude.{slice_index}
use Rattle.std.proofs.lemmas.List.{get_or_append_left, length-map, take-append-le}
use Rattle.std.proofs.lemmas.List.Sums.{sum_by_push}
use Rattle.track_types.specs.declared.cell.Cell.{Cell}
use Rattle.rule_store.specs.View.{RulesView}
use Rattle.rule_store.specs.Cells.{displacement_of, moved}
use Rattle.rule_store.specs.Expansion.{expansion_of, values_of}
use Rattle.rule_store.specs.Entry.{duration_of, entry_of}
use Rattle.rule_store.proofs.CellLemmas.{moved-turned}
use Rattle.log_bounds.specs.Bounds.{cell_after, duration_of_log}

module _ (rules : RulesView) where
  -- one symbol more
  pub cell_after-more : (cell : Cell) (log : List ℕ) (symbol : ℕ)
      → cell_after rules cell (log ++ symbol ∷ [])
      ≡ moved (cell_after rules cell log) (displacement_of (values_of rules symbol))
  unfolding cell_after
  cell_after-more cell [] symbol = refl
  cell_after-more cell (other ∷ log) symbol =
      cell_after-more (moved cell (displacement_of (values_of rules other))) log symbol

  -- from a cell that is moved, so is the cell after a log
  pub cell_after-moved : (by : ℤ × ℤ) (cell : Cell) (log : List ℕ)
      → cell_after rules (moved cell by) log ≡ moved (cell_after rules cell log) by
  unfolding cell_after
  cell_after-moved by cell [] = refl
  cell_after-moved by cell (symbol ∷ log) =
      let move : ℤ × ℤ = displacement_of (values_of rules symbol) in
      ap (λ c. cell_after rules c log) (moved-turned cell by move) ∙ cell_after-moved by (moved cell move) log

  -- an entry lasts as long as its symbol
  pub duration_of-entry : (symbol : ℕ) → (entry_of rules symbol).duration ≡ duration_of rules symbol
  unfolding entry_of duration_of values_of
  duration_of-entry symbol = length-map (expansion_of rules symbol) (slice_index rules.alphabet)

  pub duration_of_log-more : (log : List ℕ) (symbol : ℕ)
      → duration_of_log rules (log ++ symbol ∷ []) ≡ duration_of_log rules log + (entry_of rules symbol).duration
  unfolding duration_of_log
  duration_of_log-more log symbol = omega (arith, sum_by_push (duration_of rules) log symbol, duration_of-entry symbol)

  -- an entry moves as far as its symbol
  pub moved-entry : (cell : Cell) (symbol : ℕ) → moved cell ((entry_of rules symbol).dx, (entry_of rules symbol).dy)
      ≡ moved cell (displacement_of (values_of rules symbol))
  unfolding entry_of
  moved-entry cell symbol = refl

-- what is said of a log's symbol by those before it and itself is the same where others follow
pub said-front : {X : Type 0} (say : List ℕ → ℕ → X) (log more : List ℕ) (place : ℕ) → place < length log
    → say (take place (log ++ more)) (slice_index (log ++ more) place) ≡ say (take place log) (slice_index log place)
said-front say log more place below =
    ap (λ front. say front (slice_index (log ++ more) place)) (take-append-le place log more (omega arith))
    ∙ ap (say (take place log)) (get_or_append_left log more 0 place below)
