-- The stops of symbols, and which of them pass a test for the instant.
use Rattle.std.proofs.Common.{◌≡◌, ℕ, zero, suc, ◌<◌, ℤ, pos, ◌+ℤ◌, ◌≤ℤ◌, ◌<ℤ◌, Bool, true, false, List, [], ◌∷◌, ◌++◌, length, filter, Option, Some, None, refl, ap, sym, ◌∙◌, to_z, of_z, w64, arith, inl, inr}
use Rattle.std.specs.Option.{is_some}
use Rattle.std.specs.Ordering.{int_eq}
use Rattle.std.proofs.lemmas.Int.{ints}
use Rattle.std.proofs.lemmas.Bool.{cases_Bool}
use Rattle.std.proofs.lemmas.Bool.Decides.{Decides-int_eq}
use Rattle.track_types.specs.Region.{is_between}
use Rattle.track_types.specs.declared.cell.Cell.{Cell}
use Rattle.track_types.specs.declared.stop.Stop.{Stop}
use Rattle.rule_store.specs.View.{RulesView}
use Rattle.rule_store.specs.Expansion.{values_of}
use Rattle.rule_store.specs.Cells.{cells_along, displacement_of, moved, present_in}
use Rattle.rule_store.specs.Boxes.{bounding_box_of, box_round, origin}
use Rattle.rule_store.specs.Entry.{duration_of}
use Rattle.rule_store.specs.Log.{stop_at, stops_after, stops_from}
use Rattle.rule_store.proofs.BoxLemmas.{box_round-none}
use Rattle.rule_store.proofs.CellLemmas.{length-cells_along, same_cell}
use Rattle.rule_store.proofs.ExpansionLemmas.{length-values_of, values_of-terminal}
use Rattle.rule_store.proofs.LogLemmas.{stops_after-cons}
use Rattle.log_cursor.specs.Start.{start_past}
use Rattle.log_cursor.specs.declared.start.Start.{Start}

-- an instant, as it is once it went through a machine's word
abbrev pub word : ℤ → ℤ
word z = to_z w64 (of_z w64 z)

-- from an instant on there are so many stops' instants
abbrev IsFalseFrom : (Stop → Bool) → ℤ → ℕ → Type 0
IsFalseFrom test instant many =
    (z : ℤ) (cell : Cell) → instant ≤ℤ z → z <ℤ (instant +ℤ pos many) → test (stop_at z cell) ≡ false

-- where a test is false at all instants of stops, none passes
pub filter-stops_from : (test : Stop → Bool) (instant : ℤ) (cells : List (Option Cell)) →
    IsFalseFrom test instant (length cells) → filter test (stops_from instant cells) ≡ []
unfolding stops_from
filter-stops_from test instant [] fails = refl
filter-stops_from test instant (None ∷ cells) fails =
    filter-stops_from test (instant +ℤ pos 1) cells
    (λ z cell above below. fails z cell (omega (arith, ints)) (omega (arith, ints)))
filter-stops_from test instant (Some here ∷ cells) fails =
    let first : test (stop_at instant here) ≡ false = fails instant here (omega (arith, ints)) (omega (arith, ints)) in
    let rest = filter-stops_from test (instant +ℤ pos 1) cells
    (λ z cell above below. fails z cell (omega (arith, ints)) (omega (arith, ints))) in
    rw first rest

-- no number between two others is before the first or after the last
pub is_between-before : (low high z : ℤ) → z <ℤ low → is_between low high z ≡ false
is_between-before low high z before = grind (arith, ints)

pub is_between-after : (low high z : ℤ) → high <ℤ z → is_between low high z ≡ false
is_between-after low high z after = grind (arith, ints)

pub int_eq-apart : (a b : ℤ) → (a ≡ b → ⊥) → int_eq a b ≡ false
int_eq-apart a b apart =
    elim (cases_Bool (int_eq a b)) [
      | inl same ↦ absurd (apart ((Decides-int_eq a b).0 same))
      | inr other ↦ other
    ]

-- cells of which none is present, from any start
absent-anywhere : (instant : ℤ) (cell other : Cell) (values : List ℕ) → present_in (cells_along other values) ≡ [] →
    stops_from instant (cells_along cell values) ≡ []
unfolding cells_along stops_from
absent-anywhere instant cell other [] none = refl
absent-anywhere instant cell other (zero ∷ values) none =
    absent-anywhere (instant +ℤ pos 1) cell other values none
absent-anywhere instant cell other (suc code ∷ values) none = absurd (cc)

-- a movement has one stop
stops_from-move : (instant : ℤ) (cell : Cell) (value : ℕ) → is_some (bounding_box_of (value ∷ [])) ≡ true →
    stops_from instant (cells_along cell (value ∷ []))
    ≡ stop_at instant (moved cell (displacement_of (value ∷ []))) ∷ []
unfolding stops_from cells_along displacement_of bounding_box_of box_round
stops_from-move instant cell zero some = absurd (cc)
stops_from-move instant cell (suc code) some =
    ap (λ here. stop_at instant here ∷ []) (same_cell _ _ _ _ (omega (arith, ints)) (omega (arith, ints)))

-- a terminal lasts one instant
pub duration_of-terminal : (rules : RulesView) (symbol : ℕ) → symbol < length rules.alphabet →
    duration_of rules symbol ≡ 1
duration_of-terminal rules symbol terminal =
    sym (length-values_of rules symbol) ∙ ap length (values_of-terminal rules symbol terminal)

module _ (rules : RulesView) (start : Start) (symbol : ℕ) where
  -- where the symbol leads
  abbrev past : Start
  past = start_past start (values_of rules symbol)

  -- its own stops
  abbrev pub symbol_stops : List Stop
  symbol_stops = stops_from (start.instant +ℤ pos 1) (cells_along start.cell (values_of rules symbol))

  -- they come before those of the symbols after it
  pub stops_after-first : (log : List ℕ) →
      stops_after rules start.instant start.cell (symbol ∷ log)
      ≡ symbol_stops ++ stops_after rules past.instant past.cell log
  stops_after-first log = rw length-values_of (stops_after-cons rules start.instant start.cell symbol log)

  -- where a test is false at all of its instants, none of them passes
  pub symbol_stops-fail : (test : Stop → Bool) → IsFalseFrom test (start.instant +ℤ pos 1) (length (values_of rules symbol)) →
      filter test symbol_stops ≡ []
  symbol_stops-fail test fails =
      filter-stops_from test (start.instant +ℤ pos 1) (cells_along start.cell (values_of rules symbol))
      (rw length-cells_along fails)

  -- a symbol with no box has none
  pub symbol_stops-absent : bounding_box_of (values_of rules symbol) ≡ None → symbol_stops ≡ []
  unfolding bounding_box_of
  symbol_stops-absent none =
      absent-anywhere (start.instant +ℤ pos 1) start.cell origin (values_of rules symbol)
      (box_round-none (present_in (cells_along origin (values_of rules symbol))) (sym none))

  -- a terminal with a box has one, where it leads
  pub symbol_stops-terminal : symbol < length rules.alphabet → is_some (bounding_box_of (values_of rules symbol)) ≡ true →
      symbol_stops ≡ stop_at past.instant past.cell ∷ []
  symbol_stops-terminal terminal some =
      let one = values_of-terminal rules symbol terminal in
      rw one (stops_from-move (start.instant +ℤ pos 1) start.cell _ (rw one at some))
