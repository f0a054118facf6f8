-- Boxes of a log's symbols, one after the other: for who tests whether a block is placed.
use Rattle.std.proofs.Common.{◌≡◌, ℕ, ◌+◌, ◌<◌, ◌≤◌, List, ◌∷◌, drop, length, add-one, ap, sym, subst, ◌∙◌}
use Rattle.std.specs.Prelude.{slice_index}
use Rattle.std.proofs.Math.ListN.{drop_of_length-le}
use Rattle.std.proofs.Math.Seq.{drop-cons}
use Rattle.track_types.specs.declared.cell.Cell.{Cell}
use Rattle.rule_store.specs.View.{RulesView}
use Rattle.rule_store.specs.Expansion.{values_of}
use Rattle.rule_store.specs.Cells.{displacement_of, moved}
use Rattle.rule_store.specs.Entry.{entry_of}
use Rattle.rule_store.specs.declared.entry.Entry.{Entry}
use Rattle.log_cursor.specs.Start.{AreHullsAsked, IsHullAsked}
use Rattle.log_cursor.proofs.WayLemmas.{hull_is}

-- the cell to which an entry leads
leads_to : (rules : RulesView) (cell : Cell) (entry : Entry) (symbol : ℕ) → entry ≡ entry_of rules symbol →
    moved cell (entry.dx, entry.dy) ≡ moved cell (displacement_of (values_of rules symbol))
unfolding entry_of
leads_to rules cell entry symbol is = ap (λ (e : Entry). moved cell (e.dx, e.dy)) is

-- where the box of a symbol is near, and those of the symbols after it, so are those from the symbol on
pub AreHullsAsked-step : (rules : RulesView) (cell next : Cell) (log : List ℕ) (i : ℕ) (entry : Entry) → i < length log →
    entry ≡ entry_of rules (slice_index log i) → IsHullAsked cell entry.hull →
    next ≡ moved cell (entry.dx, entry.dy) → AreHullsAsked rules next (drop (i + 1) log) →
    AreHullsAsked rules cell (drop i log)
unfolding AreHullsAsked
AreHullsAsked-step rules cell next log i entry within is near leads rest =
    let symbol = slice_index log i in
    let split : drop i log ≡ symbol ∷ drop (i + 1) log = rw add-one (drop-cons log i 0 within) in
    rw split (rw (hull_is rules entry symbol is) at near, rw (leads ∙ leads_to rules cell entry symbol is) at rest)

-- after the last symbol there is no box
pub AreHullsAsked-end : (rules : RulesView) (cell : Cell) (log : List ℕ) (i : ℕ) → length log ≤ i →
    AreHullsAsked rules cell (drop i log)
unfolding AreHullsAsked
AreHullsAsked-end rules cell log i end = subst (AreHullsAsked rules cell) (sym (drop_of_length-le log end)) tt
