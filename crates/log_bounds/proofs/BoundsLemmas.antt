-- What bounds a log: of no symbol, of one symbol more, and from a cell that is moved.
use Rattle.std.proofs.Common.{◌≡◌, ℕ, ℤ, max, List, [], ◌∷◌, ◌++◌, refl, ap, ◌∙◌}
use Rattle.track_types.specs.Boxes.{cell_box, moved_box}
use Rattle.track_types.specs.declared.cell.Cell.{Cell}
use Rattle.track_types.specs.declared.cell_box.CellBox.{CellBox}
use Rattle.rule_store.specs.View.{RulesView}
use Rattle.rule_store.specs.Cells.{cell_with, moved}
use Rattle.rule_store.specs.Entry.{entry_of}
use Rattle.rule_store.specs.declared.entry.Entry.{Entry}
use Rattle.log_bounds.specs.Bounds.{bounds_of, bounds_with, cell_after, duration_of_log, hull_speed, log_box, log_speed, with_hull}
use Rattle.log_bounds.specs.declared.bounds.LogBounds.{LogBounds}
use Rattle.log_bounds.proofs.SpeedLemmas.{log_speed-more, log_speed-moved}
use Rattle.log_bounds.proofs.BoxLemmas.{log_box-more, log_box-moved}

-- bounds from the same cell with the same speed and the same box are the same
pub same_bounds : (c d : Cell) (s t : ℕ) (a b : CellBox) → c ≡ d → s ≡ t → a ≡ b → bounds_with c s a ≡ bounds_with d t b
same_bounds c d s t a b cells speeds areas =
    ap (λ x. bounds_with x s a) cells ∙ ap (λ n. bounds_with d n a) speeds ∙ ap (bounds_with d t) areas

-- without a symbol there is no speed, and the box is that of the first cell
pub bounds-none : (rules : RulesView) (start : Cell) → bounds_with start 0 (cell_box start) ≡ bounds_of rules start []
unfolding log_speed log_box
bounds-none rules start = refl

-- one symbol more
pub bounds-more : (rules : RulesView) (start : Cell) (log : List ℕ) (symbol : ℕ) (bounds next : LogBounds) (cell : Cell)
    (before : ℕ) (entry : Entry) → bounds ≡ bounds_of rules start log → cell ≡ cell_after rules start log
    → before ≡ duration_of_log rules log → entry ≡ entry_of rules symbol
    → next.from ≡ bounds.from → next.speed ≡ max bounds.speed (hull_speed bounds.from cell before entry.hull)
    → next.area ≡ with_hull bounds.area cell entry.hull
    → next ≡ bounds_of rules start (log ++ symbol ∷ [])
bounds-more rules start log symbol bounds next cell before entry so_far stands lasted its from speed area =
    let begins : bounds.from ≡ start = ap (λ (b : LogBounds). b.from) so_far in
    same_bounds next.from start next.speed (log_speed rules start (log ++ symbol ∷ [])) next.area (log_box rules start (log ++ symbol ∷ []))
    (from ∙ begins)
    (log_speed-more rules start log symbol bounds.speed next.speed cell before entry
    (speed ∙ ap (λ c. max bounds.speed (hull_speed c cell before entry.hull)) begins)
    (ap (λ (b : LogBounds). b.speed) so_far) stands lasted its)
    (log_box-more rules start log symbol bounds.area next.area cell entry area (ap (λ (b : LogBounds). b.area) so_far) stands
    its)

-- from a cell that is moved the speed is the same, and the box is moved
pub bounds-moved : (rules : RulesView) (by : ℤ × ℤ) (start : Cell) (log : List ℕ)
    → bounds_of rules (moved start by) log
    ≡ bounds_with (moved start by) (bounds_of rules start log).speed (moved_box (cell_with by.0 by.1) (bounds_of rules start log).area)
bounds-moved rules by start log =
    same_bounds (moved start by) (moved start by) (log_speed rules (moved start by) log) (log_speed rules start log) (log_box rules (moved start by) log)
    (moved_box (cell_with by.0 by.1) (log_box rules start log)) refl (log_speed-moved rules by start log)
    (log_box-moved rules by start log)
