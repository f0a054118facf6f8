-- The box of a log: of its first symbols, of one symbol more, and from a cell that is moved.
use Rattle.std.proofs.Common.{◌≡◌, ℕ, zero, suc, ◌+◌, ◌<◌, ◌≤◌, ℤ, arith, List, [], ◌∷◌, ◌++◌, length, take, Option, Some, None, ap, refl, sym, ◌∙◌}
use Rattle.std.specs.Prelude.{fold, slice_index}
use Rattle.std.specs.List.{cons_option, filter_map, range_with_len}
use Rattle.std.specs.Option.{option_map}
use Rattle.std.proofs.lemmas.Int.{clamps, ints}
use Rattle.std.proofs.lemmas.List.{get_or_at, length-append, take_at}
use Rattle.std.proofs.lemmas.List.Sums.{fold-append}
use Rattle.list_laws.proofs.RangeLemmas.{filter_map-range_more}
use Rattle.track_types.specs.Boxes.{cell_box, joined_box, moved_box}
use Rattle.track_types.specs.declared.cell.Cell.{Cell}
use Rattle.track_types.specs.declared.cell_box.CellBox.{CellBox}
use Rattle.track_types.proofs.BoxLemmas.{same_box}
use Rattle.rule_store.specs.View.{RulesView}
use Rattle.rule_store.specs.Cells.{cell_with, moved}
use Rattle.rule_store.specs.Entry.{entry_of}
use Rattle.rule_store.specs.declared.entry.Entry.{Entry}
use Rattle.log_bounds.specs.Bounds.{cell_after, cell_before, log_box, placed_boxes, symbol_box, with_hull}
use Rattle.log_bounds.proofs.LogLemmas.{cell_after-moved, said-front}

-- what is made of numbers from one on, where it is the same of each
filter_map-range_agree : {Y : Type 0} (f g : ℕ → Option Y) (a n : ℕ) → ((i : ℕ) → a ≤ i → i < a + n → f i ≡ g i)
    → filter_map f (range_with_len a n) ≡ filter_map g (range_with_len a n)
filter_map-range_agree f g a zero same = refl
filter_map-range_agree f g a (suc n) same =
    ap (λ y. cons_option y (filter_map f (range_with_len (a + 1) n))) (same a (omega arith) (omega arith))
    ∙ ap (cons_option (g a)) (filter_map-range_agree f g (a + 1) n (λ i low high. same i (omega arith) (omega arith)))

-- a box with the hull of one symbol more
with_hull-is : (area : CellBox) (cell : Cell) (hull : Option CellBox)
    → with_hull area cell hull ≡ fold joined_box area (cons_option (option_map (moved_box cell) hull) [])
with_hull-is area cell None = refl
with_hull-is area cell (Some hull) = refl

module _ (rules : RulesView) (start : Cell) (log : List ℕ) where
  -- the box of a log's first symbols
  abbrev pub box_before : ℕ → CellBox
  box_before count = fold joined_box (cell_box start) (placed_boxes rules start log count)

  -- one symbol more
  pub box_before-more : (place : ℕ) (cell : Cell) (entry : Entry) (area now : CellBox)
      → now ≡ with_hull area cell entry.hull
      → area ≡ box_before place → cell ≡ cell_before rules start log place
      → entry ≡ entry_of rules (slice_index log place)
      → now ≡ box_before (place + 1)
  box_before-more place cell entry area now made so_far stands its =
      let there : Cell = cell_before rules start log place in
      let hull : Option CellBox = (entry_of rules (slice_index log place)).hull in
      made ∙ ap (λ a. with_hull a cell entry.hull) so_far ∙ ap (λ c. with_hull (box_before place) c entry.hull) stands
      ∙ ap (λ (e : Entry). with_hull (box_before place) there e.hull) its ∙ with_hull-is (box_before place) there hull
      ∙ sym (fold-append joined_box (cell_box start) (placed_boxes rules start log place)
      (cons_option (symbol_box rules start log place) []))
      ∙ ap (fold joined_box (cell_box start)) (sym (filter_map-range_more (symbol_box rules start log) place))

  -- all symbols
  pub box_before-all : (place : ℕ) → place ≡ length log → box_before place ≡ log_box rules start log
  unfolding log_box
  box_before-all place last = ap box_before last

-- the first symbols of a longer log
pub box_before-front : (rules : RulesView) (start : Cell) (log more : List ℕ)
    → box_before rules start (log ++ more) (length log) ≡ log_box rules start log
unfolding log_box
box_before-front rules start log more =
    ap (fold joined_box (cell_box start))
    (filter_map-range_agree (symbol_box rules start (log ++ more)) (symbol_box rules start log) 0 (length log)
    (λ place low below.
    said-front (λ front symbol. option_map (moved_box (cell_after rules start front)) (entry_of rules symbol).hull) log more
    place (omega arith)))

-- a log with one symbol more
pub log_box-more : (rules : RulesView) (start : Cell) (log : List ℕ) (symbol : ℕ) (area now : CellBox) (cell : Cell)
    (entry : Entry) → now ≡ with_hull area cell entry.hull → area ≡ log_box rules start log
    → cell ≡ cell_after rules start log → entry ≡ entry_of rules symbol
    → now ≡ log_box rules start (log ++ symbol ∷ [])
log_box-more rules start log symbol area now cell entry made so_far stands its =
    let longer : List ℕ = log ++ symbol ∷ [] in
    let front : take (length log) longer ≡ log = take_at log (symbol ∷ []) (length log) refl in
    let last : slice_index longer (length log) ≡ symbol = get_or_at log symbol [] 0 (length log) refl in
    box_before-more rules start longer (length log) cell entry area now made
    (so_far ∙ sym (box_before-front rules start log (symbol ∷ [])))
    (stands ∙ ap (cell_after rules start) (sym front)) (its ∙ ap (entry_of rules) (sym last))
    ∙ box_before-all rules start longer (length log + 1) (omega (arith, length-append log (symbol ∷ [])))

-- boxes that are moved alike
joined_box-moved : (to : Cell) (a b : CellBox)
    → joined_box (moved_box to a) (moved_box to b) ≡ moved_box to (joined_box a b)
joined_box-moved to a b =
    same_box _ _ (omega (arith, ints, clamps)) (omega (arith, ints, clamps)) (omega (arith, ints, clamps))
    (omega (arith, ints, clamps))

module _ (by : ℤ × ℤ) where
  -- the cell to which a box is moved alike
  abbrev there : Cell
  there = cell_with by.0 by.1

  moved_box-moved : (cell : Cell) (area : CellBox) → moved_box (moved cell by) area ≡ moved_box there (moved_box cell area)
  moved_box-moved cell area =
      same_box _ _ (omega (arith, ints)) (omega (arith, ints)) (omega (arith, ints)) (omega (arith, ints))

  cell_box-moved : (cell : Cell) → cell_box (moved cell by) ≡ moved_box there (cell_box cell)
  cell_box-moved cell =
      same_box _ _ (omega (arith, ints)) (omega (arith, ints)) (omega (arith, ints)) (omega (arith, ints))

  with_hull-moved : (area : CellBox) (cell : Cell) (hull : Option CellBox)
      → with_hull (moved_box there area) (moved cell by) hull ≡ moved_box there (with_hull area cell hull)
  with_hull-moved area cell None = refl
  with_hull-moved area cell (Some hull) =
      ap (joined_box (moved_box there area)) (moved_box-moved cell hull)
      ∙ joined_box-moved there area (moved_box cell hull)

  module _ (rules : RulesView) (start : Cell) (log : List ℕ) where
    box_before-moved : (count : ℕ)
        → box_before rules (moved start by) log count ≡ moved_box there (box_before rules start log count)
    box_before-moved zero = cell_box-moved start
    box_before-moved (suc place) =
        let next : suc place ≡ place + 1 = omega arith in
        let hull : Option CellBox = (entry_of rules (slice_index log place)).hull in
        let cell : Cell = cell_before rules start log place in
        let more : (from : Cell) → with_hull (box_before rules from log place) (cell_before rules from log place) hull
        ≡ box_before rules from log (suc place) =
        λ from. box_before-more rules from log place (cell_before rules from log place) (entry_of rules (slice_index log place))
        (box_before rules from log place) _ refl refl refl refl ∙ ap (box_before rules from log) (sym next) in
        sym (more (moved start by))
        ∙ ap (λ a. with_hull a (cell_before rules (moved start by) log place) hull) (box_before-moved place)
        ∙ ap (λ c. with_hull (moved_box there (box_before rules start log place)) c hull)
        (cell_after-moved rules by start (take place log))
        ∙ with_hull-moved (box_before rules start log place) cell hull
        ∙ ap (moved_box there) (more start)

-- from a cell that is moved, so is the box of the log
pub log_box-moved : (rules : RulesView) (by : ℤ × ℤ) (start : Cell) (log : List ℕ)
    → log_box rules (moved start by) log ≡ moved_box (cell_with by.0 by.1) (log_box rules start log)
unfolding log_box
log_box-moved rules by start log = box_before-moved by rules start log (length log)
