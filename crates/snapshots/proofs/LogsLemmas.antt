-- The symbols of a log, read one after the other.
use Rattle.std.proofs.Common.{◌≡◌, ℕ, ◌+◌, ◌-◌, ◌*◌, ◌^◌, ◌<◌, ◌≤◌, ℤ, pos, neg_ℤ, ◌+ℤ◌, ◌≤ℤ◌, ◌<ℤ◌, eqb, Bool, true, false, List, length, take, drop, None, Some, inl, inr, refl, ap, sym, ◌∙◌, arith}
use Rattle.std.specs.Prelude.{slice_index}
use Rattle.std.proofs.lemmas.Bool.{cases_lt, eq-eqb, ne_eqb}
use Rattle.std.proofs.lemmas.Int.{ints}
use Rattle.std.proofs.lemmas.List.{length-drop, length-take, take_more}
use Rattle.list_laws.proofs.FindLemmas.{find_in_range-first, find_in_range-none}
use Rattle.track_types.specs.Flaws.{flaw_in}
use Rattle.track_types.specs.Near.{IsCellWithin}
use Rattle.track_types.specs.declared.cell.Cell.{Cell}
use Rattle.track_types.specs.declared.frame.Frame.{Frame}
use Rattle.rule_store.specs.View.{RulesView}
use Rattle.rule_store.specs.Cells.{cell_with, displacement_of, moved}
use Rattle.rule_store.specs.Log.{log_of}
use Rattle.rule_store.specs.declared.log_view.LogView.{LogView}
use Rattle.rule_store.proofs.CellLemmas.{same_cell}
use Rattle.rule_store.specs.Expansion.{values_of}
use Rattle.rule_store.specs.Entry.{entry_of, IsEntryWithin}
use Rattle.rule_store.specs.declared.entry.Entry.{Entry}
use Rattle.track_types.specs.declared.flaw.Kind.TheVariants as kind
use Rattle.track_types.specs.declared.flaw.Section.TheVariants.{Lengths, Log}
use Rattle.track_types.specs.declared.limit.TheConstants.{MAX_PERIOD, MAX_REACH}
use Rattle.snapshots.specs.Parts.{block_log}
use Rattle.log_bounds.specs.Bounds.{cell_after, cell_before, duration_of_log}
use Rattle.log_bounds.proofs.LogLemmas.{cell_after-more, duration_of_log-more, moved-entry}
use Rattle.snapshots.specs.JoinFlaws.{instants_after, is_along, is_off_grid, log_flaw}
use Rattle.snapshots.specs.JoinFlaws.{off_grid_at, passes_grid}
use Rattle.snapshots.specs.declared.anchored.Anchored.{Anchored}

-- numbers, moved by an amount, that lie among those of a side, or not
pub along-before : (height : ℕ) (least amount first last : ℤ) → (amount +ℤ first) <ℤ least
    → false ≡ is_along height least amount first last
along-before height least amount first last low = grind (arith, ints)

pub along-after : (height : ℕ) (least amount first last : ℤ) → (least +ℤ pos (2 ^ height)) ≤ℤ (amount +ℤ last)
    → false ≡ is_along height least amount first last
along-after height least amount first last high = grind (arith, ints)

pub along-inside : (height : ℕ) (least amount first last : ℤ) → least ≤ℤ (amount +ℤ first)
    → (amount +ℤ last) <ℤ (least +ℤ pos (2 ^ height)) → true ≡ is_along height least amount first last
along-inside height least amount first last low high = grind (arith, ints)

-- what is known once some symbols of a log were read: none of their placed boxes passes the grid
pub record IsReading (frame : Frame) (rules : RulesView) (start : Cell) (log : List ℕ) (place : ℕ) (cell : Cell)
    (duration : ℕ) : Type 0 where
  pub inside : (j : ℕ) → j < place → is_off_grid frame rules start log j ≡ false
  pub stands : cell ≡ cell_before rules start log place
  pub lasted : duration ≡ duration_of_log rules (take place log)
  pub left : neg_ℤ (pos (MAX_REACH + 2 ^ 31 * place)) ≤ℤ cell.x
  pub right : cell.x ≤ℤ pos (MAX_REACH + 2 ^ 31 * place)
  pub below : neg_ℤ (pos (MAX_REACH + 2 ^ 31 * place)) ≤ℤ cell.y
  pub above : cell.y ≤ℤ pos (MAX_REACH + 2 ^ 31 * place)
  pub short : duration ≤ MAX_PERIOD * place

-- before the first symbol
pub reading-none : (frame : Frame) (rules : RulesView) (start : Cell) (log : List ℕ) → IsCellWithin start
    → IsReading frame rules start log 0 start 0
unfolding cell_after duration_of_log
reading-none frame rules start log within = record {
  inside = λ j low. absurd (omega arith);
  stands = refl;
  lasted = refl;
  left = omega (arith, ints, within.x.low);
  right = omega (arith, ints, within.x.high);
  below = omega (arith, ints, within.y.low);
  above = omega (arith, ints, within.y.high);
  short = omega arith;
}

module _ (frame : Frame) (rules : RulesView) (start : Cell) (log : List ℕ) (place : ℕ) (cell : Cell) (duration : ℕ)
    (is : IsReading frame rules start log place cell duration) (within : place < length log) where
  module _ (entry : Entry) (its : entry ≡ entry_of rules (slice_index log place)) where
    -- whether the symbol's placed box passes the grid
    pub off_grid-here : (b : Bool) → b ≡ passes_grid frame cell entry.hull → is_off_grid frame rules start log place ≡ b
    unfolding is_off_grid
    off_grid-here b tested =
        ap (λ c. passes_grid frame c (entry_of rules (slice_index log place)).hull) (sym is.stands)
        ∙ ap (λ (e : Entry). passes_grid frame cell e.hull) (sym its) ∙ sym tested

    -- it is the first whose box does
    pub off_grid-found : true ≡ passes_grid frame cell entry.hull → off_grid_at frame rules start log ≡ Some place
    unfolding off_grid_at
    off_grid-found tested =
        find_in_range-first (is_off_grid frame rules start log) 0 (length log) place (omega arith) (omega arith)
        (λ j low below. is.inside j below) (off_grid-here true tested)

    -- one symbol more
    pub reading-more : (x y : ℤ) (d : ℕ) → false ≡ passes_grid frame cell entry.hull → IsEntryWithin entry
        → x ≡ (cell.x +ℤ entry.dx) → y ≡ (cell.y +ℤ entry.dy) → d ≡ entry.duration
        → IsReading frame rules start log (place + 1) (cell_with x y) (duration + d)
    reading-more x y d tested short column line long =
        let symbol : ℕ = slice_index log place in
        let more = take_more log place 0 within in
        let moves : cell_with x y ≡ moved cell (entry.dx, entry.dy) = same_cell x y _ _ column line in
        record {
          inside = λ j low. elim (cases_lt j place) [
            | inl before ↦ is.inside j before
            | inr here ↦
                let same : j ≡ place = omega arith in
                ap (is_off_grid frame rules start log) same ∙ off_grid-here false tested
          ];
          stands = moves ∙ ap (λ (e : Entry). moved cell (e.dx, e.dy)) its ∙ moved-entry rules cell symbol
              ∙ ap (λ c. moved c (displacement_of (values_of rules symbol))) is.stands
              ∙ sym (cell_after-more rules start (take place log) symbol) ∙ ap (cell_after rules start) (sym more);
          lasted = omega (
            arith,
            is.lasted,
            duration_of_log-more rules (take place log) symbol,
            ap (duration_of_log rules) more,
            ap (λ (e : Entry). e.duration) its,
            long,
          );
          left = omega (arith, ints, is.left, short.left, column);
          right = omega (arith, ints, is.right, short.right, column);
          below = omega (arith, ints, is.below, short.below, line);
          above = omega (arith, ints, is.above, short.above, line);
          short = omega (arith, is.short, short.short, long);
        }

-- all symbols were read
module _ (frame : Frame) (rules : RulesView) (start : Cell) (log : List ℕ) (cell : Cell) (duration : ℕ)
    (is : IsReading frame rules start log (length log) cell duration) where
  pub off_grid-none : off_grid_at frame rules start log ≡ None
  unfolding off_grid_at
  off_grid-none =
      find_in_range-none (is_off_grid frame rules start log) 0 (length log) (λ j low below. is.inside j (omega arith))

-- a block's log has so many symbols
pub length-block_log : (rules : RulesView) (block : Anchored) → block.from + block.len ≤ length rules.symbols
    → length (block_log rules block) ≡ block.len
length-block_log rules block within =
    let taken = length-take (block.from + block.len - block.from) (drop block.from rules.symbols) in
    let left = length-drop block.from rules.symbols in
    omega (arith, taken, left)

-- a view of a block's log
module _ (view : LogView) (rules : RulesView) (block : Anchored) (of : view.rules.now ≡ rules)
    (from : view.from ≡ block.from) (len : view.len ≡ block.len) where
  pub log_of-is : log_of view ≡ block_log rules block
  log_of-is = rw (of, from, len) refl

-- the first flaw of a log
module _ (frame : Frame) (rules : RulesView) (number rank : ℕ) (block : Anchored) where
  pub log_flaw-off_grid : (place : ℕ) → off_grid_at frame rules block.cell (block_log rules block) ≡ Some place
      → log_flaw frame rules number rank block ≡ Some (flaw_in number Log kind.OffGrid (block.from + place))
  unfolding log_flaw
  log_flaw-off_grid place off = rw off refl

  pub log_flaw-none : off_grid_at frame rules block.cell (block_log rules block) ≡ None
      → duration_of_log rules (block_log rules block) ≡ instants_after frame number block
      → log_flaw frame rules number rank block ≡ None
  unfolding log_flaw
  log_flaw-none inside lasts =
      let same : eqb (duration_of_log rules (block_log rules block)) (instants_after frame number block) ≡ true =
      eq-eqb _ _ lasts in
      rw (inside, same) refl

  pub log_flaw-duration : off_grid_at frame rules block.cell (block_log rules block) ≡ None
      → (duration_of_log rules (block_log rules block) ≡ instants_after frame number block → ⊥)
      → log_flaw frame rules number rank block ≡ Some (flaw_in number Lengths kind.Duration rank)
  unfolding log_flaw
  log_flaw-duration inside lasts =
      let apart : eqb (duration_of_log rules (block_log rules block)) (instants_after frame number block) ≡ false =
      ne_eqb _ _ lasts in
      rw (inside, apart) refl
