-- How far objects get: each stop of a block is as near to its anchor as the speed of its period tells, and in the grid.
use Rattle.std.proofs.Common.{◌≡◌, ℕ, suc, ◌+◌, ◌*◌, ◌<◌, ◌≤◌, ℤ, pos, ◌+ℤ◌, ◌≤ℤ◌, List, [], ◌∷◌, length, get_or, map, max, take, All, Option, Some, None, IfSome, refl, ap, sym, subst, ◌∙◌, arith}
use Rattle.std.specs.Prelude.{slice_index, fold, sum}
use Rattle.std.specs.Int.{div_ceil, int_max, int_min}
use Rattle.std.specs.List.{range_with_len}
use Rattle.std.proofs.lemmas.Grind.{div_ceil_times}
use Rattle.std.proofs.lemmas.Int.{fold-int_max_bounds, fold-int_min_bounds, ints}
use Rattle.std.proofs.lemmas.List.Elements.{All-append, All-cons, All-get_or, All-head, All-map, All-nil, All-tail, All-weaker}
use Rattle.std.proofs.lemmas.List.FromFn.{get_or-range_with_len, length-range_with_len}
use Rattle.std.proofs.lemmas.List.Sums.{sum_by-cons}
use Rattle.std.proofs.lemmas.Nat.{mul-le}
use Rattle.std.proofs.Math.Nat.{le_trans}
use Rattle.list_laws.proofs.GreatestLemmas.{fold_max-each}
use Rattle.list_laws.proofs.MapLemmas.{All-from_map}
use Rattle.track_types.specs.Frame.{periods_of, IsFrame}
use Rattle.track_types.specs.Limits.{limit_of}
use Rattle.track_types.specs.PartsForm.{IsShapedPeriod}
use Rattle.track_types.specs.declared.cell.Cell.{Cell}
use Rattle.track_types.specs.declared.cell_box.CellBox.{CellBox}
use Rattle.track_types.specs.declared.frame.Frame.{Frame}
use Rattle.track_types.specs.declared.limit.LimitKind.TheVariants.{Objects, Symbols}
use Rattle.track_types.specs.declared.parts.Parts.{Parts}
use Rattle.track_types.specs.declared.period_parts.PeriodParts.{PeriodParts}
use Rattle.track_types.specs.declared.stop.Stop.{Stop}
use Rattle.rule_store.specs.View.{RulesView}
use Rattle.rule_store.specs.Boxes.{bounding_box_of, box_round, column, line, origin}
use Rattle.rule_store.specs.Cells.{cells_along, displacement_of, moved, present_in}
use Rattle.rule_store.specs.Entry.{duration_of, entry_of}
use Rattle.rule_store.specs.Expansion.{values_of}
use Rattle.rule_store.specs.Log.{block_stops, stop_at, stops_after, stops_from}
use Rattle.rule_store.proofs.BoxLemmas.{box_round-bounds, box_round-none}
use Rattle.rule_store.proofs.CellLemmas.{present-moved, same_cell}
use Rattle.rule_store.proofs.LogLemmas.{stops_after-cons, stops_after-none}
use Rattle.snapshots.specs.Flaws.{IsShapedView}
use Rattle.log_bounds.specs.Bounds.{cell_after, cell_before, duration_of_log}
use Rattle.snapshots.specs.Parts.{anchored_at, first_in, block_log, no_period, period_at, rules_in, snapshot_in, start_in, stops_of}
use Rattle.snapshots.specs.Sound.{IsBlock, IsSnapshot}
use Rattle.snapshots.specs.SoundParts.{IsInGridAt, IsSoundLog, IsValid}
use Rattle.log_bounds.specs.Bounds.{far_of, gap, hull_speed, log_speed, symbol_speed}
use Rattle.snapshots.specs.Speed.{block_speed, blocks_speed, speed_of, width_at, IsReached, IsWithinReach}
use Rattle.snapshots.specs.Stores.{snapshots_in, AreOf}
use Rattle.snapshots.specs.View.{SnapshotView, all_blocks, view_with}
use Rattle.snapshots.specs.declared.anchored.Anchored.{Anchored}
use Rattle.snapshots.proofs.BlockFactsLemmas.{All-all_blocks}
use Rattle.snapshots.proofs.JoinLemmas.{start_in-within}

-- a cell is in a box that is moved to another cell
pub record IsCovered (cell : Cell) (hull : CellBox) (other : Cell) : Type 0 where
  pub left : (cell.x +ℤ hull.x1) ≤ℤ other.x
  pub right : other.x ≤ℤ (cell.x +ℤ hull.x2)
  pub below : (cell.y +ℤ hull.y1) ≤ℤ other.y
  pub above : other.y ≤ℤ (cell.y +ℤ hull.y2)

-- the cells round which a box is the least are in it
covered : (hull : CellBox) (cells : List Cell) → Some hull ≡ box_round cells → All (IsCovered origin hull) cells
unfolding box_round
covered hull [] is = All-nil (IsCovered origin hull)
covered hull (first ∷ rest) is =
    let bounds = box_round-bounds hull first rest is in
    let columns : List ℤ = map column rest in
    let lines : List ℤ = map line rest in
    let x1 = fold-int_min_bounds first.x columns (fold int_min first.x columns) refl in
    let x2 = fold-int_max_bounds first.x columns (fold int_max first.x columns) refl in
    let y1 = fold-int_min_bounds first.y lines (fold int_min first.y lines) refl in
    let y2 = fold-int_max_bounds first.y lines (fold int_max first.y lines) refl in
    let left = All-from_map (λ z. fold int_min first.x columns ≤ℤ z) column rest x1.1 in
    let right = All-from_map (λ z. z ≤ℤ fold int_max first.x columns) column rest x2.1 in
    let below = All-from_map (λ z. fold int_min first.y lines ≤ℤ z) line rest y1.1 in
    let above = All-from_map (λ z. z ≤ℤ fold int_max first.y lines) line rest y2.1 in
    All-cons (IsCovered origin hull) first rest (record {
      left = omega (arith, ints, x1.0, bounds.x1);
      right = omega (arith, ints, x2.0, bounds.x2);
      below = omega (arith, ints, y1.0, bounds.y1);
      above = omega (arith, ints, y2.0, bounds.y2);
    }) (λ k d within. record {
      left = omega (arith, ints, left k d within, bounds.x1);
      right = omega (arith, ints, right k d within, bounds.x2);
      below = omega (arith, ints, below k d within, bounds.y1);
      above = omega (arith, ints, above k d within, bounds.y2);
    })

-- the cells along values from a start are those from (0, 0), moved there
present-from : (cell : Cell) (values : List ℕ) → present_in (cells_along cell values)
    ≡ map (λ c. moved c (cell.x, cell.y)) (present_in (cells_along origin values))
present-from cell values =
    let same : cell ≡ moved origin (cell.x, cell.y) =
    same_cell cell.x cell.y _ _ (omega (arith, ints)) (omega (arith, ints)) in
    ap (λ start. present_in (cells_along start values)) same ∙ present-moved (cell.x, cell.y) origin values

-- each of them is in the values' box, moved to the start
pub covered-along : (cell : Cell) (values : List ℕ) (hull : CellBox) → Some hull ≡ bounding_box_of values
    → All (IsCovered cell hull) (present_in (cells_along cell values))
unfolding bounding_box_of
covered-along cell values hull is =
    let cells : List Cell = present_in (cells_along origin values) in
    subst (All (IsCovered cell hull)) (sym (present-from cell values))
    (All-map (IsCovered cell hull) (λ c. moved c (cell.x, cell.y)) cells
    (All-weaker (IsCovered origin hull) (λ c. IsCovered cell hull (moved c (cell.x, cell.y)))
    (λ c is. record {
      left = omega (arith, ints, is.left);
      right = omega (arith, ints, is.right);
      below = omega (arith, ints, is.below);
      above = omega (arith, ints, is.above);
    }) cells (covered hull cells is)))

-- there is none where the values have no box
pub present-none : (cell : Cell) (values : List ℕ) → None ≡ bounding_box_of values
    → present_in (cells_along cell values) ≡ []
unfolding bounding_box_of
present-none cell values none =
    present-from cell values
    ∙ ap (map (λ c. moved c (cell.x, cell.y))) (box_round-none (present_in (cells_along origin values)) none)

-- what holds of each cell at all instants from one on holds of each stop
pub All-stops_from : (P : Stop → Type 0) (start instant : ℤ) (cells : List (Option Cell)) → start ≤ℤ instant
    → All (λ cell. (at : ℤ) → start ≤ℤ at → P (stop_at at cell)) (present_in cells) → All P (stops_from instant cells)
unfolding stops_from
All-stops_from P start instant [] late each = All-nil P
All-stops_from P start instant (None ∷ cells) late each =
    All-stops_from P start (instant +ℤ pos 1) cells (omega (arith, ints)) each
All-stops_from P start instant (Some cell ∷ cells) late each =
    All-cons P (stop_at instant cell) (stops_from (instant +ℤ pos 1) cells)
    (All-head (λ c. (at : ℤ) → start ≤ℤ at → P (stop_at at c)) cell (present_in cells) each instant late)
    (All-stops_from P start (instant +ℤ pos 1) cells (omega (arith, ints))
    (All-tail (λ c. (at : ℤ) → start ≤ℤ at → P (stop_at at c)) cell (present_in cells) each))

-- a number between two is no farther away than the farther one of them
gap-between : (low z high from : ℤ) → low ≤ℤ z → z ≤ℤ high → gap z from ≤ max (gap low from) (gap high from)
gap-between low z high from above below = omega (arith, ints)

-- a way is over at the speed at which it is, rounded up, once its instants are
far-within : (far before speed elapsed : ℕ) → div_ceil far (before + 1) ≤ speed → before + 1 ≤ elapsed
    → far ≤ speed * elapsed
far-within far before speed elapsed slow late =
    le_trans (div_ceil_times far (before + 1) (omega arith)).0
    (mul-le (div_ceil far (before + 1)) (before + 1) speed elapsed slow late)

-- the box of an entry is that of its symbol's values
pub hull_of-entry : (rules : RulesView) (symbol : ℕ)
    → (entry_of rules symbol).hull ≡ bounding_box_of (values_of rules symbol)
unfolding entry_of
hull_of-entry rules symbol = refl

-- what holds of each stop that a placed box covers holds of all stops of a log, where the box of each symbol is placed
module _ (P : Stop → Type 0) (Q : Cell → ℤ → CellBox → Type 0)
    (holds : (cell : Cell) (at : ℤ) (hull : CellBox) (other : Cell) (instant : ℤ) → Q cell at hull
    → IsCovered cell hull other → (at +ℤ pos 1) ≤ℤ instant → P (stop_at instant other)) where
  stops-along : (hull : Option CellBox) (cell : Cell) (at : ℤ) (values : List ℕ) → hull ≡ bounding_box_of values
      → IfSome hull (Q cell at) → All P (stops_from (at +ℤ pos 1) (cells_along cell values))
  stops-along None cell at values is placed =
      All-stops_from P (at +ℤ pos 1) (at +ℤ pos 1) (cells_along cell values) (omega (arith, ints))
      (subst (All (λ c. (instant : ℤ) → (at +ℤ pos 1) ≤ℤ instant → P (stop_at instant c))) (sym (present-none cell values is))
      (All-nil (λ c. (instant : ℤ) → (at +ℤ pos 1) ≤ℤ instant → P (stop_at instant c))))
  stops-along (Some hull) cell at values is placed =
      All-stops_from P (at +ℤ pos 1) (at +ℤ pos 1) (cells_along cell values) (omega (arith, ints))
      (All-weaker (IsCovered cell hull) (λ c. (instant : ℤ) → (at +ℤ pos 1) ≤ℤ instant → P (stop_at instant c))
      (λ c covers instant late. holds cell at hull c instant placed covers late) (present_in (cells_along cell values))
      (covered-along cell values hull is))

  module _ (rules : RulesView) where
    -- the box of each symbol is placed, where the log begins in a cell at an instant
    abbrev pub ArePut : Cell → ℤ → List ℕ → Type 0
    ArePut cell at log = (place : ℕ) → place < length log → IfSome (entry_of rules (slice_index log place)).hull
        (Q (cell_before rules cell log place) (at +ℤ pos (duration_of_log rules (take place log))))

    pub stops-after : (log : List ℕ) (cell : Cell) (at : ℤ) → ArePut cell at log → All P (stops_after rules at cell log)
    unfolding cell_after duration_of_log
    stops-after [] cell at put = subst (All P) (sym (stops_after-none rules at cell)) (All-nil P)
    stops-after (symbol ∷ log) cell at put =
        let next : Cell = moved cell (displacement_of (values_of rules symbol)) in
        let later : ℤ = at +ℤ pos (duration_of rules symbol) in
        let none : at +ℤ pos 0 ≡ at = omega (arith, ints) in
        subst (All P) (sym (stops_after-cons rules at cell symbol log))
        (All-append P (stops_from (at +ℤ pos 1) (cells_along cell (values_of rules symbol))) (stops_after rules later next log)
        (stops-along (entry_of rules symbol).hull cell at (values_of rules symbol) (hull_of-entry rules symbol)
        (subst (λ z. IfSome (entry_of rules symbol).hull (Q cell z)) none (put 0 (omega arith))))
        (stops-after log next later (λ place within.
        let count : duration_of_log rules (take (suc place) (symbol ∷ log))
        ≡ duration_of rules symbol + duration_of_log rules (take place log) =
        sum_by-cons (duration_of rules) symbol (take place log) in
        let same : at +ℤ pos (duration_of_log rules (take (suc place) (symbol ∷ log)))
        ≡ later +ℤ pos (duration_of_log rules (take place log)) = omega (arith, ints, count) in
        subst (λ z. IfSome (entry_of rules (slice_index log place)).hull (Q (cell_before rules next log place) z)) same
        (put (suc place) (omega arith)))))

module _ (parts : Parts) (number : ℕ) (block : Anchored) where
  -- a box is placed in the grid so long after the anchor, and not farther away than the period's speed tells
  record IsHeld (cell : Cell) (at : ℤ) (hull : CellBox) : Type 0 where
    pub before : ℕ
    pub since : at ≡ anchored_at parts.frame number block +ℤ pos before
    pub placed : IsInGridAt parts.frame cell hull
    pub slow : div_ceil (far_of block.cell cell hull) (before + 1) ≤ speed_of parts number

  -- an object in such a box is reached
  reached-inside : (cell : Cell) (at : ℤ) (hull : CellBox) (other : Cell) (instant : ℤ) → IsHeld cell at hull
      → IsCovered cell hull other → (at +ℤ pos 1) ≤ℤ instant → IsReached parts number block (stop_at instant other)
  reached-inside cell at hull other instant held is late =
      let far : ℕ = far_of block.cell cell hull in
      let elapsed : held.before + 1 ≤ gap instant (first_in parts.frame number) = omega (arith, ints, late, held.since) in
      let within : far ≤ width_at parts number instant =
      far-within far held.before (speed_of parts number) (gap instant (first_in parts.frame number)) held.slow elapsed in
      let column = gap-between (cell.x +ℤ hull.x1) other.x (cell.x +ℤ hull.x2) block.cell.x is.left is.right in
      let line = gap-between (cell.y +ℤ hull.y1) other.y (cell.y +ℤ hull.y2) block.cell.y is.below is.above in
      record {
        column = omega (arith, column, within);
        line = omega (arith, line, within);
        inside = record {
          left = omega (arith, ints, held.placed.left, is.left);
          right = omega (arith, ints, held.placed.left, held.placed.right, is.left, is.right);
          below = omega (arith, ints, held.placed.below, is.below);
          above = omega (arith, ints, held.placed.below, held.placed.above, is.below, is.above);
        };
      }

  -- a box that is placed in the grid and not too far away is held
  held-if : (hull : Option CellBox) (cell : Cell) (before : ℕ) → IfSome hull (IsInGridAt parts.frame cell)
      → hull_speed block.cell cell before hull ≤ speed_of parts number
      → IfSome hull (IsHeld cell (anchored_at parts.frame number block +ℤ pos before))
  held-if None cell before placed slow = tt
  held-if (Some hull) cell before placed slow = record { before = before; since = refl; placed = placed; slow = slow }

  -- the stops of a block whose log is sound, and which is not faster than its period
  reached-block : IsBlock (snapshot_in parts number) block → IsSoundLog parts.frame (rules_in parts) number block
      → block_speed (rules_in parts) block ≤ speed_of parts number
      → All (IsReached parts number block) (stops_of parts number block)
  unfolding block_stops log_speed
  reached-block its sound slow =
      let rules : RulesView = rules_in parts in
      let log : List ℕ = block_log rules block in
      let at : ℤ = anchored_at parts.frame number block in
      let each = fold_max-each (symbol_speed rules block.cell log) (range_with_len 0 (length log)) 0 in
      All-cons (IsReached parts number block) (stop_at at block.cell) (stops_after rules at block.cell log)
      (record {
        column = omega (arith, ints);
        line = omega (arith, ints);
        inside = its.cell;
      })
      (stops-after (IsReached parts number block) IsHeld reached-inside rules log block.cell at (λ place within.
      let known : place < length (range_with_len 0 (length log)) = rw (length-range_with_len 0 (length log)) within in
      let here : get_or (range_with_len 0 (length log)) place 0 ≡ place =
      omega (arith, get_or-range_with_len 0 (length log) place 0 within) in
      let one : symbol_speed rules block.cell log place ≤ log_speed rules block.cell log =
      subst (λ k. symbol_speed rules block.cell log k ≤ log_speed rules block.cell log) here (each place 0 known) in
      held-if (entry_of rules (slice_index log place)).hull (cell_before rules block.cell log place)
      (duration_of_log rules (take place log)) (sound.placed place within) (le_trans one slow)))

-- the snapshot of a shaped period is shaped
pub IsShapedView-view : (frame : Frame) (number objects start : ℕ) (period : PeriodParts) → IsFrame frame
    → number < periods_of frame → 1 ≤ objects → objects ≤ limit_of Objects → IsShapedPeriod objects period
    → start + sum period.lengths ≤ limit_of Symbols → IsShapedView (view_with frame number objects start period)
IsShapedView-view frame number objects start period header within some few shaped total = record {
  header = header;
  period = within;
  some = some;
  few = few;
  bits = shaped.bits;
  presence = shaped.presence;
  offsets = shaped.offsets;
  lasts = shaped.lasts;
  perm = shaped.perm;
  lengths = shaped.lengths;
  total = total;
}

-- the snapshot of a period of valid parts is one
pub IsSnapshot-valid : (parts : Parts) → IsValid parts → (number : ℕ) → number < periods_of parts.frame
    → IsSnapshot (snapshot_in parts number)
IsSnapshot-valid parts valid number within =
    let shaped : IsShapedPeriod (length parts.objects) (period_at parts.periods number) =
    All-get_or (IsShapedPeriod (length parts.objects)) parts.periods number no_period
    (omega (arith, valid.shaped.periods, within)) valid.shaped.each in
    let own : AreOf parts (rules_in parts) (snapshots_in parts) = record {
      shaped = valid.shaped;
      rules_are = refl;
      snaps_are = refl;
      total = valid.sound.total;
    } in
    record {
      shaped = IsShapedView-view parts.frame number (length parts.objects) (start_in parts number)
          (period_at parts.periods number) valid.shaped.header within valid.shaped.some valid.shaped.few shaped (omega (
            arith,
            start_in-within parts (rules_in parts) (snapshots_in parts) own number within,
            valid.shaped.few_symbols,
          ));
      sound = valid.sound.periods number within;
    }

-- no block is faster than its period
block_speed-most : (rules : RulesView) (view : SnapshotView)
    → All (λ block. block_speed rules block ≤ blocks_speed rules view) (all_blocks view)
unfolding blocks_speed
block_speed-most rules view = fold_max-each (block_speed rules) (all_blocks view) 0

-- all stops of valid parts are within reach
pub within-reach : (parts : Parts) → IsValid parts → IsWithinReach parts
within-reach parts valid number within =
    let is = IsSnapshot-valid parts valid number within in
    let its = All-all_blocks (snapshot_in parts number) is in
    let sound = valid.sound.logs number within in
    let slow = block_speed-most (rules_in parts) (snapshot_in parts number) in
    λ k d below. reached-block parts number (get_or (all_blocks (snapshot_in parts number)) k d) (its k d below)
    (sound k d below) (slow k d below)
