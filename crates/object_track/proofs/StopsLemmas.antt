-- The stops of an object in a period: they ascend, and lie at the period's instants, in near cells.
use Rattle.std.proofs.Common.{◌≡◌, ℕ, ◌<◌, ℤ, pos, ◌+ℤ◌, ◌≤ℤ◌, ◌<ℤ◌, List, []}
use Rattle.std.proofs.Common.{◌∷◌, length, All, Option, None, Some, map, refl, ◌∙◌, arith}
use Rattle.std.specs.List.Sorted.{IsStrictlySortedBy}
use Rattle.std.specs.declared.cmp.Ordering.TheVariants.{Less}
use Rattle.std.proofs.lemmas.Int.{ints}
use Rattle.std.proofs.lemmas.Bool.Decides.{nat_tests}
use Rattle.std.proofs.lemmas.List.Concat.{length-flat_map}
use Rattle.std.proofs.lemmas.List.Elements.{All-cons, All-head, All-map, All-nil}
use Rattle.std.proofs.lemmas.List.Elements.{All-tail, All-weaker, recursion_from_All}
use Rattle.list_laws.proofs.SumLemmas.{sum_by-agree}
use Rattle.track_types.specs.Frame.{periods_of}
use Rattle.track_types.specs.Row.{row_order}
use Rattle.track_types.specs.Near.{IsCellAsked}
use Rattle.track_types.specs.declared.cell.Cell.{Cell}
use Rattle.track_types.specs.declared.parts.Parts.{Parts}
use Rattle.track_types.specs.declared.stop.Stop.{Stop}
use Rattle.rule_store.specs.View.{RulesView}
use Rattle.rule_store.specs.Cells.{cells_along, present_in}
use Rattle.rule_store.specs.Entry.{duration_of}
use Rattle.rule_store.specs.Expansion.{values_of}
use Rattle.rule_store.specs.Log.{block_stops, log_values, stop_at, stops_after, stops_from}
use Rattle.rule_store.proofs.CellLemmas.{length-cells_along}
use Rattle.rule_store.proofs.ExpansionLemmas.{length-values_of}
use Rattle.log_cursor.proofs.WayLemmas.{log-near}
use Rattle.log_bounds.specs.Bounds.{duration_of_log}
use Rattle.snapshots.specs.Parts.{anchored_at, end_in, first_in, log_in, row_of, rules_in, snapshot_in, stops_in, stops_in_block, stops_of}
use Rattle.snapshots.specs.Sound.{IsBlock}
use Rattle.snapshots.specs.SoundParts.{IsValid}
use Rattle.snapshots.specs.View.{block_of}
use Rattle.snapshots.specs.declared.anchored.Anchored.{Anchored}
use Rattle.snapshots.proofs.BlockFactsLemmas.{IsBlock-from_block_of}
use Rattle.snapshots.proofs.ReachLemmas.{IsSnapshot-valid}
use Rattle.object_track.proofs.BlockLemmas.{IsSoundLog-block, IsPlaced-block}

-- a stop from one instant to another, in a near cell
pub record IsStopIn (low high : ℤ) (stop : Stop) : Type 0 where
  pub above : low ≤ℤ stop.instant
  pub below : stop.instant ≤ℤ high
  pub near : IsCellAsked stop.cell

-- stops at the cells of instants that follow each other
All-stops_from : (low high instant : ℤ) (cells : List (Option Cell)) → low ≤ℤ instant
    → (instant +ℤ pos (length cells)) ≤ℤ (high +ℤ pos 1) → All IsCellAsked (present_in cells)
    → All (IsStopIn low high) (stops_from instant cells)
unfolding stops_from
All-stops_from low high instant [] above below near = All-nil (IsStopIn low high)
All-stops_from low high instant (None ∷ cells) above below near =
    All-stops_from low high (instant +ℤ pos 1) cells (omega (arith, ints)) (omega (arith, ints)) near
All-stops_from low high instant (Some cell ∷ cells) above below near =
    All-cons (IsStopIn low high) (stop_at instant cell) (stops_from (instant +ℤ pos 1) cells)
    (record {
      above = above;
      below = omega (arith, ints);
      near = All-head IsCellAsked cell (present_in cells) near;
    })
    (All-stops_from low high (instant +ℤ pos 1) cells (omega (arith, ints)) (omega (arith, ints))
    (All-tail IsCellAsked cell (present_in cells) near))

-- they come after the instants before them
stops_from-after : (low instant : ℤ) (cells : List (Option Cell)) → low ≤ℤ instant
    → All (λ (stop : Stop). low ≤ℤ stop.instant) (stops_from instant cells)
unfolding stops_from
stops_from-after low instant [] above = All-nil (λ (stop : Stop). low ≤ℤ stop.instant)
stops_from-after low instant (None ∷ cells) above =
    stops_from-after low (instant +ℤ pos 1) cells (omega (arith, ints))
stops_from-after low instant (Some cell ∷ cells) above =
    All-cons (λ (stop : Stop). low ≤ℤ stop.instant) (stop_at instant cell) (stops_from (instant +ℤ pos 1) cells) above
    (stops_from-after low (instant +ℤ pos 1) cells (omega (arith, ints)))

-- rows of one object by their instants
pub row_order-later : (object : ℕ) (a b : Stop) → a.instant <ℤ b.instant
    → row_order (row_of object a) (row_of object b) ≡ Less
row_order-later object a b later = grind (arith, ints, nat_tests)

-- rows by their objects
pub row_order-greater : (object other : ℕ) (a b : Stop) → object < other
    → row_order (row_of object a) (row_of other b) ≡ Less
row_order-greater object other a b less = grind (arith, nat_tests)

-- the rows of an object's stops ascend
stops_from-ascend : (object : ℕ) (instant : ℤ) (cells : List (Option Cell))
    → IsStrictlySortedBy row_order (map (row_of object) (stops_from instant cells))
unfolding stops_from IsStrictlySortedBy
stops_from-ascend object instant [] = tt
stops_from-ascend object instant (None ∷ cells) = stops_from-ascend object (instant +ℤ pos 1) cells
stops_from-ascend object instant (Some cell ∷ cells) = (
  recursion_from_All (λ y. row_order (row_of object (stop_at instant cell)) y ≡ Less)
      (map (row_of object) (stops_from (instant +ℤ pos 1) cells))
      (All-map (λ y. row_order (row_of object (stop_at instant cell)) y ≡ Less) (row_of object)
      (stops_from (instant +ℤ pos 1) cells)
      (All-weaker (λ stop. (instant +ℤ pos 1) ≤ℤ stop.instant)
      (λ stop. row_order (row_of object (stop_at instant cell)) (row_of object stop) ≡ Less)
      (λ stop later. row_order-later object (stop_at instant cell) stop (omega (arith, ints, later)))
      (stops_from (instant +ℤ pos 1) cells)
      (stops_from-after (instant +ℤ pos 1) (instant +ℤ pos 1) cells (omega (arith, ints))))),
  stops_from-ascend object (instant +ℤ pos 1) cells,
)

-- a block is one of the stops at the cells of its instants
block_stops-ascend : (rules : RulesView) (object : ℕ) (instant : ℤ) (cell : Cell) (log : List ℕ)
    → IsStrictlySortedBy row_order (map (row_of object) (block_stops rules instant cell log))
unfolding block_stops stops_after stops_from
block_stops-ascend rules object instant cell log =
    stops_from-ascend object instant (Some cell ∷ cells_along cell (log_values rules log))

-- there are as many values in a log as it lasts
length-log_values : (rules : RulesView) (log : List ℕ) → length (log_values rules log) ≡ duration_of_log rules log
unfolding log_values duration_of_log
length-log_values rules log =
    length-flat_map (values_of rules) log
    ∙ sum_by-agree (λ symbol. length (values_of rules symbol)) (duration_of rules) (length-values_of rules) log

pub All-block_stops : (rules : RulesView) (low high instant : ℤ) (cell : Cell) (log : List ℕ) → low ≤ℤ instant
    → (instant +ℤ pos (duration_of_log rules log)) ≤ℤ high → IsCellAsked cell
    → All IsCellAsked (present_in (cells_along cell (log_values rules log)))
    → All (IsStopIn low high) (block_stops rules instant cell log)
unfolding block_stops stops_after stops_from
All-block_stops rules low high instant cell log above below near cells =
    let along = cells_along cell (log_values rules log) in
    let long : length along ≡ duration_of_log rules log =
    length-cells_along cell (log_values rules log) ∙ length-log_values rules log in
    All-stops_from low high instant (Some cell ∷ along) above (omega (arith, ints, below, long))
    (All-cons IsCellAsked cell (present_in along) near cells)

module _ (parts : Parts) (valid : IsValid parts) (index number : ℕ) (within : number < periods_of parts.frame) where
  -- what holds of the stops of a block that is there, and of none, holds of those of the object
  stops-cases : (P : List Stop → Type 0) → P []
      → ((block : Anchored) → IsBlock (snapshot_in parts number) block → P (stops_of parts number block))
      → P (stops_in parts index number)
  unfolding stops_in
  stops-cases P none here = by_block (block_of (snapshot_in parts number) index) refl
    where
      by_block : (found : Option Anchored) → block_of (snapshot_in parts number) index ≡ found
          → P (stops_in_block parts number found)
      by_block None is = none
      by_block (Some block) is =
          here block (IsBlock-from_block_of (snapshot_in parts number) (IsSnapshot-valid parts valid number within)
          index block is)

  -- an object's stops in a period stand at its instants, in near cells
  pub All-stops_in :
      All (IsStopIn (first_in parts.frame number) (end_in parts.frame number)) (stops_in parts index number)
  All-stops_in =
      stops-cases (All (IsStopIn (first_in parts.frame number) (end_in parts.frame number)))
      (All-nil (IsStopIn (first_in parts.frame number) (end_in parts.frame number)))
      (λ block its.
      let may = IsPlaced-block parts valid number within block its in
      let lasts = (IsSoundLog-block parts valid number within block its).lasts in
      let offset = its.offset in
      All-block_stops (rules_in parts) (first_in parts.frame number) (end_in parts.frame number)
      (anchored_at parts.frame number block) block.cell (log_in parts block) (omega (arith, ints))
      (omega (arith, ints, lasts, offset)) may.cell
      (log-near (rules_in parts) block.cell (log_in parts block) may.hulls))

  -- and ascend
  pub stops_in-ascend : (object : ℕ) → IsStrictlySortedBy row_order (map (row_of object) (stops_in parts index number))
  unfolding IsStrictlySortedBy
  stops_in-ascend object =
      stops-cases (λ stops. IsStrictlySortedBy row_order (map (row_of object) stops)) tt
      (λ block its. block_stops-ascend (rules_in parts) object (anchored_at parts.frame number block) block.cell
      (log_in parts block))
