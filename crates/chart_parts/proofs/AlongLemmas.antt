-- Values that lead only to cells of a grid, as those of each block do: their parts do so too, and none leads farther
-- than the grid is wide.
use Rattle.std.proofs.Common.{◌≡◌, ◌⊎◌, ℕ, zero, suc, ◌^◌, ℤ, pos, ◌+ℤ◌, ◌≤ℤ◌, ◌<ℤ◌, List, [], ◌∷◌, ◌++◌, map, Option, Some, None, IfSome, inl, inr, refl, ap, sym, subst, ◌∙◌, arith}
use Rattle.std.specs.Prelude.{fold}
use Rattle.std.specs.Int.{int_max, int_min}
use Rattle.std.specs.List.{Contains, range_with_len}
use Rattle.std.specs.Option.{option_to_list}
use Rattle.std.proofs.lemmas.Grind.{flat_map-append}
use Rattle.std.proofs.lemmas.Int.{fold-int_max_reached, fold-int_min_reached, ints}
use Rattle.std.proofs.lemmas.List.Elements.{Contains-append_left, Contains-append_right}
use Rattle.list_laws.proofs.MemberLemmas.{Contains-map, first_member, later_member, member_of_map, find_cases, member_cases, member_of_flat_map, no_member}
use Rattle.spiral_code.specs.Spiral.{move_of}
use Rattle.track_types.specs.Quantities.{greatest, least}
use Rattle.track_types.specs.declared.cell.Cell.{Cell}
use Rattle.track_types.specs.declared.cell_box.CellBox.{CellBox}
use Rattle.track_types.specs.declared.frame.Frame.{Frame}
use Rattle.k2_tree.specs.Morton.{IsInGrid}
use Rattle.rule_store.specs.Boxes.{bounding_box_of, box_round, column, line, origin}
use Rattle.rule_store.specs.Cells.{cells_along, displacement_of, moved, present_in}
use Rattle.rule_store.proofs.BoxLemmas.{box_round-bounds}
use Rattle.rule_store.proofs.CellLemmas.{cells_along-append, moved-moved, moved-none, present-moved, same_cell}
use Rattle.snapshots.specs.SoundParts.{IsBoxInReach, IsInReach, IsInGridAt}
use Rattle.track_types.specs.ByFilter.{cell_at}
use Rattle.track_types.specs.Chart.{ChartView, IsChart}
use Rattle.track_types.specs.Row.{is_row_of}
use Rattle.track_types.specs.declared.row.Row.{Row}
use Rattle.movement_log.specs.Blocks.{log_length_of}
use Rattle.movement_log.specs.Logs.{block_anchors, values_after}
use Rattle.chart_parts.specs.Header.{frame_of}
use Rattle.chart_parts.proofs.CellLemmas.{cells-after, Contains-block_anchors}
use Rattle.chart_parts.proofs.HeaderLemmas.{row-in_grid}

-- a start of which something holds, and values that lead only to cells of which it holds
pub record IsAlong (P : Cell → Type 0) (start : Cell) (values : List ℕ) : Type 0 where
  pub begins : P start
  pub cells : (cell : Cell) → Contains (present_in (cells_along start values)) cell → P cell

module _ (P : Cell → Type 0) where
  -- it holds of the cell to which the values lead
  pub end-along : (start : Cell) (values : List ℕ) → IsAlong P start values → P (moved start (displacement_of values))
  unfolding cells_along displacement_of
  end-along start [] along = subst P (sym (moved-none start)) along.begins
  end-along start (zero ∷ values) along =
      subst P (same_cell _ _ _ _ (omega (arith, ints)) (omega (arith, ints)))
      (end-along start values (record { begins = along.begins; cells = along.cells }))
  end-along start (suc code ∷ values) along =
      let next = moved start (move_of code) in
      let later = present_in (cells_along next values) in
      subst P (moved-moved start (move_of code) (displacement_of values)) (end-along next values (record {
        begins = along.cells next (first_member next later);
        cells = λ cell inside. along.cells cell (later_member cell next later inside);
      }))

  module _ (start : Cell) (xs ys : List ℕ) (along : IsAlong P start (xs ++ ys)) where
    cells_are : present_in (cells_along start (xs ++ ys))
        ≡ present_in (cells_along start xs) ++ present_in (cells_along (moved start (displacement_of xs)) ys)
    cells_are =
        ap present_in (cells_along-append start xs ys)
        ∙ flat_map-append option_to_list (cells_along start xs) (cells_along (moved start (displacement_of xs)) ys)

    -- the first values
    pub IsAlong-front : IsAlong P start xs
    IsAlong-front = record {
      begins = along.begins;
      cells = λ cell inside. along.cells cell (subst (λ cells. Contains cells cell) (sym cells_are)
          (Contains-append_left (present_in (cells_along start xs)) _ cell inside));
    }

    -- the others, from the cell to which these lead
    pub IsAlong-back : IsAlong P (moved start (displacement_of xs)) ys
    IsAlong-back = record {
      begins = end-along start xs IsAlong-front;
      cells = λ cell inside. along.cells cell (subst (λ cells. Contains cells cell) (sym cells_are)
          (Contains-append_right (present_in (cells_along start xs)) _ cell inside));
    }

-- what holds of a coordinate of all cells holds of the least and of the greatest of it
module _ (P : ℤ → Type 0) (f : Cell → ℤ) (first : Cell) (rest : List Cell)
    (each : (cell : Cell) → Contains (first ∷ rest) cell → P (f cell)) where
  of_one : (z : ℤ) → (z ≡ f first) ⊎ Contains (map f rest) z → P z
  of_one z (inl is) = subst P (sym is) (each first (first_member first rest))
  of_one z (inr among) =
      let made = member_of_map f rest z among in
      subst P made.2 (each made.0 (later_member made.0 first rest made.1))

  of_least : P (least (map f (first ∷ rest)))
  of_least = of_one (fold int_min (f first) (map f rest)) (fold-int_min_reached (f first) (map f rest) _ refl)

  of_greatest : P (greatest (map f (first ∷ rest)))
  of_greatest = of_one (fold int_max (f first) (map f rest)) (fold-int_max_reached (f first) (map f rest) _ refl)

module _ (frame : Frame) where
  -- the cell is in the frame's grid
  abbrev pub IsInFrame : Cell → Type 0
  IsInFrame cell = IsInGrid frame.height frame.base cell

  -- a movement between two cells of the grid
  IsInReach-moved : (cell : Cell) (by : ℤ × ℤ) → IsInFrame cell → IsInFrame (moved cell by) →
      IsInReach frame.height by.0 by.1
  IsInReach-moved cell by is there = omega (arith, ints)

  -- cells that lie in the grid once they are moved have a box that does so
  placed-round : (start : Cell) (cells : List Cell) (hull : Option CellBox) → hull ≡ box_round cells →
      ((cell : Cell) → Contains cells cell → IsInFrame (moved cell (start.x, start.y))) →
      IfSome hull (IsInGridAt frame start)
  unfolding box_round
  placed-round start cells None is each = tt
  placed-round start [] (Some area) is each = absurd (cc)
  placed-round start (first ∷ rest) (Some area) is each =
      let bounds = box_round-bounds area first rest is in
      let right = frame.base.x +ℤ pos (2 ^ frame.height) in
      let top = frame.base.y +ℤ pos (2 ^ frame.height) in
      let x1 = of_least (λ x. frame.base.x ≤ℤ (start.x +ℤ x)) column first rest
      (λ cell inside. let there = each cell inside in omega (arith, ints)) in
      let y1 = of_least (λ y. frame.base.y ≤ℤ (start.y +ℤ y)) line first rest
      (λ cell inside. let there = each cell inside in omega (arith, ints)) in
      let x2 = of_greatest (λ x. (start.x +ℤ x) <ℤ right) column first rest
      (λ cell inside. let there = each cell inside in omega (arith, ints)) in
      let y2 = of_greatest (λ y. (start.y +ℤ y) <ℤ top) line first rest
      (λ cell inside. let there = each cell inside in omega (arith, ints)) in
      record {
        left = omega (arith, ints);
        right = omega (arith, ints);
        below = omega (arith, ints);
        above = omega (arith, ints);
      }

  module _ (start : Cell) (values : List ℕ) (along : IsAlong IsInFrame start values) where
    -- the box of the values, moved to the start, is in the grid
    pub IsInGridAt-along : IfSome (bounding_box_of values) (IsInGridAt frame start)
    unfolding bounding_box_of
    IsInGridAt-along =
        let by : ℤ × ℤ = (start.x, start.y) in
        let here : moved origin by ≡ start =
        same_cell _ _ start.x start.y (omega (arith, ints)) (omega (arith, ints)) in
        let cells : List Cell = present_in (cells_along origin values) in
        let same : map (λ c. moved c by) cells ≡ present_in (cells_along start values) =
        sym (present-moved by origin values) ∙ ap (λ from. present_in (cells_along from values)) here in
        placed-round start cells (box_round cells) refl
        (λ cell inside. along.cells (moved cell by)
        (subst (λ all. Contains all (moved cell by)) same (Contains-map (λ c. moved c by) cells cell inside)))

    -- the displacement of the values is no greater than the grid
    pub IsInReach-along : IsInReach frame.height (displacement_of values).0 (displacement_of values).1
    IsInReach-along =
        IsInReach-moved start (displacement_of values) along.begins (end-along IsInFrame start values along)

    -- their box reaches no farther from the start than the grid is wide
    pub IsBoxInReach-along : IfSome (bounding_box_of values) (IsBoxInReach frame.height)
    IsBoxInReach-along = boxed (bounding_box_of values) IsInGridAt-along
      where
        boxed : (hull : Option CellBox) → IfSome hull (IsInGridAt frame start) → IfSome hull (IsBoxInReach frame.height)
        boxed None placed = tt
        boxed (Some hull) placed =
            let is = along.begins in
            let wide : hull.x1 ≤ℤ hull.x2 = hull.wide in
            let high : hull.y1 ≤ℤ hull.y2 = hull.high in
            (omega (arith, ints), omega (arith, ints))

-- the cell of an object at an instant is that of a row
row_there : (rows : List Row) (object : ℕ) (instant : ℤ) (cell : Cell) →
    Contains (option_to_list (cell_at rows object instant)) cell → (row : Row) × Contains rows row × (row.cell ≡ cell)
row_there rows object instant cell inside = elim (find_cases (is_row_of object instant) rows) [
  | inl none ↦ no_member cell (rw none.1 at inside)
  | inr found ↦ elim (member_cases cell found.0.cell [] (rw found.3 at inside)) [
    | inl same ↦ (found.0, found.1, same)
    | inr later ↦ no_member cell later
  ]
]

module _ (chart : ChartView) (is : IsChart chart) (anchor : Row) (among : Contains (block_anchors chart) anchor) where
  -- the cells after an anchor are those of rows
  cell_in_frame : (cells : List (Option Cell)) →
      cells ≡ map (λ n. cell_at chart.rows anchor.object (anchor.instant +ℤ pos n))
      (range_with_len 1 (log_length_of chart anchor)) →
      (cell : Cell) → Contains (present_in cells) cell → IsInFrame (frame_of chart) cell
  cell_in_frame cells are cell inside =
      let after : ℕ → Option Cell = λ n. cell_at chart.rows anchor.object (anchor.instant +ℤ pos n) in
      let one = member_of_flat_map option_to_list cells cell inside in
      let which : Option Cell = one.0 in
      let made = member_of_map after (range_with_len 1 (log_length_of chart anchor)) which
      (subst (λ all. Contains all which) are one.1) in
      let there = row_there chart.rows anchor.object (anchor.instant +ℤ pos made.0) cell
      (subst (λ o. Contains (option_to_list o) cell) (sym made.2) one.2) in
      subst (IsInFrame (frame_of chart)) there.2 (row-in_grid chart is there.0 there.1)

  -- so that the values of the anchor's block stay in the grid
  pub IsAlong-block : IsAlong (IsInFrame (frame_of chart)) anchor.cell (values_after chart anchor)
  IsAlong-block = record {
    begins = row-in_grid chart is anchor (Contains-block_anchors chart anchor among);
    cells = cell_in_frame _ (cells-after chart is anchor among);
  }
