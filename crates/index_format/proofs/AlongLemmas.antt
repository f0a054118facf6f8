-- Values that lead only to cells of a grid: so does the box of their cells stay in it, and they end in it.
use Rattle.std.proofs.Common.{◌≡◌, ◌⊎◌, ℕ, zero, suc, ◌^◌, ◌-◌, ℤ, pos, ◌+ℤ◌, ◌≤ℤ◌, true, List, [], ◌∷◌, ◌++◌, map, get_or, Option, Some, None, inl, inr, refl, ap, sym, subst, ◌∙◌, arith}
use Rattle.std.specs.Prelude.{fold, All}
use Rattle.std.specs.Int.{int_max, int_min}
use Rattle.std.specs.List.{Contains}
use Rattle.std.specs.Option.{option_to_list}
use Rattle.std.proofs.lemmas.Bool.{and_from, and_parts}
use Rattle.std.proofs.lemmas.Grind.{flat_map-append}
use Rattle.std.proofs.lemmas.Int.{fold-int_max_bounds, fold-int_max_reached, fold-int_min_bounds, fold-int_min_reached, ints}
use Rattle.std.proofs.lemmas.List.Elements.{All-contains, All-cons, All-head, All-map, All-nil, All-tail}
use Rattle.list_laws.proofs.MapLemmas.{All-from_map}
use Rattle.list_laws.proofs.MemberLemmas.{first_member, later_member, member_of_map}
use Rattle.spiral_code.specs.Spiral.{move_of}
use Rattle.track_types.specs.Quantities.{greatest, least}
use Rattle.track_types.specs.declared.cell.Cell.{Cell}
use Rattle.track_types.specs.declared.cell_box.CellBox.{CellBox}
use Rattle.rule_store.specs.Boxes.{bounding_box_of, box_round, column, line, origin}
use Rattle.rule_store.specs.Cells.{cells_along, displacement_of, moved, present_in}
use Rattle.rule_store.proofs.BoxLemmas.{box_round-bounds}
use Rattle.rule_store.proofs.CellLemmas.{cells_along-append, moved-moved, moved-none, present-moved, same_cell}
use Rattle.index_format.specs.OutlineBlocks.{is_in_grid, stays_in}
use Rattle.index_format.proofs.GridLemmas.{IsCellOf, in_grid-bounds, in_grid-from}

-- what holds of a coordinate of all cells holds of the least and of the greatest of it
module _ (P : ℤ → Type 0) (f : Cell → ℤ) (first : Cell) (rest : List Cell)
    (each : (cell : Cell) → Contains (first ∷ rest) cell → P (f cell)) where
  of_one : (z : ℤ) → (z ≡ f first) ⊎ Contains (map f rest) z → P z
  of_one z (inl is) = subst P (sym is) (each first (first_member first rest))
  of_one z (inr among) =
      let made = member_of_map f rest z among in
      subst P made.2 (each made.0 (later_member made.0 first rest made.1))

  of_least : P (least (map f (first ∷ rest)))
  of_least = of_one (fold int_min (f first) (map f rest)) (fold-int_min_reached (f first) (map f rest) _ refl)

  of_greatest : P (greatest (map f (first ∷ rest)))
  of_greatest = of_one (fold int_max (f first) (map f rest)) (fold-int_max_reached (f first) (map f rest) _ refl)

-- from a start, the cells in which an object is present are those from (0, 0), moved to it
pub present-from : (start : Cell) (values : List ℕ) →
    present_in (cells_along start values) ≡ map (λ c. moved c (start.x, start.y)) (present_in (cells_along origin values))
present-from start values =
    let by : ℤ × ℤ = (start.x, start.y) in
    let here : moved origin by ≡ start = same_cell _ _ start.x start.y (omega (arith, ints)) (omega (arith, ints)) in
    ap (λ from. present_in (cells_along from values)) (sym here) ∙ present-moved by origin values

-- the cells along joined values
pub present-joined : (start : Cell) (xs ys : List ℕ) → present_in (cells_along start (xs ++ ys))
    ≡ present_in (cells_along start xs) ++ present_in (cells_along (moved start (displacement_of xs)) ys)
present-joined start xs ys =
    ap present_in (cells_along-append start xs ys)
    ∙ flat_map-append option_to_list (cells_along start xs) (cells_along (moved start (displacement_of xs)) ys)

module _ (height : ℕ) where
  -- the cell is in the grid
  abbrev pub IsInside : Cell → Type 0
  IsInside cell = is_in_grid height cell ≡ true

  -- values that lead only to cells of the grid end in it
  pub end-inside : (cell : Cell) (values : List ℕ) → IsInside cell → All IsInside (present_in (cells_along cell values))
      → IsInside (moved cell (displacement_of values))
  unfolding cells_along displacement_of
  end-inside cell [] begins inside = subst IsInside (sym (moved-none cell)) begins
  end-inside cell (zero ∷ values) begins inside =
      let by = displacement_of values in
      subst IsInside (same_cell (cell.x +ℤ by.0) (cell.y +ℤ by.1) (cell.x +ℤ (pos 0 +ℤ by.0)) (cell.y +ℤ (pos 0 +ℤ by.1)) (omega (arith, ints)) (omega (arith, ints)))
      (end-inside cell values begins inside)
  end-inside cell (suc code ∷ values) begins inside =
      let next = moved cell (move_of code) in
      let later = present_in (cells_along next values) in
      subst IsInside (moved-moved cell (move_of code) (displacement_of values))
      (end-inside next values (All-head IsInside next later inside) (All-tail IsInside next later inside))

  -- cells that lie in the grid once they are moved have a box that does so
  box-inside : (start : Cell) (cells : List Cell) (hull : Option CellBox) → hull ≡ box_round cells
      → All (λ cell. IsInside (moved cell (start.x, start.y))) cells → stays_in height start hull ≡ true
  unfolding box_round
  box-inside start cells None is each = refl
  box-inside start [] (Some area) is each = absurd (cc)
  box-inside start (first ∷ rest) (Some area) is each =
      let far = pos (2 ^ height - 1) in
      let bounds = box_round-bounds area first rest is in
      let at : (cell : Cell) → Contains (first ∷ rest) cell → IsCellOf height (moved cell (start.x, start.y)) = λ cell inside. in_grid-bounds height (moved cell (start.x, start.y))
      (All-contains (λ cell. IsInside (moved cell (start.x, start.y))) (first ∷ rest) cell each inside) in
      let x1 = of_least (λ x. (pos 0 ≤ℤ (start.x +ℤ x)) × ((start.x +ℤ x) ≤ℤ far)) column first rest
      (λ cell inside. let there = at cell inside in (omega (arith, ints, there.left), omega (arith, ints, there.right))) in
      let y1 = of_least (λ y. (pos 0 ≤ℤ (start.y +ℤ y)) × ((start.y +ℤ y) ≤ℤ far)) line first rest
      (λ cell inside. let there = at cell inside in (omega (arith, ints, there.below), omega (arith, ints, there.above))) in
      let x2 = of_greatest (λ x. (pos 0 ≤ℤ (start.x +ℤ x)) × ((start.x +ℤ x) ≤ℤ far)) column first rest
      (λ cell inside. let there = at cell inside in (omega (arith, ints, there.left), omega (arith, ints, there.right))) in
      let y2 = of_greatest (λ y. (pos 0 ≤ℤ (start.y +ℤ y)) × ((start.y +ℤ y) ≤ℤ far)) line first rest
      (λ cell inside. let there = at cell inside in (omega (arith, ints, there.below), omega (arith, ints, there.above))) in
      and_from (is_in_grid height (moved start (area.x1, area.y1))) (is_in_grid height (moved start (area.x2, area.y2)))
      (in_grid-from height (moved start (area.x1, area.y1)) (record {
        left = omega (arith, ints, bounds.x1, x1.0);
        right = omega (arith, ints, bounds.x1, x1.1);
        below = omega (arith, ints, bounds.y1, y1.0);
        above = omega (arith, ints, bounds.y1, y1.1);
      }))
      (in_grid-from height (moved start (area.x2, area.y2)) (record {
        left = omega (arith, ints, bounds.x2, x2.0);
        right = omega (arith, ints, bounds.x2, x2.1);
        below = omega (arith, ints, bounds.y2, y2.0);
        above = omega (arith, ints, bounds.y2, y2.1);
      }))

  -- and cells whose box does so lie in it
  inside-box : (start : Cell) (cells : List Cell) (hull : Option CellBox) → hull ≡ box_round cells
      → stays_in height start hull ≡ true → All (λ cell. IsInside (moved cell (start.x, start.y))) cells
  unfolding box_round
  inside-box start [] hull is stays = All-nil (λ cell. IsInside (moved cell (start.x, start.y)))
  inside-box start (first ∷ rest) None is stays = absurd (cc)
  inside-box start (first ∷ rest) (Some area) is stays =
      let bounds = box_round-bounds area first rest is in
      let corners = and_parts (is_in_grid height (moved start (area.x1, area.y1))) (is_in_grid height (moved start (area.x2, area.y2))) stays in
      let low = in_grid-bounds height (moved start (area.x1, area.y1)) corners.0 in
      let high = in_grid-bounds height (moved start (area.x2, area.y2)) corners.1 in
      let x1 = fold-int_min_bounds first.x (map column rest) area.x1 bounds.x1 in
      let y1 = fold-int_min_bounds first.y (map line rest) area.y1 bounds.y1 in
      let x2 = fold-int_max_bounds first.x (map column rest) area.x2 bounds.x2 in
      let y2 = fold-int_max_bounds first.y (map line rest) area.y2 bounds.y2 in
      let between : (cell : Cell) → area.x1 ≤ℤ cell.x → cell.x ≤ℤ area.x2 → area.y1 ≤ℤ cell.y → cell.y ≤ℤ area.y2
      → IsInside (moved cell (start.x, start.y)) = λ cell left right below above.
      in_grid-from height (moved cell (start.x, start.y)) (record {
        left = omega (arith, ints, low.left, left);
        right = omega (arith, ints, high.right, right);
        below = omega (arith, ints, low.below, below);
        above = omega (arith, ints, high.above, above);
      }) in
      All-cons (λ cell. IsInside (moved cell (start.x, start.y))) first rest (between first x1.0 x2.0 y1.0 y2.0)
      (λ k d within. between (get_or rest k d)
      (All-from_map (λ x. area.x1 ≤ℤ x) column rest x1.1 k d within) (All-from_map (λ x. x ≤ℤ area.x2) column rest x2.1 k d within)
      (All-from_map (λ y. area.y1 ≤ℤ y) line rest y1.1 k d within) (All-from_map (λ y. y ≤ℤ area.y2) line rest y2.1 k d within))

  -- the box of values, moved to the start, is in the grid where the cells along them are, and the other way round
  pub stays_in-along : (start : Cell) (values : List ℕ) → All IsInside (present_in (cells_along start values))
      → stays_in height start (bounding_box_of values) ≡ true
  unfolding bounding_box_of
  stays_in-along start values inside =
      let cells = present_in (cells_along origin values) in
      box-inside start cells (box_round cells) refl
      (All-from_map IsInside (λ c. moved c (start.x, start.y)) cells (subst (All IsInside) (present-from start values) inside))

  pub along-stays_in : (start : Cell) (values : List ℕ) → stays_in height start (bounding_box_of values) ≡ true
      → All IsInside (present_in (cells_along start values))
  unfolding bounding_box_of
  along-stays_in start values stays =
      let cells = present_in (cells_along origin values) in
      subst (All IsInside) (sym (present-from start values))
      (All-map IsInside (λ c. moved c (start.x, start.y)) cells (inside-box start cells (box_round cells) refl stays))
