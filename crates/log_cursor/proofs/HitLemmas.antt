-- Boxes where their symbols are placed, and the hits of a region that such a box tells of or rules out.
use Rattle.std.proofs.Common.{◌≡◌, ℕ, zero, suc, ◌<◌, ℤ, pos, ◌+ℤ◌, Bool, true, false, List, [], ◌∷◌, length, filter, map, Option, Some, None, refl, ap, sym, subst, ◌∙◌, arith, All, inl, inr}
use Rattle.std.specs.Option.{is_some, option_map}
use Rattle.std.specs.List.{Contains}
use Rattle.std.specs.Prelude.{◌⊎◌, get_or, slice_index}
use Rattle.std.proofs.lemmas.Bool.{cases_Bool}
use Rattle.std.proofs.lemmas.Int.{fold-int_max_reached, fold-int_min_reached, ints}
use Rattle.std.proofs.lemmas.List.Elements.{All-contains, All-map, All-head, All-nil, All-tail}
use Rattle.spiral_code.specs.Spiral.{move_of}
use Rattle.track_types.specs.Near.{IsAsked, IsCellAsked}
use Rattle.track_types.specs.Region.{in_region, intersects_region, is_between}
use Rattle.track_types.specs.declared.cell.Cell.{Cell}
use Rattle.track_types.specs.declared.cell_box.CellBox.{CellBox}
use Rattle.track_types.specs.declared.region.Region.{Region}
use Rattle.track_types.specs.declared.stop.Stop.{Stop}
use Rattle.track_types.proofs.RegionLemmas.{in_box-bounds, in_box-from, intersects_region-exact, IsBounded}
use Rattle.rule_store.specs.View.{RulesView}
use Rattle.rule_store.specs.Expansion.{values_of}
use Rattle.rule_store.specs.Cells.{cells_along, displacement_of, moved, present_in}
use Rattle.rule_store.specs.Boxes.{bounding_box_of, box_round, column, line, origin}
use Rattle.rule_store.specs.Log.{in_window, stop_at, stops_from}
use Rattle.rule_store.proofs.BoxLemmas.{box_round-bounds, box_round-moved, box_round-moved_none, box_round-none}
use Rattle.rule_store.proofs.CellLemmas.{present-moved, same_cell}
use Rattle.rule_store.proofs.ExpansionLemmas.{values_of-terminal}
use Rattle.track_types.specs.Boxes.{moved_box}
use Rattle.log_cursor.specs.Opened.{IsOutside}
use Rattle.log_cursor.specs.Start.{IsHullAsked, start_past}
use Rattle.log_cursor.specs.Touching.{first_among, touches_at}
use Rattle.log_cursor.specs.declared.start.Start.{Start}
use Rattle.log_cursor.proofs.WalkLemmas.{own_stops}
use Rattle.log_cursor.proofs.WayLemmas.{box_round-bounded}

-- the box of values, placed at a cell, is the least round the cells along them from there
pub placed-round : (cell : Cell) (values : List ℕ) (hull : Option CellBox) → hull ≡ bounding_box_of values →
    option_map (moved_box cell) hull ≡ box_round (present_in (cells_along cell values))
unfolding bounding_box_of
placed-round cell values hull is =
    let by : ℤ × ℤ = (cell.x, cell.y) in
    let here : moved origin by ≡ cell = same_cell _ _ cell.x cell.y (omega (arith, ints)) (omega (arith, ints)) in
    at_origin hull is ∙ ap box_round (sym (present-moved by origin values))
    ∙ ap (λ start. box_round (present_in (cells_along start values))) here
  where
    at_origin : (hull : Option CellBox) → hull ≡ box_round (present_in (cells_along origin values)) →
        option_map (moved_box cell) hull
        ≡ box_round (map (λ c. moved c (cell.x, cell.y)) (present_in (cells_along origin values)))
    at_origin None is = box_round-moved_none (present_in (cells_along origin values)) (cell.x, cell.y) is
    at_origin (Some area) is =
        box_round-moved (present_in (cells_along origin values)) (cell.x, cell.y) area (moved_box cell area) is
        (omega (arith, ints)) (omega (arith, ints)) (omega (arith, ints)) (omega (arith, ints))

-- one of several numbers that may be asked for
reached-asked : (r z : ℤ) (xs : List ℤ) → (r ≡ z) ⊎ Contains xs r → IsAsked z → All IsAsked xs → IsAsked r
reached-asked r z xs reached start each = elim reached [
  | inl same ↦ subst IsAsked (sym same) start
  | inr inside ↦ All-contains IsAsked xs r each inside
]

-- the bounds of the least box round cells that may be asked for
box_round-asked : (area : CellBox) (cells : List Cell) → Some area ≡ box_round cells → All IsCellAsked cells →
    (IsAsked area.x1 × IsAsked area.y1) × (IsAsked area.x2 × IsAsked area.y2)
unfolding box_round
box_round-asked area [] is near = absurd (cc)
box_round-asked area (first ∷ rest) is near =
    let bounds = box_round-bounds area first rest is in
    let here = All-head IsCellAsked first rest near in
    let later = All-tail IsCellAsked first rest near in
    let xs = map column rest in
    let ys = map line rest in
    let columns : All IsAsked xs = All-map IsAsked column rest (λ k d within. (later k d within).x) in
    let lines : All IsAsked ys = All-map IsAsked line rest (λ k d within. (later k d within).y) in (
      (
        reached-asked area.x1 first.x xs (fold-int_min_reached first.x xs area.x1 bounds.x1) here.x columns,
        reached-asked area.y1 first.y ys (fold-int_min_reached first.y ys area.y1 bounds.y1) here.y lines,
      ),
      (
        reached-asked area.x2 first.x xs (fold-int_max_reached first.x xs area.x2 bounds.x2) here.x columns,
        reached-asked area.y2 first.y ys (fold-int_max_reached first.y ys area.y2 bounds.y2) here.y lines,
      ),
    )

-- where the cells along values are near, so is their placed box
pub IsHullAsked-along : (cell : Cell) (values : List ℕ) (hull : Option CellBox) → hull ≡ bounding_box_of values →
    All IsCellAsked (present_in (cells_along cell values)) → IsHullAsked cell hull
IsHullAsked-along cell values None is near = tt
IsHullAsked-along cell values (Some hull) is near =
    let bounds = box_round-asked (moved_box cell hull) (present_in (cells_along cell values))
    (placed-round cell values (Some hull) is) near in
    record { x1 = bounds.0.0; y1 = bounds.0.1; x2 = bounds.1.0; y2 = bounds.1.1 }

module _ (region : Region) where
  -- a cell within the bounds of a box that has no cell of the region is not in the region
  outside : (area : CellBox) → intersects_region region area ≡ false → (cell : Cell) → IsBounded area cell →
      in_region region cell ≡ false
  outside area apart cell inside = elim (cases_Bool (in_region region cell)) [
    | inl held ↦
        let touched : intersects_region region area ≡ true =
        (intersects_region-exact region area).1 (cell, in_box-from area cell inside, held) in
        absurd (cc)
    | inr other ↦ other
  ]

  -- values whose placed box has no cell of the region lead to no cell of it
  pub outside-along : (cell : Cell) (values : List ℕ) (hull : Option CellBox) → hull ≡ bounding_box_of values →
      touches_at region cell hull ≡ false → IsOutside region cell values
  unfolding IsOutside
  outside-along cell values None is apart =
      subst (All (λ c. in_region region c ≡ false))
      (sym (box_round-none (present_in (cells_along cell values)) (placed-round cell values None is)))
      (All-nil (λ c. in_region region c ≡ false))
  outside-along cell values (Some hull) is apart =
      let cells = present_in (cells_along cell values) in
      λ k d within. outside (moved_box cell hull) apart (get_or cells k d)
      (box_round-bounded (moved_box cell hull) cells (placed-round cell values (Some hull) is) k d within)

  -- no stop at such cells is a hit
  no_hit : (test : Stop → Bool) (instant : ℤ) (cells : List (Option Cell)) →
      All (λ c. in_region region c ≡ false) (present_in cells) →
      first_among region (filter test (stops_from instant cells)) ≡ None
  unfolding stops_from
  no_hit test instant [] fails = refl
  no_hit test instant (None ∷ cells) fails = no_hit test (instant +ℤ pos 1) cells fails
  no_hit test instant (Some here ∷ cells) fails =
      let first = All-head (λ c. in_region region c ≡ false) here (present_in cells) fails in
      let rest = no_hit test (instant +ℤ pos 1) cells
      (All-tail (λ c. in_region region c ≡ false) here (present_in cells) fails) in
      elim (cases_Bool (test (stop_at instant here))) [
        | inl kept ↦ rw (kept, first) rest
        | inr gone ↦ rw gone rest
      ]

  -- a box that has a cell of the region is one
  pub touches_at-some : (cell : Cell) (hull : Option CellBox) → touches_at region cell hull ≡ true → is_some hull ≡ true
  touches_at-some cell None touches = absurd (cc)
  touches_at-some cell (Some area) touches = refl

  -- the box of one movement is the cell to which it leads
  held-box : (cell : Cell) (code : ℕ) (hull : Option CellBox) → hull ≡ bounding_box_of (suc code ∷ []) →
      touches_at region cell hull ≡ true → in_region region (moved cell (displacement_of (suc code ∷ []))) ≡ true
  unfolding bounding_box_of cells_along displacement_of
  held-box cell code None is touches = absurd (cc)
  held-box cell code (Some area) is touches =
      let bounds = box_round-bounds area (moved origin (move_of code)) [] is in
      let placed = moved_box cell area in
      let found = (intersects_region-exact region placed).0 touches in
      let inside = in_box-bounds placed found.0 found.1 in
      let same : found.0 ≡ moved cell (displacement_of (suc code ∷ [])) =
      same_cell found.0.x found.0.y _ _ (omega (arith, ints, bounds.x1, bounds.x2, inside.left, inside.right))
      (omega (arith, ints, bounds.y1, bounds.y2, inside.below, inside.above)) in
      subst (λ c. in_region region c ≡ true) same found.2

  held-move : (cell : Cell) (value : ℕ) → touches_at region cell (bounding_box_of (value ∷ [])) ≡ true →
      in_region region (moved cell (displacement_of (value ∷ []))) ≡ true
  unfolding bounding_box_of box_round cells_along
  held-move cell zero touches = absurd (cc)
  held-move cell (suc code) touches = held-box cell code (bounding_box_of (suc code ∷ [])) refl touches

  module _ (rules : RulesView) (start : Start) (symbol : ℕ) where
    -- a symbol that leads to no cell of the region has no hit
    pub own_stops-outside : (from to : ℤ) → IsOutside region start.cell (values_of rules symbol) →
        first_among region (own_stops rules from to start symbol) ≡ None
    unfolding in_window IsOutside
    own_stops-outside from to outside =
        no_hit (λ stop. is_between from to stop.instant) (start.instant +ℤ pos 1)
        (cells_along start.cell (values_of rules symbol)) outside

    -- a terminal whose placed box has one leads to it
    pub held-terminal : symbol < length rules.alphabet →
        touches_at region start.cell (bounding_box_of (values_of rules symbol)) ≡ true →
        in_region region (start_past start (values_of rules symbol)).cell ≡ true
    held-terminal terminal touches =
        let one = values_of-terminal rules symbol terminal in
        rw one (held-move start.cell (slice_index rules.alphabet symbol) (rw one at touches))
