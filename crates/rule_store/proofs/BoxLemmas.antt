-- Least boxes: round joined lists of cells, and round cells that are moved.
use Rattle.std.proofs.Common.{◌≡◌, ℤ, ◌+ℤ◌, List, [], ◌∷◌, ◌++◌, Some, None, map, refl, ap, sym, ◌∙◌, arith}
use Rattle.std.specs.Prelude.{fold, unwrap_or}
use Rattle.std.specs.Int.{int_max, int_min}
use Rattle.std.proofs.lemmas.Int.{ints}
use Rattle.std.proofs.lemmas.List.{map-append}
use Rattle.std.proofs.lemmas.List.Sums.{fold-append}
use Rattle.track_types.specs.Quantities.{greatest, least}
use Rattle.track_types.specs.declared.cell.Cell.{Cell}
use Rattle.track_types.specs.declared.cell_box.CellBox.{CellBox}
use Rattle.track_types.proofs.BoxLemmas.{same_box}
use Rattle.rule_store.specs.Cells.{moved}
use Rattle.rule_store.specs.Boxes.{box_round, column, line}

-- The least and the greatest number alike, by a way to pick one of two.
module _ (pick : ℤ → ℤ → ℤ) (assoc : (a b c : ℤ) → pick (pick a b) c ≡ pick a (pick b c))
    (shifts : (a b d : ℤ) → pick (a +ℤ d) (b +ℤ d) ≡ pick a b +ℤ d) where
  pick-fold : (a b : ℤ) (zs : List ℤ) → fold pick (pick a b) zs ≡ pick a (fold pick b zs)
  pick-fold a b [] = refl
  pick-fold a b (z ∷ zs) = rw (assoc a b z) (pick-fold a (pick b z) zs)

  pick-append : (a b : ℤ) (xs ys : List ℤ) → fold pick a (xs ++ b ∷ ys) ≡ pick (fold pick a xs) (fold pick b ys)
  pick-append a b xs ys = fold-append pick a xs (b ∷ ys) ∙ pick-fold (fold pick a xs) b ys

  -- of a coordinate of cells
  pick-joined : (f : Cell → ℤ) (a b : Cell) (xs ys : List Cell) →
      fold pick (f a) (map f (xs ++ b ∷ ys)) ≡ pick (fold pick (f a) (map f xs)) (fold pick (f b) (map f ys))
  pick-joined f a b xs ys = rw (map-append f xs (b ∷ ys)) (pick-append (f a) (f b) (map f xs) (map f ys))

  pick-moved : (f : Cell → ℤ) (by : ℤ × ℤ) (d : ℤ) → ((cell : Cell) → f (moved cell by) ≡ f cell +ℤ d) →
      (z : ℤ) (cells : List Cell) →
      fold pick (z +ℤ d) (map f (map (λ cell. moved cell by) cells)) ≡ fold pick z (map f cells) +ℤ d
  pick-moved f by d moves z [] = refl
  pick-moved f by d moves z (cell ∷ cells) =
      rw (moves cell, shifts z (f cell) d) (pick-moved f by d moves (pick z (f cell)) cells)

min-assoc : (a b c : ℤ) → int_min (int_min a b) c ≡ int_min a (int_min b c)
min-assoc a b c = grind (arith, ints)

max-assoc : (a b c : ℤ) → int_max (int_max a b) c ≡ int_max a (int_max b c)
max-assoc a b c = grind (arith, ints)

min-shifts : (a b d : ℤ) → int_min (a +ℤ d) (b +ℤ d) ≡ int_min a b +ℤ d
min-shifts a b d = grind (arith, ints)

max-shifts : (a b d : ℤ) → int_max (a +ℤ d) (b +ℤ d) ≡ int_max a b +ℤ d
max-shifts a b d = grind (arith, ints)

-- there is a box where there is a cell
pub box_round-none : (cells : List Cell) → None ≡ box_round cells → cells ≡ []
unfolding box_round
box_round-none [] none = refl
box_round-none (cell ∷ cells) none = absurd (cc)

-- what a box is to cells, by its bounds
pub record Bounds (area : CellBox) (first : Cell) (rest : List Cell) : Type 0 where
  pub x1 : area.x1 ≡ least (map column (first ∷ rest))
  pub y1 : area.y1 ≡ least (map line (first ∷ rest))
  pub x2 : area.x2 ≡ greatest (map column (first ∷ rest))
  pub y2 : area.y2 ≡ greatest (map line (first ∷ rest))

pub box_round-bounds : (area : CellBox) (first : Cell) (rest : List Cell) → Some area ≡ box_round (first ∷ rest) →
    Bounds area first rest
unfolding box_round
box_round-bounds area first rest is =
    record {
      x1 = ap (λ o. (unwrap_or o area).x1) is;
      y1 = ap (λ o. (unwrap_or o area).y1) is;
      x2 = ap (λ o. (unwrap_or o area).x2) is;
      y2 = ap (λ o. (unwrap_or o area).y2) is;
    }

pub box_round-is : (area : CellBox) (first : Cell) (rest : List Cell) → Bounds area first rest →
    Some area ≡ box_round (first ∷ rest)
unfolding box_round
box_round-is area first rest is = ap Some (same_box area _ is.x1 is.y1 is.x2 is.y2)

-- the box round two lists of cells, of which each has a box
pub box_round-append : (xs ys : List Cell) (a b r : CellBox) → Some a ≡ box_round xs → Some b ≡ box_round ys →
    r.x1 ≡ int_min a.x1 b.x1 → r.y1 ≡ int_min a.y1 b.y1 → r.x2 ≡ int_max a.x2 b.x2 → r.y2 ≡ int_max a.y2 b.y2 →
    Some r ≡ box_round (xs ++ ys)
unfolding box_round
box_round-append [] ys a b r left right x1 y1 x2 y2 = absurd (cc)
box_round-append (c ∷ cs) [] a b r left right x1 y1 x2 y2 = absurd (cc)
box_round-append (c ∷ cs) (e ∷ es) a b r left right x1 y1 x2 y2 =
    let one = box_round-bounds a c cs left in
    let other = box_round-bounds b e es right in
    box_round-is r c (cs ++ e ∷ es) (record {
      x1 = x1 ∙ ap (λ z. int_min z b.x1) one.x1 ∙ ap (int_min _) other.x1
          ∙ sym (pick-joined int_min min-assoc min-shifts column c e cs es);
      y1 = y1 ∙ ap (λ z. int_min z b.y1) one.y1 ∙ ap (int_min _) other.y1
          ∙ sym (pick-joined int_min min-assoc min-shifts line c e cs es);
      x2 = x2 ∙ ap (λ z. int_max z b.x2) one.x2 ∙ ap (int_max _) other.x2
          ∙ sym (pick-joined int_max max-assoc max-shifts column c e cs es);
      y2 = y2 ∙ ap (λ z. int_max z b.y2) one.y2 ∙ ap (int_max _) other.y2
          ∙ sym (pick-joined int_max max-assoc max-shifts line c e cs es);
    })

-- the box round cells that are moved
pub box_round-moved : (cells : List Cell) (by : ℤ × ℤ) (a r : CellBox) → Some a ≡ box_round cells →
    r.x1 ≡ a.x1 +ℤ by.0 → r.y1 ≡ a.y1 +ℤ by.1 → r.x2 ≡ a.x2 +ℤ by.0 → r.y2 ≡ a.y2 +ℤ by.1 →
    Some r ≡ box_round (map (λ cell. moved cell by) cells)
unfolding box_round
box_round-moved [] by a r is x1 y1 x2 y2 = absurd (cc)
box_round-moved (c ∷ cs) by a r is x1 y1 x2 y2 =
    let old = box_round-bounds a c cs is in
    box_round-is r (moved c by) (map (λ cell. moved cell by) cs) (record {
      x1 = x1 ∙ ap (λ z. z +ℤ by.0) old.x1
          ∙ sym (pick-moved int_min min-assoc min-shifts column by by.0 (λ _. refl) c.x cs);
      y1 = y1 ∙ ap (λ z. z +ℤ by.1) old.y1
          ∙ sym (pick-moved int_min min-assoc min-shifts line by by.1 (λ _. refl) c.y cs);
      x2 = x2 ∙ ap (λ z. z +ℤ by.0) old.x2
          ∙ sym (pick-moved int_max max-assoc max-shifts column by by.0 (λ _. refl) c.x cs);
      y2 = y2 ∙ ap (λ z. z +ℤ by.1) old.y2
          ∙ sym (pick-moved int_max max-assoc max-shifts line by by.1 (λ _. refl) c.y cs);
    })

pub box_round-moved_none : (cells : List Cell) (by : ℤ × ℤ) → None ≡ box_round cells →
    None ≡ box_round (map (λ cell. moved cell by) cells)
unfolding box_round
box_round-moved_none [] by none = refl
box_round-moved_none (c ∷ cs) by none = absurd (cc)
