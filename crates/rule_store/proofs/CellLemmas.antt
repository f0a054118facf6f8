-- What values mean one after the other: displacements add up, and later cells are moved by earlier values.
use Rattle.std.proofs.Common.{◌≡◌, ℕ, zero, suc, ℤ, pos, ◌+ℤ◌, List, [], ◌∷◌, ◌++◌, Some, None, map, refl, ap, sym, ◌∙◌, arith, length}
use Rattle.std.proofs.lemmas.Int.{ints}
use Rattle.std.proofs.lemmas.Grind.{flat_map-append}
use Rattle.std.specs.Option.{option_to_list}
use Rattle.spiral_code.specs.Spiral.{move_of}
use Rattle.track_types.specs.declared.cell.Cell.{Cell}
use Rattle.rule_store.specs.Cells.{cell_with, cells_along, displacement_of, moved, present_in}
use Rattle.rule_store.specs.Boxes.{origin}

-- cells of the same column and line are the same
pub same_cell : (x y u v : ℤ) → x ≡ u → y ≡ v → cell_with x y ≡ cell_with u v
same_cell x y u v columns lines = ap (λ z. cell_with z y) columns ∙ ap (cell_with u) lines

-- two movements one after the other
pub moved-moved : (cell : Cell) (a b : ℤ × ℤ) → moved (moved cell a) b ≡ moved cell (a.0 +ℤ b.0, a.1 +ℤ b.1)
moved-moved cell a b = same_cell _ _ _ _ (omega (arith, ints)) (omega (arith, ints))

-- it is the same whichever of them comes first
pub moved-turned : (cell : Cell) (a b : ℤ × ℤ) → moved (moved cell a) b ≡ moved (moved cell b) a
moved-turned cell a b = same_cell _ _ _ _ (omega (arith, ints)) (omega (arith, ints))

pub moved-none : (cell : Cell) → moved cell (pos 0, pos 0) ≡ cell
moved-none cell = same_cell _ _ cell.x cell.y (omega (arith, ints)) (omega (arith, ints))

-- displacements add up
pub displacement_of-columns : (xs ys : List ℕ) →
    (displacement_of (xs ++ ys)).0 ≡ (displacement_of xs).0 +ℤ (displacement_of ys).0
unfolding displacement_of
displacement_of-columns [] ys = omega (arith, ints)
displacement_of-columns (a ∷ xs) ys = omega (arith, ints, displacement_of-columns xs ys)

pub displacement_of-lines : (xs ys : List ℕ) →
    (displacement_of (xs ++ ys)).1 ≡ (displacement_of xs).1 +ℤ (displacement_of ys).1
unfolding displacement_of
displacement_of-lines [] ys = omega (arith, ints)
displacement_of-lines (a ∷ xs) ys = omega (arith, ints, displacement_of-lines xs ys)

-- the cells along values are those of the first ones, and then those of the others from where these lead
pub cells_along-append : (cell : Cell) (xs ys : List ℕ) →
    cells_along cell (xs ++ ys) ≡ cells_along cell xs ++ cells_along (moved cell (displacement_of xs)) ys
unfolding cells_along displacement_of
cells_along-append cell [] ys = ap (λ start. cells_along start ys) (sym (moved-none cell))
cells_along-append cell (zero ∷ xs) ys =
    let same : moved cell (displacement_of xs) ≡ moved cell (displacement_of (zero ∷ xs)) =
    same_cell _ _ _ _ (omega (arith, ints)) (omega (arith, ints)) in
    ap (λ rest. None ∷ rest) (cells_along-append cell xs ys
    ∙ ap (λ start. cells_along cell xs ++ cells_along start ys) same)
cells_along-append cell (suc code ∷ xs) ys =
    let next = moved cell (move_of code) in
    let same : moved next (displacement_of xs) ≡ moved cell (displacement_of (suc code ∷ xs)) =
    moved-moved cell (move_of code) (displacement_of xs) in
    ap (λ rest. Some next ∷ rest) (cells_along-append next xs ys
    ∙ ap (λ start. cells_along next xs ++ cells_along start ys) same)

-- from a start that is moved, so are all cells
pub present-moved : (by : ℤ × ℤ) (cell : Cell) (values : List ℕ) →
    present_in (cells_along (moved cell by) values) ≡ map (λ c. moved c by) (present_in (cells_along cell values))
unfolding cells_along
present-moved by cell [] = refl
present-moved by cell (zero ∷ values) = present-moved by cell values
present-moved by cell (suc code ∷ values) =
    let next = moved cell (move_of code) in
    let turned : moved (moved cell by) (move_of code) ≡ moved next by = moved-turned cell by (move_of code) in
    ap (λ start. start ∷ present_in (cells_along start values)) turned
    ∙ ap (λ rest. moved next by ∷ rest) (present-moved by next values)

-- the cells along joined values, from (0, 0)
pub present-append : (xs ys : List ℕ) →
    present_in (cells_along origin (xs ++ ys))
    ≡ present_in (cells_along origin xs)
    ++ map (λ c. moved c (displacement_of xs)) (present_in (cells_along origin ys))
present-append xs ys =
    let rest = cells_along (moved origin (displacement_of xs)) ys in
    ap present_in (cells_along-append origin xs ys)
    ∙ flat_map-append option_to_list (cells_along origin xs) rest
    ∙ ap (λ cells. present_in (cells_along origin xs) ++ cells) (present-moved (displacement_of xs) origin ys)

-- there is one cell for each value
pub length-cells_along : (cell : Cell) (values : List ℕ) → length (cells_along cell values) ≡ length values
unfolding cells_along
length-cells_along cell [] = refl
length-cells_along cell (zero ∷ values) = ap suc (length-cells_along cell values)
length-cells_along cell (suc code ∷ values) = ap suc (length-cells_along (moved cell (move_of code)) values)
