-- Entries of values, and what packed ones stand for.
use Rattle.std.proofs.Common.{◌≡◌, ℕ, zero, suc, ◌-◌, ◌<◌, ℤ, pos, ◌<ℤ◌, ◌≤ℤ◌, List, [], ◌∷◌, ◌++◌, length, map, Option, Some, None, refl, ap, sym, ◌∙◌, arith}
use Rattle.std.proofs.lemmas.Int.{ints}
use Rattle.spiral_code.specs.Spiral.{move_of}
use Rattle.track_types.specs.declared.cell.Cell.{Cell}
use Rattle.track_types.specs.declared.cell_box.CellBox.{CellBox}
use Rattle.track_types.proofs.BoxLemmas.{same_box}
use Rattle.rule_store.specs.Cells.{cells_along, displacement_of, moved, movement_of, present_in}
use Rattle.rule_store.specs.Boxes.{bounding_box_of, box_round, origin}
use Rattle.rule_store.specs.Entry.{entry_with}
use Rattle.rule_store.specs.Stored.{IsHull}
use Rattle.rule_store.specs.declared.entry.Entry.{Entry}
use Rattle.rule_store.specs.declared.packed_box.PackedBox.{PackedBox}
use Rattle.rule_store.proofs.BoxLemmas.{box_round-is}
use Rattle.rule_store.proofs.CellLemmas.{present-append}

-- an entry is that of values, field by field
pub same_entry : (entry : Entry) (symbol : ℕ) (values : List ℕ) → entry.symbol ≡ symbol → entry.duration
    ≡ length values →
    entry.dx ≡ (displacement_of values).0 → entry.dy ≡ (displacement_of values).1 → entry.hull
    ≡ bounding_box_of values →
    entry ≡ entry_with symbol values
same_entry entry symbol values same duration dx dy hull = rw (sym same, sym duration, sym dx, sym dy, sym hull) refl

crossing : {P : Type 0} (x1 x2 y1 y2 : ℤ) → x2 <ℤ x1 → x1 ≡ y1 → x2 ≡ y2 → y1 ≤ℤ y2 → P
crossing x1 x2 y1 y2 crosses left right wide = absurd (omega (arith, ints))

-- a packed box is that of one box
pub same_hull : (packed : PackedBox) (a b : Option CellBox) → IsHull packed a → IsHull packed b → a ≡ b
same_hull packed None None one other = refl
same_hull packed None (Some b) one other = crossing packed.x1 packed.x2 b.x1 b.x2 one other.0 other.2 b.wide
same_hull packed (Some a) None one other = crossing packed.x1 packed.x2 a.x1 a.x2 other one.0 one.2 a.wide
same_hull packed (Some a) (Some b) one other =
    ap Some (same_box a b (sym one.0 ∙ other.0) (sym one.1 ∙ other.1) (sym one.2 ∙ other.2) (sym one.3 ∙ other.3))

-- the value is that of the movement (dx, dy)
abbrev pub IsMoveOf : ℕ → ℤ → ℤ → Type 0
IsMoveOf value dx dy = ((movement_of value).0 ≡ dx) × ((movement_of value).1 ≡ dy)

pub is_move_of : (value : ℕ) (move : ℤ × ℤ) → 0 < value → move ≡ move_of (value - 1) → IsMoveOf value move.0 move.1
is_move_of zero move some is = absurd (omega arith)
is_move_of (suc code) move some is =
    let one : suc code - 1 ≡ code = omega arith in
    let same : move ≡ move_of code = is ∙ ap move_of one in
    (ap (λ m. m.0) (sym same), ap (λ m. m.1) (sym same))

-- the box of a movement
pub bounding_box_of-move : (value : ℕ) (area : CellBox) (dx dy : ℤ) → 0 < value → IsMoveOf value dx dy →
    area.x1 ≡ dx → area.y1 ≡ dy → area.x2 ≡ dx → area.y2 ≡ dy → Some area ≡ bounding_box_of (value ∷ [])
unfolding bounding_box_of cells_along
bounding_box_of-move zero area dx dy some is x1 y1 x2 y2 = absurd (omega arith)
bounding_box_of-move (suc code) area dx dy some is x1 y1 x2 y2 =
    let right : (move_of code).0 ≡ dx = is.0 in
    let up : (move_of code).1 ≡ dy = is.1 in
    box_round-is area (moved origin (move_of code)) [] (record {
      x1 = omega (arith, ints);
      y1 = omega (arith, ints);
      x2 = omega (arith, ints);
      y2 = omega (arith, ints);
    })

pub displacement_of-move : (value : ℕ) (dx dy : ℤ) → 0 < value → IsMoveOf value dx dy →
    (dx ≡ (displacement_of (value ∷ [])).0) × (dy ≡ (displacement_of (value ∷ [])).1)
unfolding displacement_of
displacement_of-move zero dx dy some is = absurd (omega arith)
displacement_of-move (suc code) dx dy some is =
    let right : (move_of code).0 ≡ dx = is.0 in
    let up : (move_of code).1 ≡ dy = is.1 in
    (omega (arith, ints), omega (arith, ints))

pub entry_with-absence : (symbol : ℕ) →
    record { symbol = symbol; duration = 1; dx = pos 0; dy = pos 0; hull = None } ≡ entry_with symbol (0 ∷ [])
unfolding displacement_of bounding_box_of cells_along box_round
entry_with-absence symbol = refl

-- the box of joined values, from those of both lists of cells
pub bounding_box_of-append : (xs ys : List ℕ) (x y : ℤ) → x ≡ (displacement_of xs).0 → y ≡ (displacement_of xs).1 →
    (left right : Option CellBox) (shifted joined : Option CellBox) →
    left ≡ bounding_box_of xs → right ≡ bounding_box_of ys →
    ((cells : List Cell) → right ≡ box_round cells → shifted ≡ box_round (map (λ cell. moved cell (x, y)) cells)) →
    ((one other : List Cell) → left ≡ box_round one → shifted ≡ box_round other → joined ≡ box_round (one ++ other)) →
    joined ≡ bounding_box_of (xs ++ ys)
unfolding bounding_box_of
bounding_box_of-append xs ys x y right_is up_is left right shifted joined of_left of_right shifts joins =
    let one = present_in (cells_along origin xs) in
    let other = present_in (cells_along origin ys) in
    let by : ◌≡◌ {A = ℤ × ℤ} (x, y) (displacement_of xs) =
    ap (λ z. (z, y)) right_is ∙ ap (λ z. ((displacement_of xs).0, z)) up_is in
    joins one (map (λ cell. moved cell (x, y)) other) of_left (shifts other of_right)
    ∙ ap (λ d. box_round (one ++ map (λ cell. moved cell d) other)) by
    ∙ ap box_round (sym (present-append xs ys))
