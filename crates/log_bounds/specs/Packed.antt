-- Bounds in 28 bytes: a cell, a speed, the least corner of a box, and how far the box reaches from there.
use Rattle.std.specs.Prelude.{◌≡◌, ℕ, ◌+◌, ◌^◌, ◌<◌, ℤ, pos, ◌+ℤ◌, ◌-ℤ◌, unsigned_abs}
use Rattle.std.proofs.Common.{arith, refl}
use Rattle.std.proofs.lemmas.Int.{ints}
use Rattle.track_types.specs.Boxes.{le-more}
use Rattle.track_types.specs.declared.cell_box.CellBox.{CellBox}
use Rattle.log_bounds.specs.declared.packed_bounds.PackedBounds.TheInside.{Inside}

-- the box that begins at a column and a line, and reaches so many columns and lines farther
abbrev pub reaching_box : ℕ → ℕ → ℕ → ℕ → CellBox
reaching_box x y columns lines = record {
  x1 = pos x;
  y1 = pos y;
  x2 = pos x +ℤ pos columns;
  y2 = pos y +ℤ pos lines;
  wide = le-more (pos x) columns;
  high = le-more (pos y) lines;
}

-- how far it is from a number to another one, which is not less
abbrev pub far_to : ℤ → ℤ → ℕ
far_to first last = unsigned_abs (last -ℤ first)

-- none of its bounds is beyond 32 bits
pub record IsShort (x y columns lines : ℕ) : Type 0 where
  pub right : x + columns < 2 ^ 32
  pub above : y + lines < 2 ^ 32

far-back : (first far : ℕ) → far_to (pos first) (pos first +ℤ pos far) ≡ far
far-back first far = omega (arith, ints)

-- the bounds give the fields back
pub packed-inside : (inside : Inside) → IsShort inside.x inside.y inside.columns inside.lines →
    let area = reaching_box inside.x inside.y inside.columns inside.lines in
    let given : Inside = record {
      column = inside.column;
      line = inside.line;
      speed = inside.speed;
      x = unsigned_abs area.x1;
      y = unsigned_abs area.y1;
      columns = far_to area.x1 area.x2;
      lines = far_to area.y1 area.y2;
    } in given ≡ inside
packed-inside inside is = rw (far-back inside.x inside.columns, far-back inside.y inside.lines) refl
