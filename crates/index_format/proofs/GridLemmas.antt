-- Cells of a grid, and the movements between them.
use Rattle.std.proofs.Common.{◌≡◌, ℕ, ◌-◌, ◌<◌, ◌≤◌, ◌^◌, ℤ, pos, ◌≤ℤ◌, w64, true, false, ◌&&◌, ap, sym, ◌∙◌, inl, inr, arith, lit<}
use Rattle.std.specs.Int.{cast_unsigned}
use Rattle.std.specs.Int.Signed.{le_z}
use Rattle.std.proofs.lemmas.Bool.{and_from, and_parts, cases_Bool}
use Rattle.std.proofs.lemmas.Int.{ints, of_z-to_z, to_z_pos}
use Rattle.std.proofs.Math.Nat.{pow-le-pow_right}
use Rattle.std.specs.Prelude.{unsigned_abs}
use Rattle.spiral_code.specs.Spiral.{code_of, move_of, ring_of, square}
use Rattle.spiral_code.proofs.SpiralLemmas.{move_of-below}
use Rattle.rule_store.specs.Cells.{moved}
use Rattle.rule_store.proofs.FlawLemmas.{reach_limit-high}
use Rattle.track_types.specs.declared.cell.Cell.{Cell}
use Rattle.track_types.specs.declared.limit.TheConstants.{MAX_HEIGHT}
use Rattle.track_types.proofs.RegionLemmas.{le_z-from, le_z-is}
use Rattle.index_format.specs.OutlineBlocks.{is_in_grid}

-- the cell is one of a grid of this height
pub record IsCellOf (height : ℕ) (cell : Cell) : Type 0 where
  pub left : pos 0 ≤ℤ cell.x
  pub right : cell.x ≤ℤ pos (2 ^ height - 1)
  pub below : pos 0 ≤ℤ cell.y
  pub above : cell.y ≤ℤ pos (2 ^ height - 1)

-- the test for a cell of the grid, and what it says
pub in_grid-bounds : (height : ℕ) (cell : Cell) → is_in_grid height cell ≡ true → IsCellOf height cell
in_grid-bounds height cell inside =
    let far = pos (2 ^ height - 1) in
    let all = and_parts (le_z (pos 0) cell.x && le_z cell.x far && le_z (pos 0) cell.y) (le_z cell.y far) inside in
    let three = and_parts (le_z (pos 0) cell.x && le_z cell.x far) (le_z (pos 0) cell.y) all.0 in
    let two = and_parts (le_z (pos 0) cell.x) (le_z cell.x far) three.0 in
    record {
      left = le_z-is (pos 0) cell.x two.0;
      right = le_z-is cell.x far two.1;
      below = le_z-is (pos 0) cell.y three.1;
      above = le_z-is cell.y far all.1;
    }

pub in_grid-from : (height : ℕ) (cell : Cell) → IsCellOf height cell → is_in_grid height cell ≡ true
in_grid-from height cell is =
    let far = pos (2 ^ height - 1) in
    and_from (le_z (pos 0) cell.x && le_z cell.x far && le_z (pos 0) cell.y) (le_z cell.y far)
    (and_from (le_z (pos 0) cell.x && le_z cell.x far) (le_z (pos 0) cell.y)
    (and_from (le_z (pos 0) cell.x) (le_z cell.x far) (le_z-from (pos 0) cell.x is.left) (le_z-from cell.x far is.right))
    (le_z-from (pos 0) cell.y is.below)) (le_z-from cell.y far is.above)

-- a coordinate of a grid is a number of its own
pub from_coordinate : (height n : ℕ) → height ≤ MAX_HEIGHT → n < 2 ^ height → cast_unsigned w64 (pos n) ≡ n
from_coordinate height n fits small =
    let most : 2 ^ height ≤ 2 ^ 24 = pow-le-pow_right {n = 2} (lit< tt) {i = height} {j = 24} fits in
    ap (cast_unsigned w64) (sym (to_z_pos w64 n (omega (arith, small, most)))) ∙ of_z-to_z w64 n (omega (arith, small, most))

-- the code of a movement, by its two distances
pub same_code : (x y u v : ℤ) → x ≡ u → y ≡ v → code_of x y ≡ code_of u v
same_code x y u v column line = ap (λ x. code_of x y) column ∙ ap (code_of u) line

-- a movement between two cells of a grid is no longer than the grid is wide
pub ring_of-within : (height : ℕ) (cell : Cell) (by : ℤ × ℤ) → IsCellOf height cell → IsCellOf height (moved cell by)
    → ring_of by.0 by.1 ≤ 2 ^ height - 1
ring_of-within height cell by is there =
    let dx : unsigned_abs by.0 ≤ 2 ^ height - 1 = omega (arith, ints, is.left, is.right, there.left, there.right) in
    let dy : unsigned_abs by.1 ≤ 2 ^ height - 1 = omega (arith, ints, is.below, is.above, there.below, there.above) in
    grind (arith, dx, dy)

-- no movement that is longer than every grid leads from a cell of a grid to another
pub in_grid-far : (height : ℕ) (cell : Cell) (code : ℕ) → height ≤ MAX_HEIGHT → is_in_grid height cell ≡ true
    → square (2 ^ 25 - 1) ≤ code → is_in_grid height (moved cell (move_of code)) ≡ false
in_grid-far height cell code fits inside far = elim (cases_Bool (is_in_grid height (moved cell (move_of code)))) [
  | inl there ↦
      let short = ring_of-within height cell (move_of code) (in_grid-bounds height cell inside)
      (in_grid-bounds height (moved cell (move_of code)) there) in
      let high = reach_limit-high height fits in
      let near : ring_of (move_of code).0 (move_of code).1 ≤ 2 ^ 24 - 1 = omega (arith, short, high) in
      absurd (omega (arith, far, (move_of-below code (2 ^ 24 - 1)).1 near))
  | inr out ↦ out
]
