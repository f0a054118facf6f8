-- Digits of Morton numbers: how large they are, and what prefixes and last digits tell.
use Rattle.std.proofs.Common.{◌≡◌, ℕ, zero, suc, ◌+◌, ◌-◌, ◌*◌, ◌/◌, ◌%◌, ◌^◌, ◌<◌, ◌≤◌, ℤ, pos, ◌+ℤ◌, ◌-ℤ◌}
use Rattle.std.proofs.Common.{refl, sym, ap, ◌∙◌, arith}
use Rattle.std.proofs.Math.Nat.{div-div-eq-div-mul, div-one, pow-suc}
use Rattle.std.proofs.lemmas.Int.{ints}
use Rattle.std.specs.Int.RustNames.{unsigned_abs}
use Rattle.track_types.specs.declared.cell.Cell.{Cell}
use Rattle.track_types.specs.declared.limit.TheConstants.{MAX_HEIGHT}
use Rattle.k2_tree.specs.Morton.{interleaved, morton_row, morton_column, morton_of, cell_of, IsInGrid}

-- a digit less
pub div-pow_suc : (k x n : ℕ) → x / k ^ n / k ≡ x / k ^ suc n
div-pow_suc k x n = div-div-eq-div-mul x (k ^ n) k ∙ ap (λ p. x / p) (sym (pow-suc k n))

-- two bits are a digit to base 4
pub two_bits : (n : ℕ) → 2 ^ (2 * n) ≡ 4 ^ n
two_bits zero = refl
two_bits (suc n) =
    let e : 2 * suc n ≡ suc (suc (2 * n)) = omega arith in
    ap (λ k. 2 ^ k) e ∙ omega (arith, two_bits n, pow-suc 2 (suc (2 * n)), pow-suc 2 (2 * n), pow-suc 4 n)

-- n digits to base 4 are below 4 ^ n
pub interleaved-lt : (n row column : ℕ) → interleaved n row column < 4 ^ n
unfolding interleaved
interleaved-lt zero row column = omega arith
interleaved-lt (suc n) row column = omega (arith, pow-suc 4 n, interleaved-lt n (row / 2) (column / 2))

-- a column of n digits is below 2 ^ n
pub morton_column-lt : (n code : ℕ) → morton_column n code < 2 ^ n
unfolding morton_column
morton_column-lt zero code = omega arith
morton_column-lt (suc n) code = omega (arith, pow-suc 2 n, morton_column-lt n (code / 4))

-- the row is the column of the number without its last bit
pub morton_row-half : (n code : ℕ) → morton_row n code ≡ morton_column n (code / 2)
unfolding morton_row morton_column
morton_row-half zero code = refl
morton_row-half (suc n) code =
    let e : code / 4 / 2 ≡ code / 2 / 4 = omega arith in
    omega (arith, morton_row-half n (code / 4), ap (morton_column n) e)

pub morton_row-lt : (n code : ℕ) → morton_row n code < 2 ^ n
morton_row-lt n code = omega (arith, morton_row-half n code, morton_column-lt n (code / 2))

-- 0 has column 0
morton_column-zero : (m : ℕ) → morton_column m 0 ≡ 0
unfolding morton_column
morton_column-zero zero = refl
morton_column-zero (suc m) = omega (arith, morton_column-zero m)

-- what is in front of the last digit, and the two bits of that
last_digit : (upper row column : ℕ)
    → ((4 * upper + (2 * (row % 2) + column % 2)) / 4 ≡ upper)
    × ((4 * upper + (2 * (row % 2) + column % 2)) % 4 / 2 ≡ row % 2)
    × ((4 * upper + (2 * (row % 2) + column % 2)) % 4 % 2 ≡ column % 2)
last_digit upper row column = (omega arith, omega arith, omega arith)

-- a number's row and column are those that it was made of, also by more digits than it has
pub ends_back : (n m row column : ℕ) → n ≤ m → row < 2 ^ n → column < 2 ^ n
    → (morton_row m (interleaved n row column) ≡ row) × (morton_column m (interleaved n row column) ≡ column)
unfolding interleaved morton_row morton_column
ends_back zero m row column most low left =
    (morton_row-half m 0 ∙ morton_column-zero m ∙ omega arith, morton_column-zero m ∙ omega arith)
ends_back (suc n) zero row column most low left = absurd (omega arith)
ends_back (suc n) (suc m) row column most low left =
    let half = pow-suc 2 n in
    let rest = ends_back n m (row / 2) (column / 2) (omega arith) (omega arith) (omega arith) in
    let last = last_digit (interleaved n (row / 2) (column / 2)) row column in
    (rw (last.0, last.1, rest.0) (omega arith), rw (last.0, last.2, rest.1) (omega arith))

-- a number is made of its row and its column
pub interleaved-morton_row : (n code : ℕ) → code < 4 ^ n → interleaved n (morton_row n code) (morton_column n code) ≡ code
unfolding interleaved morton_row morton_column
interleaved-morton_row zero code small = omega arith
interleaved-morton_row (suc n) code small =
    let rest : interleaved n (morton_row n (code / 4)) (morton_column n (code / 4)) ≡ code / 4 =
    interleaved-morton_row n (code / 4) (omega (arith, pow-suc 4 n)) in
    let a : (2 * morton_row n (code / 4) + code % 4 / 2) / 2 ≡ morton_row n (code / 4) = omega arith in
    let b : (2 * morton_column n (code / 4) + code % 4 % 2) / 2 ≡ morton_column n (code / 4) = omega arith in
    let d : (2 * morton_row n (code / 4) + code % 4 / 2) % 2 ≡ code % 4 / 2 = omega arith in
    let e : (2 * morton_column n (code / 4) + code % 4 % 2) % 2 ≡ code % 4 % 2 = omega arith in
    rw (a, b, d, e, rest) (omega arith)

-- a number's row and column, by as many digits as the greatest grid has
pub highest : (height code : ℕ) → height ≤ MAX_HEIGHT → code < 4 ^ height
    → (morton_row MAX_HEIGHT code ≡ morton_row height code) × (morton_column MAX_HEIGHT code ≡ morton_column height code)
highest height code low small =
    let ends = ends_back height MAX_HEIGHT (morton_row height code) (morton_column height code) low
    (morton_row-lt height code) (morton_column-lt height code) in
    let whole = sym (interleaved-morton_row height code small) in
    (ap (morton_row MAX_HEIGHT) whole ∙ ends.0, ap (morton_column MAX_HEIGHT) whole ∙ ends.1)

-- digits more than a row and a column have change nothing
pub interleaved-more : (n row column : ℕ) → row < 2 ^ n → column < 2 ^ n
    → interleaved (suc n) row column ≡ interleaved n row column
unfolding interleaved
interleaved-more zero row column low left = omega arith
interleaved-more (suc n) row column low left =
    let half = pow-suc 2 n in
    let rest = interleaved-more n (row / 2) (column / 2) (omega arith) (omega arith) in
    omega arith

-- a prefix is that of the row and the column without as many bits
pub interleaved-prefix : (n k row column : ℕ)
    → interleaved (n + k) row column / 4 ^ n ≡ interleaved k (row / 2 ^ n) (column / 2 ^ n)
unfolding interleaved
interleaved-prefix zero k row column =
    let e : 0 + k ≡ k = omega arith in rw (e, div-one row, div-one column) (div-one (interleaved k row column))
interleaved-prefix (suc n) k row column =
    let e : suc n + k ≡ n + suc k = omega arith in
    sym (div-pow_suc 4 (interleaved (suc n + k) row column) n)
    ∙ ap (λ m. interleaved m row column / 4 ^ n / 4) e ∙ ap (λ p. p / 4) (interleaved-prefix n (suc k) row column)
    ∙ (rw (div-pow_suc 2 row n, div-pow_suc 2 column n) (omega arith))

-- a cell's number is below 4 ^ height
pub morton_of-lt : (height : ℕ) (base cell : Cell) → morton_of height base cell < 4 ^ height
unfolding morton_of
morton_of-lt height base cell =
    interleaved-lt height (unsigned_abs (cell.y -ℤ base.y)) (unsigned_abs (cell.x -ℤ base.x))

-- the cell of a cell's number is that cell
pub cell_of-morton_of : (height : ℕ) (base cell : Cell) → IsInGrid height base cell
    → cell_of height base (morton_of height base cell) ≡ cell
unfolding morton_of cell_of
cell_of-morton_of height base cell inside =
    let x : ℕ = unsigned_abs (cell.x -ℤ base.x) in
    let y : ℕ = unsigned_abs (cell.y -ℤ base.y) in
    let ends = ends_back height height y x (omega arith) inside.above inside.right in
    let right : base.x +ℤ pos x ≡ cell.x = omega (arith, ints, inside.left) in
    let above : base.y +ℤ pos y ≡ cell.y = omega (arith, ints, inside.below) in
    rw (ends.0, ends.1, right, above) refl

-- how far what was moved lies from where it was
far-moved : (base : ℤ) (by : ℕ) → unsigned_abs (base +ℤ pos by -ℤ base) ≡ by
far-moved base by = omega (arith, ints)

-- the number of a number's cell is that number
pub morton_of-cell_of : (height : ℕ) (base : Cell) (code : ℕ) → code < 4 ^ height
    → morton_of height base (cell_of height base code) ≡ code
unfolding morton_of cell_of
morton_of-cell_of height base code small =
    rw (far-moved base.x (morton_column height code), far-moved base.y (morton_row height code))
    (interleaved-morton_row height code small)

-- a number's cell is in the grid
pub cell_of-inside : (height : ℕ) (base : Cell) (code : ℕ) → IsInGrid height base (cell_of height base code)
unfolding cell_of
cell_of-inside height base code = record {
  left = omega (arith, ints);
  right = omega (arith, far-moved base.x (morton_column height code), morton_column-lt height code);
  below = omega (arith, ints);
  above = omega (arith, far-moved base.y (morton_row height code), morton_row-lt height code);
}
