-- Where squares are: the boxes of their cells, near 0, and what lies in them.
use Rattle.std.proofs.Common.{◌≡◌, ℕ, zero, suc, ◌+◌, ◌-◌, ◌*◌, ◌/◌, ◌%◌, ◌^◌, ◌<◌, ◌≤◌, ℤ, pos, neg_ℤ, ◌+ℤ◌, ◌-ℤ◌}
use Rattle.std.proofs.Common.{◌≤ℤ◌, true, sym, ap, ◌∙◌, arith, lit<, w64, to_z, of_z}
use Rattle.std.proofs.Math.Nat.{div-lt_iff_lt-mul, div-mul-le_self, lt-div-mul-add}
use Rattle.std.proofs.Math.Nat.{mul-le-mul_left, pow-le-pow_right, pow-suc}
use Rattle.std.proofs.lemmas.Nat.{pow-add, pow_pos}
use Rattle.std.proofs.lemmas.Bool.{and_from}
use Rattle.std.proofs.lemmas.Int.{ints, to_z-of_z}
use Rattle.std.specs.Int.RustNames.{unsigned_abs}
use Rattle.track_types.specs.Near.{IsBoxWithin, IsWithin}
use Rattle.track_types.specs.Region.{is_between, in_box}
use Rattle.track_types.specs.declared.cell.Cell.{Cell}
use Rattle.track_types.specs.declared.limit.TheConstants.{MAX_ASKED, MAX_HEIGHT}
use Rattle.track_types.proofs.RegionLemmas.{is_between-from}
use Rattle.k2_tree.specs.Morton.{interleaved, morton_of, morton_row, morton_column, IsGrid, IsInGrid}
use Rattle.k2_tree.specs.Squares.{node}
use Rattle.k2_tree.specs.Areas.{area_at}
use Rattle.k2_tree.proofs.MortonLemmas.{ends_back, interleaved-more, interleaved-prefix}

-- numbers near 0 fit a word
pub word_kept : (z : ℤ) → IsWithin z → to_z w64 (of_z w64 z) ≡ z
word_kept z within = to_z-of_z w64 z (omega (arith, ints, within.low, within.high))

-- a base's coordinate is near 0
pub base_within : (z : ℤ) → neg_ℤ (pos MAX_ASKED) ≤ℤ z → z ≤ℤ pos MAX_ASKED → IsWithin z
base_within z low high = record { low = omega (arith, ints); high = omega (arith, ints) }

-- a coordinate that lies so far from the base's, as words and as the square's prefix tells it
pub moved_is : (f : ℤ → ℕ → ℤ) {base result : ℤ} {before told : ℕ} → IsWithin base → IsWithin result → told ≡ before
    → result ≡ f (to_z w64 (of_z w64 base)) before → to_z w64 (of_z w64 result) ≡ f base told
moved_is f {base} {result} {before} {told} near within same is =
    word_kept result within ∙ is ∙ ap (λ z. f z before) (word_kept base near) ∙ ap (f base) (sym same)

-- as many squares as stand before one fit the greatest grid
pub before-lt : (before level height : ℕ) → (before + 1) * 2 ^ level ≤ 2 ^ height → before < 2 ^ height
before-lt before level height inside =
    let some = pow_pos level in
    let most : (before + 1) * 1 ≤ (before + 1) * 2 ^ level = mul-le-mul_left (before + 1) (omega arith) in
    omega (arith, most)

-- where a square has a level below it, half of the greatest grid stands before it at most
before-half : (n before level : ℕ) → 1 ≤ level → (before + 1) * 2 ^ level ≤ 2 ^ suc n → before < 2 ^ n
before-half n before zero some inside = absurd (omega arith)
before-half n before (suc level) some inside =
    let low : 2 * 1 ≤ 2 ^ suc level = omega (arith, pow_pos level, pow-suc 2 level) in
    let most : (before + 1) * (2 * 1) ≤ (before + 1) * 2 ^ suc level = mul-le-mul_left (before + 1) low in
    omega (arith, most, pow-suc 2 n)

-- the prefix of a child has a digit more
pub interleaved-child : (n row column digit level : ℕ) → digit < 4 → 1 ≤ level
    → (column + 1) * 2 ^ level ≤ 2 ^ suc n → (row + 1) * 2 ^ level ≤ 2 ^ suc n
    → interleaved (suc n) (2 * row + digit / 2) (2 * column + digit % 2) ≡ 4 * interleaved (suc n) row column + digit
unfolding interleaved
interleaved-child n row column digit level small some right upper =
    let low : row < 2 ^ n = before-half n row level some upper in
    let left : column < 2 ^ n = before-half n column level some right in
    spread n ∙ ap (λ code. 4 * code + digit) (sym (interleaved-more n row column low left))
  where
    spread : (n : ℕ)
        → interleaved (suc n) (2 * row + digit / 2) (2 * column + digit % 2) ≡ 4 * interleaved n row column + digit
    spread n =
        let a : (2 * row + digit / 2) / 2 ≡ row = omega arith in
        let b : (2 * column + digit % 2) / 2 ≡ column = omega arith in
        let c : (2 * row + digit / 2) % 2 ≡ digit / 2 = omega arith in
        let d : (2 * column + digit % 2) % 2 ≡ digit % 2 = omega arith in
        rw (a, b, c, d) (omega arith)

-- a stretch of numbers, one of those as long that are laid from a base on: it holds a number, and its ends are near 0
record IsStretch (base : ℤ) (count far : ℕ) (z : ℤ) : Type 0 where
  pub holds : is_between (base +ℤ pos (count * far)) (base +ℤ pos (count * far) +ℤ pos (far - 1)) z ≡ true
  pub first : IsWithin (base +ℤ pos (count * far))
  pub last : IsWithin (base +ℤ pos (count * far) +ℤ pos (far - 1))

stretch : (base z : ℤ) (count far : ℕ) → neg_ℤ (pos MAX_ASKED) ≤ℤ base → base ≤ℤ pos MAX_ASKED → base ≤ℤ z
    → unsigned_abs (z -ℤ base) < 2 ^ MAX_HEIGHT → 0 < far → far ≤ 2 ^ MAX_HEIGHT
    → count ≡ unsigned_abs (z -ℤ base) / far → IsStretch base count far z
stretch base z count far left right low small some most is =
    let x : ℕ = unsigned_abs (z -ℤ base) in
    let laid : count * far ≡ x / far * far = ap (λ c. c * far) is in
    let from : count * far ≤ x = omega (arith, div-mul-le_self x far) in
    let to : x < count * far + far = omega (arith, lt-div-mul-add {a = x} {b = far} some) in
    let limit : count * far < 2 ^ MAX_HEIGHT = omega arith in
    record {
      holds = is_between-from (base +ℤ pos (count * far)) (base +ℤ pos (count * far) +ℤ pos (far - 1)) z
          (omega (arith, ints)) (omega (arith, ints));
      first = record { low = omega (arith, ints); high = omega (arith, ints) };
      last = record { low = omega (arith, ints); high = omega (arith, ints) };
    }

-- the square of a level that holds a cell of the grid
module _ {height : ℕ} {base cell : Cell} (grid : IsGrid height base) (inside : IsInGrid height base cell) (n : ℕ)
    (low : n ≤ height) where
  abbrev prefix : ℕ
  prefix = morton_of height base cell / 4 ^ n

  abbrev x : ℕ
  x = unsigned_abs (cell.x -ℤ base.x)

  abbrev y : ℕ
  y = unsigned_abs (cell.y -ℤ base.y)

  -- its row and its column
  ends : (morton_row MAX_HEIGHT prefix ≡ y / 2 ^ n) × (morton_column MAX_HEIGHT prefix ≡ x / 2 ^ n)
  unfolding morton_of
  ends =
      let k : ℕ = height - n in
      let e : height ≡ n + k = omega (arith, low) in
      let power : 2 ^ height ≡ 2 ^ n * 2 ^ k = ap (λ h. 2 ^ h) e ∙ pow-add 2 n k in
      let few : k ≤ MAX_HEIGHT = omega (arith, grid.limit) in
      let above = (div-lt_iff_lt-mul {k = 2 ^ n} {x = y} {y = 2 ^ k} (pow_pos n)).1 (omega (arith, inside.above, power)) in
      let right = (div-lt_iff_lt-mul {k = 2 ^ n} {x = x} {y = 2 ^ k} (pow_pos n)).1 (omega (arith, inside.right, power)) in
      rw (ap (λ h. interleaved h y x / 4 ^ n) e ∙ interleaved-prefix n k y x)
      (ends_back k MAX_HEIGHT (y / 2 ^ n) (x / 2 ^ n) few above right)

  stretches : IsStretch base.x (morton_column MAX_HEIGHT prefix) (2 ^ n) cell.x
      × IsStretch base.y (morton_row MAX_HEIGHT prefix) (2 ^ n) cell.y
  stretches =
      let wide : 2 ^ height ≤ 2 ^ MAX_HEIGHT = pow-le-pow_right {n = 2} (lit< tt) grid.limit in
      let far : 2 ^ n ≤ 2 ^ height = pow-le-pow_right {n = 2} (lit< tt) low in (
        stretch base.x cell.x (morton_column MAX_HEIGHT prefix) (2 ^ n) grid.left grid.right inside.left
            (omega (arith, inside.right)) (pow_pos n) (omega arith) ends.1,
        stretch base.y cell.y (morton_row MAX_HEIGHT prefix) (2 ^ n) grid.below grid.above inside.below
            (omega (arith, inside.above)) (pow_pos n) (omega arith) ends.0,
      )

  -- it holds the cell, and is near 0
  pub in_area : in_box (area_at base (node n prefix)) cell ≡ true
  in_area = and_from _ _ stretches.0.holds stretches.1.holds

  pub area_within : IsBoxWithin (area_at base (node n prefix))
  area_within =
      record { x1 = stretches.0.first; y1 = stretches.1.first; x2 = stretches.0.last; y2 = stretches.1.last }
