-- Squares by column and row: their children, and how they lie in the greatest grid and in each other.
use Rattle.std.proofs.Common.{◌≡◌, ℕ, zero, suc, ◌+◌, ◌-◌, ◌*◌, ◌/◌, ◌%◌, ◌^◌, ◌<◌, ◌≤◌, ℤ, pos, ◌+ℤ◌, ◌≤ℤ◌}
use Rattle.std.proofs.Common.{sym, ap, ◌∙◌, arith, lit<, mul-le-mul_left, mul-le-mul_right}
use Rattle.std.proofs.Common.{pow-add}
use Rattle.std.proofs.Math.Nat.{mul_comm, pow-le-pow_right}
use Rattle.std.proofs.lemmas.Int.{ints}
use Rattle.std.proofs.lemmas.Nat.{pow_pos}
use Rattle.track_types.specs.declared.cell.Cell.{Cell}
use Rattle.track_types.specs.declared.limit.TheConstants.{MAX_HEIGHT}
use Rattle.k2_tree.specs.Areas.{area_at, IsBoxInside}
use Rattle.k2_tree.specs.Morton.{morton_column, interleaved, morton_row}
use Rattle.k2_tree.specs.Squares.{node}
use Rattle.k2_tree.proofs.AreaLemmas.{before-lt, interleaved-child}
use Rattle.k2_tree.proofs.MortonLemmas.{ends_back, morton_column-lt, morton_row-lt}

-- the column that one digit tells
pub column-one : (digit : ℕ) → digit < 4 → morton_column 1 digit ≡ digit % 2
unfolding morton_column
column-one digit small = omega arith

-- and its row
pub row-one : (digit : ℕ) → digit < 4 → morton_row 1 digit ≡ digit / 2
unfolding morton_row
row-one digit small = omega arith

-- the column that two digits tell
pub column-two : (digit : ℕ) → digit < 16 → morton_column 2 digit ≡ 2 * (digit / 4 % 2) + digit % 2
unfolding morton_column
column-two digit small = omega arith

-- and their row
pub row-two : (digit : ℕ) → digit < 16 → morton_row 2 digit ≡ 2 * (digit / 8) + digit / 2 % 2
unfolding morton_row
row-two digit small = omega arith

-- a level takes one digit or two
pub by_width : (P : ℕ → Type 0) → P 1 → P 2 → (width : ℕ) → 1 ≤ width → width ≤ 2 → P width
by_width P one two zero some few = absurd (omega arith)
by_width P one two (suc zero) some few = one
by_width P one two (suc (suc zero)) some few = two
by_width P one two (suc (suc (suc n))) some few = absurd (omega arith)

-- a part of a stretch of numbers ends no later
part-ends : (a b most count part : ℕ) → part < a → (count + 1) * (a * b) ≤ most → (a * count + part + 1) * b ≤ most
part-ends a b most count part low all =
    let some : a * count + part + 1 ≤ (count + 1) * a = grind arith in
    let less : (a * count + part + 1) * b ≤ (count + 1) * a * b = mul-le-mul_right b some in
    let same : (count + 1) * a * b ≡ (count + 1) * (a * b) = grind arith in
    omega (arith, less, same)

-- so a child ends no later than its square
pub child-ends : (width level count part : ℕ) → width ≤ level → part < 2 ^ width
    → (count + 1) * 2 ^ level ≤ 2 ^ MAX_HEIGHT → (2 ^ width * count + part + 1) * 2 ^ (level - width) ≤ 2 ^ MAX_HEIGHT
child-ends width level count part deep low all =
    let e : width + (level - width) ≡ level = omega arith in
    let power : 2 ^ level ≡ 2 ^ width * 2 ^ (level - width) = ap (λ n. 2 ^ n) (sym e)
    ∙ pow-add 2 width (level - width) in
    part-ends (2 ^ width) (2 ^ (level - width)) (2 ^ MAX_HEIGHT) count part low
    (omega (arith, all, ap (λ p. (count + 1) * p) power))

-- less is left away
pub child-fits : (width level count : ℕ) → width ≤ level → (count + 1) * 2 ^ level ≤ 2 ^ MAX_HEIGHT
    → (count + 1) * 2 ^ width ≤ 2 ^ MAX_HEIGHT
child-fits width level count deep all =
    let more : 2 ^ width ≤ 2 ^ level = pow-le-pow_right (lit< tt) deep in
    let most : (count + 1) * 2 ^ width ≤ (count + 1) * 2 ^ level = mul-le-mul_left (count + 1) more in
    omega (arith, most, all)

-- a child's prefix has a digit more, or two
pub child-prefix : (width digit row column : ℕ) → 1 ≤ width → width ≤ 2 → digit < 4 ^ width
    → (column + 1) * 2 ^ width ≤ 2 ^ MAX_HEIGHT → (row + 1) * 2 ^ width ≤ 2 ^ MAX_HEIGHT
    → interleaved MAX_HEIGHT (2 ^ width * row + morton_row width digit) (2 ^ width * column + morton_column width digit)
    ≡ 4 ^ width * interleaved MAX_HEIGHT row column + digit
child-prefix width digit row column some few =
    by_width (λ w. digit < 4 ^ w → (column + 1) * 2 ^ w ≤ 2 ^ MAX_HEIGHT → (row + 1) * 2 ^ w ≤ 2 ^ MAX_HEIGHT
    → interleaved MAX_HEIGHT (2 ^ w * row + morton_row w digit) (2 ^ w * column + morton_column w digit)
    ≡ 4 ^ w * interleaved MAX_HEIGHT row column + digit) one two width some few
  where
    one : digit < 4 ^ 1 → (column + 1) * 2 ^ 1 ≤ 2 ^ MAX_HEIGHT → (row + 1) * 2 ^ 1 ≤ 2 ^ MAX_HEIGHT
        → interleaved MAX_HEIGHT (2 ^ 1 * row + morton_row 1 digit) (2 ^ 1 * column + morton_column 1 digit)
        ≡ 4 ^ 1 * interleaved MAX_HEIGHT row column + digit
    one low right upper =
        rw (column-one digit low, row-one digit low)
        (interleaved-child (MAX_HEIGHT - 1) row column digit 1 low (omega arith) right upper)

    two : digit < 4 ^ 2 → (column + 1) * 2 ^ 2 ≤ 2 ^ MAX_HEIGHT → (row + 1) * 2 ^ 2 ≤ 2 ^ MAX_HEIGHT
        → interleaved MAX_HEIGHT (2 ^ 2 * row + morton_row 2 digit) (2 ^ 2 * column + morton_column 2 digit)
        ≡ 4 ^ 2 * interleaved MAX_HEIGHT row column + digit
    two low right upper =
        let q : ℕ = digit / 4 in let r : ℕ = digit % 4 in
        let y : ℕ = 2 * row + q / 2 in let x : ℕ = 2 * column + q % 2 in
        let a : 4 * row + morton_row 2 digit ≡ 2 * y + r / 2 = omega (arith, row-two digit low) in
        let b : 4 * column + morton_column 2 digit ≡ 2 * x + r % 2 = omega (arith, column-two digit low) in
        let upper' : (row + 1) * 2 ^ 1 ≤ 2 ^ MAX_HEIGHT = omega arith in
        let right' : (column + 1) * 2 ^ 1 ≤ 2 ^ MAX_HEIGHT = omega arith in
        let first = interleaved-child (MAX_HEIGHT - 1) row column q 1 (omega arith) (omega arith) right' upper' in
        let second = interleaved-child (MAX_HEIGHT - 1) y x r 1 (omega arith) (omega arith) (omega arith) (omega arith) in
        rw (a, b) (second ∙ omega (arith, first))

-- what stands before a square fits a word
pub before_kept : (count width : ℕ) → (count + 1) * 2 ^ width ≤ 2 ^ MAX_HEIGHT
    → count * 2 ^ width % 2 ^ 32 ≡ 2 ^ width * count
before_kept count width all =
    let parts : (count + 1) * 2 ^ width ≡ 2 ^ width * count + 2 ^ width = grind arith in
    omega (arith, all, parts, mul_comm count (2 ^ width))

-- a part of a stretch lies in it
stretch_inside : (base : ℤ) (a b count part : ℕ) → 0 < b → part < a
    → ((base +ℤ pos (count * (a * b))) ≤ℤ (base +ℤ pos ((a * count + part) * b)))
    × ((base +ℤ pos ((a * count + part) * b) +ℤ pos (b - 1)) ≤ℤ (base +ℤ pos (count * (a * b)) +ℤ pos (a * b - 1)))
stretch_inside base a b count part some low =
    let before : (a * count + part) * b ≡ count * (a * b) + part * b = grind arith in
    let next : (part + 1) * b ≡ part * b + b = grind arith in
    let most : (part + 1) * b ≤ a * b = mul-le-mul_right b (omega arith) in
    rw before (omega (arith, ints), omega (arith, ints, next, most))

-- as do the columns and the rows of a child
part_inside : (base : ℤ) (width level count part : ℕ) → width ≤ level → part < 2 ^ width
    → ((base +ℤ pos (count * 2 ^ level)) ≤ℤ (base +ℤ pos ((2 ^ width * count + part) * 2 ^ (level - width))))
    × ((base +ℤ pos ((2 ^ width * count + part) * 2 ^ (level - width)) +ℤ pos (2 ^ (level - width) - 1))
    ≤ℤ (base +ℤ pos (count * 2 ^ level) +ℤ pos (2 ^ level - 1)))
part_inside base width level count part deep low =
    let e : width + (level - width) ≡ level = omega arith in
    let power : 2 ^ level ≡ 2 ^ width * 2 ^ (level - width) =
    ap (λ n. 2 ^ n) (sym e) ∙ pow-add 2 width (level - width) in
    rw power (stretch_inside base (2 ^ width) (2 ^ (level - width)) count part (pow_pos (level - width)) low)

-- so a child lies in its square
pub child_inside : (base : Cell) (row column digit width level : ℕ) → width ≤ level
    → (column + 1) * 2 ^ level ≤ 2 ^ MAX_HEIGHT → (row + 1) * 2 ^ level ≤ 2 ^ MAX_HEIGHT
    → IsBoxInside
    (area_at base (node (level - width) (interleaved MAX_HEIGHT
    (2 ^ width * row + morton_row width digit) (2 ^ width * column + morton_column width digit))))
    (area_at base (node level (interleaved MAX_HEIGHT row column)))
child_inside base row column digit width level deep right upper =
    let m : ℕ = MAX_HEIGHT in
    let left = morton_column-lt width digit in
    let low = morton_row-lt width digit in
    let x : ℕ = 2 ^ width * column + morton_column width digit in
    let y : ℕ = 2 ^ width * row + morton_row width digit in
    let right' = child-ends width level column (morton_column width digit) deep left right in
    let upper' = child-ends width level row (morton_row width digit) deep low upper in
    let old = ends_back m m row column (omega arith) (before-lt row level m upper) (before-lt column level m right) in
    let new = ends_back m m y x (omega arith) (before-lt y (level - width) m upper') (before-lt x (level - width) m right') in
    let across = part_inside base.x width level column (morton_column width digit) deep left in
    let along = part_inside base.y width level row (morton_row width digit) deep low in
    record {
      left = (rw (old.1, new.1) across.0);
      right = (rw (old.1, new.1) across.1);
      below = (rw (old.0, new.0) along.0);
      above = (rw (old.0, new.0) along.1);
    }
