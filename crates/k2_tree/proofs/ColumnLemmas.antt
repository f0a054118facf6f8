-- The row and the column of a Morton number by its lowest digits, and the column some digits at a time.
use Rattle.std.proofs.Common.{◌≡◌, ℕ, zero, suc, ◌+◌, ◌-◌, ◌*◌, ◌/◌, ◌%◌, ◌^◌, ◌<◌, ◌≤◌}
use Rattle.std.proofs.Common.{refl, sym, ap, subst, ◌∙◌, arith, lit<}
use Rattle.std.proofs.Math.Nat.{div-one, mod-lt, pow-suc, pow-le-pow_right}
use Rattle.std.proofs.Math.Pow.{mod-mod-pow}
use Rattle.std.proofs.lemmas.Nat.{field_of, pow_pos, shr-shr}
use Rattle.track_types.specs.declared.limit.TheConstants.{MAX_HEIGHT}
use Rattle.k2_tree.specs.Morton.{morton_column, morton_row}
use Rattle.k2_tree.proofs.MortonLemmas.{highest, morton_column-lt, two_bits}

-- only the lowest digits count
digits-mod : (m x : ℕ) → (morton_row m (x % 2 ^ (2 * m)) ≡ morton_row m x)
    × (morton_column m (x % 2 ^ (2 * m)) ≡ morton_column m x)
unfolding morton_row morton_column
digits-mod zero x = (refl, refl)
digits-mod (suc m) x =
    let count : 2 * suc m ≡ 2 * m + 2 = omega arith in
    let quarter : x % 2 ^ (2 * m + 2) / 4 ≡ x / 4 % 2 ^ (2 * m) = field_of x (2 * m) 2 in
    let low : x % 2 ^ (2 * m + 2) % 4 ≡ x % 4 = mod-mod-pow x (2 * m) 2 in
    let rest = digits-mod m (x / 4) in
    rw (count, quarter, low) (omega (arith, rest.0), omega (arith, rest.1))

-- so they are also those of the greatest grid
pub lowest_digits : (height code : ℕ) → height ≤ MAX_HEIGHT
    → (morton_row MAX_HEIGHT (code % 2 ^ (2 * height)) ≡ morton_row height code)
    × (morton_column MAX_HEIGHT (code % 2 ^ (2 * height)) ≡ morton_column height code)
lowest_digits height code low =
    let digits : ℕ = code % 2 ^ (2 * height) in
    let small : digits < 4 ^ height =
    subst (λ limit. digits < limit) (two_bits height) (mod-lt code (pow_pos (2 * height))) in
    let most = highest height digits low small in
    let same = digits-mod height code in
    (most.0 ∙ same.0, most.1 ∙ same.1)

-- the m lowest digits and those above
column-split : (m n x : ℕ) → morton_column (m + n) x ≡ 2 ^ m * morton_column n (x / 2 ^ (2 * m)) + morton_column m x
unfolding morton_column
column-split zero n x = let none : 0 + n ≡ n = omega arith in rw (none, div-one x) (omega arith)
column-split (suc m) n x =
    let next : suc m + n ≡ suc (m + n) = omega arith in
    let count : 2 + 2 * m ≡ 2 * suc m = omega arith in
    let past : x / 4 / 2 ^ (2 * m) ≡ x / 2 ^ (2 * suc m) = shr-shr x 2 (2 * m) ∙ ap (λ k. x / 2 ^ k) count in
    let rest = rw past at (column-split m n (x / 4)) in
    rw (next, pow-suc 2 m) (omega (arith, rest))

-- eight digits more
pub column-part : (part code column : ℕ) → 0 < part → part ≤ 3
    → column ≡ morton_column (8 * (3 - part)) (code / 2 ^ (16 * part))
    → 256 * column + morton_column 8 (code / 2 ^ (16 * (part - 1)) % 65536)
    ≡ morton_column (8 * (3 - (part - 1))) (code / 2 ^ (16 * (part - 1)))
column-part part code column some within is =
    let n = 8 * (3 - part) in
    let x = code / 2 ^ (16 * (part - 1)) in
    let count : 8 * (3 - (part - 1)) ≡ 8 + n = omega arith in
    let next : 16 * (part - 1) + 16 ≡ 16 * part = omega arith in
    let past : x / 2 ^ 16 ≡ code / 2 ^ (16 * part) = shr-shr code (16 * (part - 1)) 16 ∙ ap (λ k. code / 2 ^ k) next in
    let split = rw (past, ← is) at (column-split 8 n x) in
    ap (λ low. 256 * column + low) (digits-mod 8 x).1 ∙ sym split ∙ ap (λ m. morton_column m x) (sym count)

-- the column so far is small
pub column-few : (part code column : ℕ) → 0 < part → column ≡ morton_column (8 * (3 - part)) (code / 2 ^ (16 * part))
    → column < 2 ^ 16
column-few part code column some is =
    let most : 2 ^ (8 * (3 - part)) ≤ 2 ^ 16 =
    pow-le-pow_right {n = 2} (lit< tt) {i = 8 * (3 - part)} {j = 16} (omega arith) in
    omega (arith, is, morton_column-lt (8 * (3 - part)) (code / 2 ^ (16 * part)), most)
