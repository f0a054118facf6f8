use Rattle.std.proofs.Common.{◌≡◌, ℕ, ◌*◌, ◌%◌, ◌-◌, ◌^◌, ◌≤◌, ℤ, pos, ◌+ℤ◌, ◌-ℤ◌, w64, to_z, of_z, arith, subst, sym}
use Rattle.std.proofs.Math.Nat.{pow-le-pow_right}
use Rattle.std.proofs.lemmas.Int.{ints}
use Rattle.track_types.proofs.BoxLemmas.{same_box}
use Rattle.track_types.specs.Frame.{IsFrame}
use Rattle.track_types.specs.Near.{IsBoxWithin, IsNear, IsWithin}
use Rattle.track_types.specs.declared.frame.Frame.{Frame}
use Rattle.track_types.specs.declared.limit.TheConstants.{MAX_HEIGHT}
use Rattle.track_types.specs.Frame.{grid_of}
use Rattle.track_types.proofs.frame.Frame.grid.Goals as goal

-- the greatest coordinate as the code counts it, by the grid's side
abbrev last_of : ℤ → ℕ → ℤ
last_of base side = to_z w64 (of_z w64 (to_z w64 (of_z w64 base)
    +ℤ to_z w64 (of_z w64 (to_z w64 (1 * side % 18446744073709551616) -ℤ pos 1))))

last-is : (base : ℤ) (side : ℕ) → IsNear base → 2 ≤ side → side ≤ 2 ^ MAX_HEIGHT
    → last_of base side ≡ base +ℤ pos (side - 1)
last-is base side near some limit = omega (arith, ints, near.low, near.high)

first-is : (base : ℤ) → IsNear base → to_z w64 (of_z w64 base) ≡ base
first-is base near = omega (arith, ints, near.low, near.high)

-- the bounds of an axis are within
axis-within : (base : ℤ) (side : ℕ) → IsNear base → side ≤ 2 ^ MAX_HEIGHT → IsWithin base × IsWithin (base +ℤ pos (side - 1))
axis-within base side near limit = (
  record { low = omega (arith, ints, near.low); high = omega (arith, ints, near.high) },
  record { low = omega (arith, ints, near.low); high = omega (arith, ints, near.high) },
)

grid-within : (frame : Frame) → IsFrame frame → IsBoxWithin (grid_of frame)
grid-within frame is =
    let limit : 2 ^ frame.height ≤ 2 ^ MAX_HEIGHT = pow-le-pow_right (omega arith) is.limit in
    let columns = axis-within frame.base.x (2 ^ frame.height) is.columns limit in
    let lines = axis-within frame.base.y (2 ^ frame.height) is.lines limit in
    record { x1 = columns.0; y1 = lines.0; x2 = columns.1; y2 = lines.1 }

pub returns-clause-value : goal.returns-clause-value
returns-clause-value c =
    let frame = c.args.self.now in
    let is = c.requires in
    let some : 2 ^ 1 ≤ 2 ^ frame.height = pow-le-pow_right (omega arith) is.some in
    let limit : 2 ^ frame.height ≤ 2 ^ MAX_HEIGHT = pow-le-pow_right (omega arith) is.limit in
    same_box _ _ (first-is frame.base.x is.columns) (first-is frame.base.y is.lines)
    (last-is frame.base.x (2 ^ frame.height) is.columns some limit)
    (last-is frame.base.y (2 ^ frame.height) is.lines some limit)

pub returns-clause-within : goal.returns-clause-within
returns-clause-within c = subst IsBoxWithin (sym (returns-clause-value c)) (grid-within c.args.self.now c.requires)
