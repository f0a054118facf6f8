use Rattle.std.proofs.Common.{◌≡◌, ℕ, ◌+◌, ◌*◌, ◌/◌, ◌%◌, ◌<◌, arith, refl, w64, to_z, of_z}
use Rattle.std.specs.Prelude.{ℤ, pos, ◌+ℤ◌}
use Rattle.std.proofs.lemmas.Int.{ints, to_z-of_z, fits_signed_from_abs}
use Rattle.track_types.specs.Near.{IsWithin}
use Rattle.gridding.proofs.RecountingLemmas.{within_word}
use Rattle.gridding.specs.Origin.{IsOneOf, IsOrigin}
use Rattle.gridding.specs.PackedPlace.{packed_cell, elapsed_of}
use Rattle.gridding.specs.declared.packed_place.TheConstants.{CELLS, INSTANTS}
use Rattle.gridding.proofs.packed_place.Origin.place.Goals as goal

-- the three numbers are read from their sum as they were
module _ (instant x y : ℕ) (x_short : x < CELLS) (y_short : y < CELLS) where
  abbrev bits : ℕ
  bits = (instant * CELLS + x) * CELLS + y

  first : bits / (CELLS * CELLS) ≡ instant
  first = omega (arith, x_short, y_short)

  second : bits / CELLS % CELLS ≡ x
  second = omega (arith, x_short, y_short)

  third : bits % CELLS ≡ y
  third = omega (arith, y_short)

-- a number of an origin fits a word
origin_word : (z : ℤ) → IsOrigin z → to_z w64 (of_z w64 z) ≡ z
origin_word z near = to_z-of_z w64 z (fits_signed_from_abs w64 z (omega (arith, ints, near.0, near.1)))

-- a number that is not found among so many as words is none of them
not_counted : (least : ℤ) (count : ℕ) (number : ℤ) → IsOrigin least → IsWithin number →
    (IsOneOf (to_z w64 (of_z w64 least)) count (to_z w64 (of_z w64 number)) → ⊥) → IsOneOf least count number → ⊥
not_counted least count number origin within none counted = none (rw (origin_word least origin, within_word number within) counted)

-- one that is found among so many is one of them
found : {least : ℤ} {count offset : ℕ} {number : ℤ} → (offset < count) × ((least +ℤ pos offset) ≡ number) →
    IsOneOf least count number
found (below, is) = (omega (arith, ints, is), omega (arith, ints, below, is))

pub returns-in_err-instant-clause-none : goal.returns-in_err-instant-clause-none
returns-in_err-instant-clause-none c =
    rw c.from_residual.ensures (λ within.
    not_counted c.args.self.instant INSTANTS c.args.row.instant c.args.self.instant_near c.requires.instant
    c.in_err-instant.ensures.none within.instant)

pub returns-in_err-x-clause-none : goal.returns-in_err-x-clause-none
returns-in_err-x-clause-none c =
    rw c.from_residual-in_err-x.ensures (λ within.
    not_counted c.args.self.cell.x CELLS c.args.row.cell.x c.args.self.x_near c.requires.x c.in_err-x.ensures.none within.x)

pub returns-in_err-y-clause-none : goal.returns-in_err-y-clause-none
returns-in_err-y-clause-none c =
    rw c.from_residual-in_err-y.ensures (λ within.
    not_counted c.args.self.cell.y CELLS c.args.row.cell.y c.args.self.y_near c.requires.y c.in_err-y.ensures.none within.y)

pub returns-clause-some : goal.returns-clause-some
unfolding elapsed_of packed_cell
returns-clause-some c =
    let t = c.in_ok-instant.instant in
    let x = c.in_ok-x.x in
    let y = c.in_ok-y.y in
    let origin = c.args.self in
    let t_is = rw (origin_word origin.instant origin.instant_near, within_word c.args.row.instant c.requires.instant) at c.in_ok-instant.ensures.some in
    let x_is = rw (origin_word origin.cell.x origin.x_near, within_word c.args.row.cell.x c.requires.x) at c.in_ok-x.ensures.some in
    let y_is = rw (origin_word origin.cell.y origin.y_near, within_word c.args.row.cell.y c.requires.y) at c.in_ok-y.ensures.some in
    rw (first t x y x_is.0 y_is.0, second t x y x_is.0 y_is.0, third t x y x_is.0 y_is.0, t_is.1, x_is.1, y_is.1) refl

pub returns-clause-near : goal.returns-clause-near
returns-clause-near c =
    let origin = c.args.self in
    let t_is = rw (origin_word origin.instant origin.instant_near, within_word c.args.row.instant c.requires.instant) at c.in_ok-instant.ensures.some in
    let x_is = rw (origin_word origin.cell.x origin.x_near, within_word c.args.row.cell.x c.requires.x) at c.in_ok-x.ensures.some in
    let y_is = rw (origin_word origin.cell.y origin.y_near, within_word c.args.row.cell.y c.requires.y) at c.in_ok-y.ensures.some in
    record { instant = found t_is; x = found x_is; y = found y_is }
