use Rattle.std.proofs.Common.{arith, subst, sym}
use Rattle.std.proofs.lemmas.Int.{ints}
use Rattle.track_types.specs.Frame.{IsFrame}
use Rattle.snapshots.specs.View.{view_with}
use Rattle.snapshots.specs.Flaws.{IsShapedView}
use Rattle.part_tests.specs.declared.period_blocks.TheConstants.{ONE_PERIOD, TWO_PERIODS}
use Rattle.part_tests.proofs.period_blocks.checked.Goals as goal

IsFrame-ONE_PERIOD : IsFrame ONE_PERIOD
IsFrame-ONE_PERIOD = record {
  known = omega arith;
  newest = omega arith;
  periods = record { some = omega arith; limit = omega arith };
  some = omega arith;
  limit = omega arith;
  low = omega arith;
  long = omega arith;
  short = omega arith;
  begins = omega (arith, ints);
  ends = omega (arith, ints);
  columns = record { low = omega (arith, ints); high = omega (arith, ints) };
  lines = record { low = omega (arith, ints); high = omega (arith, ints) };
  cells = record { some = omega arith; limit = omega arith };
  ticks = record { some = omega arith; limit = omega arith };
}

IsFrame-TWO_PERIODS : IsFrame TWO_PERIODS
IsFrame-TWO_PERIODS = record {
  known = omega arith;
  newest = omega arith;
  periods = record { some = omega arith; limit = omega arith };
  some = omega arith;
  limit = omega arith;
  low = omega arith;
  long = omega arith;
  short = omega arith;
  begins = omega (arith, ints);
  ends = omega (arith, ints);
  columns = record { low = omega (arith, ints); high = omega (arith, ints) };
  lines = record { low = omega (arith, ints); high = omega (arith, ints) };
  cells = record { some = omega arith; limit = omega arith };
  ticks = record { some = omega arith; limit = omega arith };
}

pub check-requires : goal.check-requires
check-requires c =
    subst (λ n. IsShapedView (view_with TWO_PERIODS 1 n 5 c.in_ok-parts.parts)) (sym c.len-objects.ensures)
    (c.have_shape.ensures c.if-not-have_shape.false TWO_PERIODS 1 5 IsFrame-TWO_PERIODS (omega arith) (omega arith))

pub check-requires-else-is_second : goal.check-requires-else-is_second
check-requires-else-is_second c =
    subst (λ n. IsShapedView (view_with ONE_PERIOD 0 n 0 c.in_ok-parts.parts)) (sym c.len-objects.ensures)
    (c.have_shape.ensures c.if-not-have_shape.false ONE_PERIOD 0 0 IsFrame-ONE_PERIOD (omega arith) (omega arith))
