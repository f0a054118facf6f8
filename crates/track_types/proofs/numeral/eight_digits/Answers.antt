use Rattle.std.proofs.Common.{◌≡◌, true, [], ◌∷◌, arith}
use Rattle.std.proofs.lemmas.Bool.Decides.{nat_tests}
use Rattle.std.specs.List.{list_all}
use Rattle.track_types.specs.Numeral.{is_digit}
use Rattle.track_types.proofs.DigitWords.{test_of_eight, value_of_eight}
use Rattle.track_types.proofs.numeral.eight_digits.Goals as goal

pub returns-then-marks-ne3472328296227680304-clause-none : goal.returns-then-marks-ne3472328296227680304-clause-none
returns-then-marks-ne3472328296227680304-clause-none c =
    let in_range = c.ranges in
    let test = test_of_eight c.args.a c.args.b c.args.c c.args.d c.args.e c.args.f c.args.g c.args.h
    c.from_le_bytes-word.result c.from_le_bytes-word.ensures
    in_range.a.fits in_range.b.fits in_range.c.fits in_range.d.fits in_range.e.fits in_range.f.fits in_range.g.fits
    in_range.h.fits in
    grind (arith, nat_tests, test, c.if-marks-ne3472328296227680304.true)

pub returns-clause-digits : goal.returns-clause-digits
returns-clause-digits c =
    let in_range = c.ranges in
    let test = test_of_eight c.args.a c.args.b c.args.c c.args.d c.args.e c.args.f c.args.g c.args.h
    c.from_le_bytes-word.result c.from_le_bytes-word.ensures
    in_range.a.fits in_range.b.fits in_range.c.fits in_range.d.fits in_range.e.fits in_range.f.fits in_range.g.fits
    in_range.h.fits in
    let are : list_all is_digit (c.args.a ∷ c.args.b ∷ c.args.c ∷ c.args.d
    ∷ c.args.e ∷ c.args.f ∷ c.args.g ∷ c.args.h ∷ []) ≡ true =
    grind (arith, nat_tests, test, c.if-marks-ne3472328296227680304.false) in (
      are,
      value_of_eight c.args.a c.args.b c.args.c c.args.d c.args.e c.args.f c.args.g c.args.h
          c.from_le_bytes-word.result c.from_le_bytes-word.ensures are,
    )
