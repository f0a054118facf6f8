use Rattle.std.proofs.Common.{◌≡◌, true, [], ◌∷◌, ◌∙◌, arith}
use Rattle.std.proofs.lemmas.Bool.Decides.{nat_tests}
use Rattle.std.specs.List.{list_all}
use Rattle.track_types.specs.Numeral.{is_digit}
use Rattle.track_types.proofs.DigitWords.{test_of_two, value_of_two}
use Rattle.track_types.proofs.numeral.two_digits.Goals as goal

pub returns-then-word-ne12336-clause-none : goal.returns-then-word-ne12336-clause-none
returns-then-word-ne12336-clause-none c =
    let same = c.from-word.ensures ∙ c.from_le_bytes.ensures in
    let test = test_of_two c.args.tens c.args.ones c.from-word.result same c.ranges.tens.fits c.ranges.ones.fits in
    grind (arith, nat_tests, test, c.if-word-ne12336.true)

pub returns-clause-digits : goal.returns-clause-digits
returns-clause-digits c =
    let same = c.from-word.ensures ∙ c.from_le_bytes.ensures in
    let test = test_of_two c.args.tens c.args.ones c.from-word.result same c.ranges.tens.fits c.ranges.ones.fits in
    let are : list_all is_digit (c.args.tens ∷ c.args.ones ∷ []) ≡ true =
    grind (arith, nat_tests, test, c.if-word-ne12336.false) in
    (are, value_of_two c.args.tens c.args.ones c.from-word.result same are)
