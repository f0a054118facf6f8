use Rattle.std.proofs.Common.{◌≡◌, true, [], ◌∷◌, ◌∙◌, arith}
use Rattle.std.proofs.lemmas.Bool.Decides.{nat_tests}
use Rattle.std.specs.List.{list_all}
use Rattle.track_types.specs.Numeral.{is_digit}
use Rattle.track_types.proofs.DigitWords.{test_of_four, value_of_four}
use Rattle.track_types.proofs.numeral.four_digits.Goals as goal

pub returns-then-word-ne808464432-clause-none : goal.returns-then-word-ne808464432-clause-none
returns-then-word-ne808464432-clause-none c =
    let same = c.from-word.ensures ∙ c.from_le_bytes.ensures in
    let test = test_of_four c.args.thousands c.args.hundreds c.args.tens c.args.ones c.from-word.result same
    c.ranges.thousands.fits c.ranges.hundreds.fits c.ranges.tens.fits c.ranges.ones.fits in
    grind (arith, nat_tests, test, c.if-word-ne808464432.true)

pub returns-clause-digits : goal.returns-clause-digits
returns-clause-digits c =
    let same = c.from-word.ensures ∙ c.from_le_bytes.ensures in
    let test = test_of_four c.args.thousands c.args.hundreds c.args.tens c.args.ones c.from-word.result same
    c.ranges.thousands.fits c.ranges.hundreds.fits c.ranges.tens.fits c.ranges.ones.fits in
    let are : list_all is_digit (c.args.thousands ∷ c.args.hundreds ∷ c.args.tens ∷ c.args.ones ∷ []) ≡ true = grind (arith, nat_tests, test, c.if-word-ne808464432.false) in
    (are, value_of_four c.args.thousands c.args.hundreds c.args.tens c.args.ones c.from-word.result same are)
