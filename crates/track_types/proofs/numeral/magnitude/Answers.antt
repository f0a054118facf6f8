use Rattle.std.proofs.Common.{◌+◌, arith}
use Rattle.track_types.proofs.Magnitudes.{magnitude_of-take, magnitude_of_before}
use Rattle.track_types.proofs.numeral.magnitude.Goals as goal

pub returns-then-value-gt-GREATEST-clause-large : goal.returns-then-value-gt-GREATEST-clause-large
returns-then-value-gt-GREATEST-clause-large c =
    let next = magnitude_of-take c.args.digits.now c.loop-digit.digit-index c.loop-digit-test.true in
    let within = magnitude_of_before c.args.digits.now (c.loop-digit.digit-index + 1) in
    omega arith

pub loop-digit-preserved : goal.loop-digit-preserved
loop-digit-preserved c =
    let next = magnitude_of-take c.args.digits.now c.loop-digit.digit-index c.loop-digit-test.true in
    record { within = c.if-value-gt-GREATEST.false; so_far = omega arith }
