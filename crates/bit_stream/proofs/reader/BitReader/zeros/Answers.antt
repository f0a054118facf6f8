use Rattle.std.proofs.Common.{◌≡◌, suc, ◌+◌, drop, Ok, sym, ap, ◌∙◌, arith}
use Rattle.std.proofs.lemmas.Bool.Decides.{nat_tests}
use Rattle.std.specs.Int.{w64, trailing_zeros}
use Rattle.bit_stream.proofs.ReaderLemmas.{none-shown, one-there, zeros_in-shown, zeros_in-short, zeros_in-large}
use Rattle.bit_stream.proofs.reader.BitReader.zeros.Goals as goal

pub returns-then-has-clause-exact : goal.returns-then-has-clause-exact
returns-then-has-clause-exact c =
    let bits = c.args.self.now in
    let none = none-shown c.window-zeros.result bits c.window-zeros.ensures c.if-zeros-gt-MAX_ZEROS.true c.window-zeros.type_inv in
    zeros_in-large 5 bits none (grind (arith, nat_tests, c.if-has.ensures))

pub returns-else-has-clause-exact : goal.returns-else-has-clause-exact
returns-else-has-clause-exact c =
    let bits = c.args.self.now in
    let none = none-shown c.window-zeros.result bits c.window-zeros.ensures c.if-zeros-gt-MAX_ZEROS.true c.window-zeros.type_inv in
    zeros_in-short 5 bits none (grind (arith, nat_tests, c.if-has.ensures))

pub skip-requires-clause-there : goal.skip-requires-clause-there
skip-requires-clause-there c =
    one-there c.window-zeros.result c.args.self.now c.window-zeros.ensures c.if-zeros-gt-MAX_ZEROS.false c.window-zeros.type_inv

pub returns-clause-exact : goal.returns-clause-exact
returns-clause-exact c =
    let z = trailing_zeros w64 c.window-zeros.result in
    let next : suc z ≡ z + 1 = omega arith in
    zeros_in-shown c.window-zeros.result c.args.self.now c.window-zeros.ensures c.if-zeros-gt-MAX_ZEROS.false c.window-zeros.type_inv
    ∙ ap (λ n. Ok (z, drop n c.args.self.now)) next ∙ ap (λ bits. Ok (z, bits)) (sym c.skip.ensures)
