use Rattle.std.proofs.Common.{◌≤◌, length, refl, ◌∙◌, arith}
use Rattle.std.proofs.lemmas.Nat.{one_shl}
use Rattle.std.proofs.lemmas.Bool.Decides.{nat_tests}
use Rattle.bit_stream.specs.Numbers.{low_in}
use Rattle.bit_stream.proofs.ReaderLemmas.{low_in-window}
use Rattle.bit_stream.proofs.reader.BitReader.low.Goals as goal

pub returns-then-not-has-clause-exact : goal.returns-then-not-has-clause-exact
unfolding low_in
returns-then-not-has-clause-exact c = grind (arith, nat_tests, c.has.ensures)

pub returns-clause-exact : goal.returns-clause-exact
returns-clause-exact c =
    let width = c.args.width in
    let there : width ≤ length c.args.self.now = grind (arith, nat_tests, c.has.ensures) in
    let one = one_shl width 64 (omega (arith, c.requires)) in
    low_in-window c.window.result c.args.self.now c.window.ensures width c.requires there
    ∙ rw (one, c.skip.ensures) refl
