use Rattle.std.proofs.Common.{◌≤◌, length, ap, arith}
use Rattle.std.proofs.lemmas.Bool.Decides.{nat_tests}
use Rattle.bit_stream.proofs.ReaderLemmas.{length-left}
use Rattle.bit_stream.proofs.reader.BitReader.is_long.Goals as goal

pub returns : goal.returns
returns c = λ long.
    let many : 8 ≤ length c.self.inside.bytes.now = grind (arith, nat_tests, long) in
    omega (
      arith,
      many,
      length-left c.self.inside.used c.self.inside.bytes.now c.self.invariant,
      c.self.invariant.within,
      ap length c.self.view_is,
    )
