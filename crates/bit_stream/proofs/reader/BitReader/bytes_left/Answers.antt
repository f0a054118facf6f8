use Rattle.std.proofs.Common.{length, ap, arith}
use Rattle.bit_stream.proofs.ReaderLemmas.{length-left}
use Rattle.bit_stream.proofs.reader.BitReader.bytes_left.Goals as goal

pub returns-then-self-gt0 : goal.returns-then-self-gt0
returns-then-self-gt0 c =
    let long = length-left c.self.inside.used c.self.inside.bytes.now c.self.invariant in
    omega (arith, long, c.self.invariant.within, ap length c.self.view_is, c.if-self-gt0.true)

pub returns-else-self-gt0 : goal.returns-else-self-gt0
returns-else-self-gt0 c =
    let long = length-left c.self.inside.used c.self.inside.bytes.now c.self.invariant in
    omega (arith, long, ap length c.self.view_is, c.if-self-gt0.false)
