use Rattle.std.proofs.Common.{◌*◌, arith}
use Rattle.index_format.proofs.BitLemmas.{IsBytes}
use Rattle.index_format.proofs.Laws.{bits_at-takes}
use Rattle.index_format.proofs.log.log_of.Goals as goal

pub unpacked-requires-clause-long : goal.unpacked-requires-clause-long
unpacked-requires-clause-long c =
    let fits : IsBytes c.args.bytes.now = λ i. omega (arith, c.type_inv.bytes i) in
    let taken = bits_at-takes c.of-place.result.section c.of-place.result.period
    (c.width_for-width.result * c.args.header.symbols) c.args.bytes.now fits in
    (rw c.in_ok-bits.ensures at taken).1
