use Rattle.std.proofs.Common.{◌≡◌, ◌+◌, ◌/◌, nat_le, length, ap, ◌∙◌, arith}
use Rattle.std.proofs.lemmas.Grind.{common_steps}
use Rattle.bit_stream.proofs.ReaderLemmas.{has-left}
use Rattle.bit_stream.proofs.reader.BitReader.has.Goals as goal

pub returns-else-is_long : goal.returns-else-is_long
returns-else-is_long c =
    let bytes = c.self.inside.bytes.now in
    let count : c.div_ceil.result ≡ (c.self.inside.used + c.args.count + 7) / 8 = grind (arith, common_steps) in
    ap (λ n. nat_le n (length bytes)) count ∙ has-left c.self.inside.used bytes c.self.invariant c.args.count
    ∙ ap (λ bits. nat_le c.args.count (length bits)) c.self.view_is
