use Rattle.std.proofs.Common.{◌++◌, ap, ◌∙◌, append-nil}
use Rattle.bit_stream.specs.Bytes.{bits_in}
use Rattle.bit_stream.proofs.WriterLemmas.{no_low_bits}
use Rattle.bit_stream.proofs.writer.BitWriter.after.Goals as goal

pub returns : goal.returns
returns c =
    let bits = bits_in c.args.bytes.items in
    ap (λ rest. bits ++ rest) (no_low_bits 0) ∙ append-nil bits
