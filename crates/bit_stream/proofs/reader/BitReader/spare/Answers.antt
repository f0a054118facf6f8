use Rattle.std.proofs.Common.{◌%◌, ltb, length, take, ap, ◌∙◌}
use Rattle.packed_bits.specs.Bits.{ones_of}
use Rattle.bit_stream.proofs.reader.BitReader.spare.Goals as goal

pub returns : goal.returns
returns c = c.has_spare.ensures ∙ ap (λ bits. ltb 0 (ones_of (take (length bits % 8) bits))) c.self.view_is
