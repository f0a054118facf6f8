use Rattle.std.proofs.Common.{ap, ◌∙◌}
use Rattle.packed_bits.specs.Bits.{window_of}
use Rattle.bit_stream.proofs.ReaderLemmas.{window-left}
use Rattle.bit_stream.proofs.reader.BitReader.window.Goals as goal

pub returns : goal.returns
returns c = λ n narrow.
    window-left c.self.inside.used n c.first_word.result c.self.inside.bytes.now c.self.invariant.within narrow c.first_word.ensures
    ∙ ap (λ bits. window_of bits 0 n) c.self.view_is
