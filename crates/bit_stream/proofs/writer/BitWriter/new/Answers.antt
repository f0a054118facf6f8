use Rattle.std.proofs.Common.{refl, ap, ◌∙◌}
use Rattle.bit_stream.specs.Bytes.{bits_in}
use Rattle.bit_stream.proofs.writer.BitWriter.new.Goals as goal

pub returns : goal.returns
unfolding bits_in
returns c = c.after.ensures ∙ ap bits_in c.new.ensures.items ∙ refl
