use Rattle.std.proofs.Common.{◌++◌, ap, ◌∙◌}
use Rattle.packed_bits.specs.Words.{bits_of, low_bits}
use Rattle.k2_tree.proofs.GroupBitsLemmas.{no_groups}
use Rattle.k2_tree.proofs.group_bits.GroupBits.new.Goals as goal

pub returns : goal.returns
returns c = ap (λ words. bits_of words ++ low_bits 0 0) c.new.ensures.items ∙ no_groups 0
