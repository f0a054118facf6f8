use Rattle.std.proofs.Common.{length, ap, arith}
use Rattle.k2_tree.proofs.GroupBitsLemmas.{length-groups}
use Rattle.k2_tree.proofs.group_bits.GroupBits.into_list.Goals as goal

pub listed-requires-clause-few : goal.listed-requires-clause-few
listed-requires-clause-few c =
    let inside = c.self.inside in
    omega (arith, ap length c.self.view_is, length-groups inside.words.items inside.filled inside.last, c.requires)
