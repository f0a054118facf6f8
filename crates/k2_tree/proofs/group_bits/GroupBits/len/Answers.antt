use Rattle.std.proofs.Common.{◌≡◌, ◌+◌, ◌*◌, length, ap, arith}
use Rattle.k2_tree.proofs.GroupBitsLemmas.{length-groups}
use Rattle.k2_tree.proofs.group_bits.GroupBits.len.Goals as goal
use Rattle.k2_tree.proofs.group_bits.GroupBits.len.Goals.{After-len}

counted : (c : After-len) → length c.args.self.now ≡ 64 * c.len.result + c.self.inside.filled
counted c =
    let inside = c.self.inside in
    let many = length-groups inside.words.items inside.filled inside.last in
    omega (arith, ap length c.self.view_is, many, c.len.ensures)

pub overflow_cast-result : goal.overflow_cast-result
overflow_cast-result c = omega (arith, counted c, c.requires)

pub overflow_mul-result : goal.overflow_mul-result
overflow_mul-result c = omega (arith, counted c, c.requires)

pub overflow_add-result : goal.overflow_add-result
overflow_add-result c = omega (arith, counted c, c.requires)

pub returns : goal.returns
returns c = omega (arith, counted c)
