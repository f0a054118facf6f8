use Rattle.std.proofs.Common.{◌*◌, ◌/◌, ◌%◌, ◌^◌, ◌<◌, ap, ◌∙◌, arith}
use Rattle.std.proofs.Math.Nat.{mod-lt}
use Rattle.std.proofs.lemmas.Nat.{one_shl}
use Rattle.k2_tree.proofs.MortonLemmas.{two_bits}
use Rattle.k2_tree.proofs.building.child_bit.Goals as goal

pub returns : goal.returns
returns c =
    let digits = c.args.code / 4 ^ c.args.level in
    let small : digits % c.args.fan < c.args.fan = mod-lt digits c.requires.some in
    ap (λ fan. 1 * 2 ^ (c.args.code / 2 ^ (2 * c.args.level) % fan) % 2 ^ 64) c.from.ensures
    ∙ ap (λ power. 1 * 2 ^ (c.args.code / power % c.args.fan) % 2 ^ 64) (two_bits c.args.level)
    ∙ one_shl (digits % c.args.fan) 64 (omega (arith, small, c.requires.few))
