use Rattle.std.proofs.Common.{◌≡◌, ◌+◌, ◌*◌, ◌%◌, ◌^◌, ◌<◌, sym, ap, ◌∙◌, arith, pow-add}
use Rattle.std.proofs.lemmas.Nat.{mul-pow}
use Rattle.std.proofs.Math.Nat.{mod-eq_of_lt}
use Rattle.box_tree.proofs.building.bound_of.Goals as goal

pub returns : goal.returns
returns c =
    let two : 2 * c.args.level ≡ c.args.level + c.args.level = omega arith in
    let same : 2 ^ (2 * c.args.level) ≡ 4 ^ c.args.level =
    ap (λ n. 2 ^ n) two ∙ pow-add 2 c.args.level c.args.level ∙ sym (mul-pow 2 2 c.args.level) in
    let small : c.args.prefix * 4 ^ c.args.level < 2 ^ 64 = omega (arith, c.requires.small) in
    ap (λ k. c.args.prefix * k % 2 ^ 64) same ∙ mod-eq_of_lt small
