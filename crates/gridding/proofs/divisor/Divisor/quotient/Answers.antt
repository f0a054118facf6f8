use Rattle.std.proofs.Common.{◌+◌, ◌*◌, ◌^◌, ◌<◌, arith}
use Rattle.std.proofs.lemmas.Nat.{mul-lt}
use Rattle.gridding.proofs.DivisorLemmas.{div-by_reciprocal}
use Rattle.gridding.proofs.divisor.Divisor.quotient.Goals as goal

pub returns : goal.returns
returns c =
    let n = c.args.number in
    let d = c.args.self.value in
    let resolution = c.args.self.resolution in
    let near : n < 2 ^ 40 + 1 = omega (arith, c.requires) in
    let narrow : d < 2 ^ 30 + 1 = omega (arith, resolution.limit) in
    let small : n * d < 2 ^ 71 = omega (arith, mul-lt n d (2 ^ 40 + 1) (2 ^ 30 + 1) near narrow) in
    rw (c.from.ensures, c.args.self.above) (div-by_reciprocal n d (2 ^ 71) resolution.some small)
