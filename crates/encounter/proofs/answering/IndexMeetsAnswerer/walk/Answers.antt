use Rattle.std.proofs.Common.{◌≡◌, to_z, of_z, w64, arith}
use Rattle.std.proofs.lemmas.Int.{ints}
use Rattle.encounter.proofs.answering.IndexMeetsAnswerer.walk.Goals as goal

pub returns-clause-needs : goal.returns-clause-needs
returns-clause-needs c =
    let low : to_z w64 (of_z w64 c.args.from) ≡ c.args.from = omega (arith, ints) in
    let high : to_z w64 (of_z w64 c.args.to) ≡ c.args.to = omega (arith, ints) in
    rw (low, high) at c.walk.ensures.needs
