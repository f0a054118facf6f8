use Rattle.std.proofs.Common.{rules}
use Rattle.gridding.proofs.DivisorLemmas.{IsFloor-exact}
use Rattle.gridding.proofs.divisor.Divisor.floor.Goals as goal

pub returns-then-negative-2-clause-law : goal.returns-then-negative-2-clause-law
returns-then-negative-2-clause-law c =
    IsFloor-exact c.args.number c.args.self.value _ c.args.self.resolution.some (search rules)

pub returns-else-negative-2-clause-law : goal.returns-else-negative-2-clause-law
returns-else-negative-2-clause-law c =
    IsFloor-exact c.args.number c.args.self.value _ c.args.self.resolution.some (search rules)
