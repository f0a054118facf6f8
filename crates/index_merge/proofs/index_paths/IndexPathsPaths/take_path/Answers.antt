use Rattle.std.proofs.Common.{arith}
use Rattle.index_merge.proofs.index_paths.IndexPathsPaths.take_path.Goals as goal

pub returns-clause-fewer : goal.returns-clause-fewer
returns-clause-fewer c = omega (arith, c.in_ok-walk.ensures.within)
