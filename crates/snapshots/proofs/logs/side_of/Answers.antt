use Rattle.std.proofs.Common.{arith, ◌^◌, ◌≤◌}
use Rattle.std.proofs.Math.Nat.{pow-le-pow_right}
use Rattle.std.proofs.lemmas.Int.{ints}
use Rattle.track_types.specs.declared.limit.TheConstants.{MAX_HEIGHT}
use Rattle.snapshots.proofs.logs.side_of.Goals as goal

pub returns-clause-within : goal.returns-clause-within
returns-clause-within c =
    let low : 2 ^ c.args.frame.now.height ≤ 2 ^ MAX_HEIGHT = pow-le-pow_right (omega arith) c.requires.limit in
    omega (arith, ints, low)
