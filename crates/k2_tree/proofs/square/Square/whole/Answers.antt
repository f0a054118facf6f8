use Rattle.std.proofs.Common.{refl, lit<, arith, ◌≤◌, ◌^◌}
use Rattle.std.proofs.Math.Nat.{pow-le-pow_right}
use Rattle.track_types.specs.declared.limit.TheConstants.{MAX_HEIGHT}
use Rattle.k2_tree.specs.Morton.{interleaved}
use Rattle.k2_tree.proofs.square.Square.whole.Goals as goal

pub invariant_of-result : goal.invariant_of-result
invariant_of-result c =
    let most : 2 ^ c.args.height ≤ 2 ^ MAX_HEIGHT = pow-le-pow_right {n = 2} (lit< tt) c.requires.limit in
    record {
      low = c.requires.limit;
      right = omega (arith, most);
      upper = omega (arith, most);
      near = record {
        left = c.requires.left;
        right = c.requires.right;
        below = c.requires.below;
        above = c.requires.above;
      };
    }

pub returns-clause-node : goal.returns-clause-node
unfolding interleaved
returns-clause-node c = refl
