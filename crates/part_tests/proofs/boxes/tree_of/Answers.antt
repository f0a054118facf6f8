use Rattle.std.proofs.Common.{◌^◌, ◌<◌, ◌≤◌, All, arith, lit<, subst, sym}
use Rattle.std.proofs.Math.Nat.{pow-le-pow_right}
use Rattle.std.proofs.lemmas.List.Elements.{All-weaker}
use Rattle.track_types.specs.declared.limit.TheConstants.{MAX_HEIGHT}
use Rattle.k2_tree.specs.TreeBits.{code_limit}
use Rattle.part_tests.proofs.MadeLemmas.{levels-few}
use Rattle.part_tests.proofs.boxes.tree_of.Goals as goal

pub build-requires-clause-places : goal.build-requires-clause-places
build-requires-clause-places c =
    let most : 4 ^ c.args.digits ≤ 4 ^ MAX_HEIGHT = pow-le-pow_right (lit< tt) c.requires.levels.few in
    record {
      ascend = c.requires.ascend;
      same = omega arith;
      small = All-weaker (λ code. code < 4 ^ c.args.digits) (λ code. code < code_limit) (λ code low. omega (arith, low, most))
          c.args.codes.now c.requires.inside;
      inside = subst (λ n. All (λ code. code < 4 ^ n) c.args.codes.now) (sym c.requires.levels.digits_are) c.requires.inside;
      narrow = levels-few c.args.narrow c.args.height;
    }
