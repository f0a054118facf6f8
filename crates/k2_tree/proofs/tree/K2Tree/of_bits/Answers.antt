use Rattle.k2_tree.specs.Tree.{IsStoredTree}
use Rattle.k2_tree.proofs.CellLemmas.{StandsFor-stored}
use Rattle.k2_tree.proofs.FlawlessLemmas.{AreTreeBits-flawless}
use Rattle.k2_tree.proofs.UpperLemmas.{upper_is}
use Rattle.k2_tree.proofs.tree.K2Tree.of_bits.Goals as goal
use Rattle.k2_tree.proofs.tree.K2Tree.of_bits.Goals.{In-Ok}

stored : (c : In-Ok) → IsStoredTree c.args.height c.args.wide c.args.base c.args.bits c.upper_of-upper.result
stored c =
    let tree = AreTreeBits-flawless c.args.height c.args.wide c.args.bits c.requires.fits c.requires.few
    c.requires.flawless in
    record {
      grid = c.requires.grid;
      tree = tree;
      upper_is = upper_is c.args.height c.args.wide c.args.bits c.upper_of-upper.result tree
          c.upper_of-upper.ensures.none c.upper_of-upper.ensures.some;
    }

pub invariant_of-result : goal.invariant_of-result
invariant_of-result c = rw c.in-Ok.ensures.ok (stored (goal.at.invariant_of-result c).In-Ok)

pub returns-in-Ok : goal.returns-in-Ok
returns-in-Ok c = record {
  ok = rw c.in-Ok.ensures.ok (StandsFor-stored (stored (goal.at.returns-in-Ok c).In-Ok));
}
