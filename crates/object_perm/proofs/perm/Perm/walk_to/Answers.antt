use Rattle.std.proofs.Common.{◌+◌, arith, sym, ◌∙◌}
use Rattle.object_perm.proofs.WalkLemmas.{along-zero, along-next}
use Rattle.object_perm.proofs.SearchLemmas.{beyond-more}
use Rattle.object_perm.proofs.perm.Perm.walk_to.Goals as goal

pub loop-next-init : goal.loop-next-init
loop-next-init g c =
    record {
      moves = 0;
      path = along-zero c.args.self.now c.args.from;
      read = c.value_at-next.ensures.value;
      within = c.requires.within;
      next_within = c.value_at-next.ensures.within;
      cost = omega (arith, c.value_at-next.ensures.cost);
      beyond = λ more some reaches. omega arith;
    }

pub loop-next-preserved : goal.loop-next-preserved
loop-next-preserved g c =
    let walk = c.loop-next.invariant in
    let values = c.args.self.now in
    let path = along-next values walk.moves c.args.from c.loop-next.place walk.path ∙ sym walk.read in
    record {
      moves = walk.moves + 1;
      path = path;
      read = c.value_at-next-in-loop-next.ensures.value;
      within = walk.next_within;
      next_within = c.value_at-next-in-loop-next.ensures.within;
      cost = omega (arith, walk.cost, c.value_at-next-in-loop-next.ensures.cost);
      beyond = beyond-more values c.args.from c.args.v walk.moves c.loop-next.next path c.loop-next-test.true walk.beyond;
    }
