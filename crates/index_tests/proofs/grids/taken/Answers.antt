use Rattle.std.proofs.Common.{rules, ◌++◌, append_assoc}
use Rattle.index_tests.proofs.grids.taken.Goals as goal

pub loop-piece-preserved : goal.loop-piece-preserved
loop-piece-preserved c =
    let invariant = c.loop-piece.invariant in
    record {
      done = invariant.done ++ c.in-Some.piece.now;
      can = search rules;
      finite = tt;
      some = search rules;
      all = search (rules, append_assoc);
      has = c.in_ok-append.ensures 1 c.args.tick invariant.done invariant.has;
    }
