use Rattle.std.proofs.Common.{arith}
use Rattle.part_tests.proofs.MadeLemmas.{ascends-more, inside-more, last-more}
use Rattle.part_tests.proofs.boxes.some_codes.Goals as goal

pub made-preserved : goal.made-preserved
made-preserved c =
    let l = c.made in
    let pushed = c.in_ok-push.ensures.items in
    record {
      ascend = rw pushed (ascends-more 0 l.codes.items l.code l.invariant.ascend l.invariant.last (omega arith));
      last = rw pushed (last-more l.codes.items l.code _ l.invariant.last (omega arith));
      inside = rw pushed (inside-more l.codes.items l.code c.args.limit l.invariant.inside (omega arith));
    }
