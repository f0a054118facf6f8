use Rattle.snapshots.proofs.StartsLemmas.{starts-more, next-more}
use Rattle.snapshots.proofs.checking.starts_of.Goals as goal

pub loop-len-preserved : goal.loop-len-preserved
loop-len-preserved c = record {
  begin = starts-more c.args.start c.args.lengths.now c.loop-len.starts.items c.push.new.self.items c.loop-len.len-index
      c.loop-len.next c.loop-len.invariant.begin c.loop-len.invariant.next c.in_ok-push.ensures.items;
  next = next-more c.args.start c.args.lengths.now c.loop-len.len-index c.loop-len.next c.loop-len-test.true
      c.loop-len.invariant.next;
}
