use Rattle.live_tail.proofs.PackLemmas.{kept-none}
use Rattle.live_tail.proofs.tail.Tail.empty.Goals as goal

pub invariant_of-result : goal.invariant_of-result
invariant_of-result c = rw (c.new.ensures.items, c.new-2.ensures.items, c.new-3.ensures.items) (kept-none c.zero.result)
