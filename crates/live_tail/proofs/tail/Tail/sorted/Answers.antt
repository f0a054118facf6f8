use Rattle.std.proofs.Common.{ap, sym, ◌∙◌}
use Rattle.live_tail.specs.Join.{rows_of_tail}
use Rattle.live_tail.proofs.tail.Tail.sorted.Goals as goal

pub returns : goal.returns
returns c =
    rw c.as_slice.ensures.value
    (rw (sym c.self.invariant.rows_are ∙ ap rows_of_tail c.self.view_is) at c.self.invariant.sorted_are)
