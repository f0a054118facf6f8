use Rattle.std.proofs.Common.{All, subst, sym}
use Rattle.live_tail.specs.SmallRows.{IsCountedFrom}
use Rattle.live_tail.proofs.PackLemmas.{counted-chart}
use Rattle.live_tail.proofs.tail.Tail.of.Goals as goal

pub small_rows-requires : goal.small_rows-requires
small_rows-requires c =
    subst (All (IsCountedFrom c.of-origin.result)) (sym c.rows-2.ensures.value)
    (counted-chart c.args.chart c.extents.result c.of-origin.result c.extents.ensures.chart c.extents.ensures.value
    c.of-origin.ensures.instant c.of-origin.ensures.x c.of-origin.ensures.y)
