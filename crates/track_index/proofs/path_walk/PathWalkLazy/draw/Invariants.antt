use Rattle.std.proofs.Common.{◌-◌}
use Rattle.step_count.specs.Reads.{ReadsWithin}
use Rattle.log_cursor.specs.Turn.{has_hull}
use Rattle.track_index.specs.Path.{IsDrawing, path_needs, rest_needs}
use Rattle.track_index.proofs.path_walk.PathWalkLazy.draw.Given as goal

abbrev pub invariant-loop-stop : goal.invariant-loop-stop
invariant-loop-stop g l =
    let walk = l.self-inside in
    (IsDrawing l.fn.self l.fn.steps l.stores walk.index.now walk.object walk.from walk.to walk.periods.next
    walk.periods.end walk.block l.steps)
    × ReadsWithin (rest_needs has_hull walk.block walk.index.now walk.object walk.from walk.to walk.periods.next
    walk.periods.end) (path_needs has_hull l.fn.self)

abbrev pub decreases-loop-stop : goal.decreases-loop-stop
decreases-loop-stop g l = l.self-inside.periods.end - l.self-inside.periods.next
