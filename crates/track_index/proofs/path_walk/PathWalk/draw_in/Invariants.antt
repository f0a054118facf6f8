use Rattle.std.proofs.Common.{◌-◌}
use Rattle.step_count.specs.Reads.{ReadsWithin}
use Rattle.log_cursor.specs.Touching.{touches_at}
use Rattle.track_index.specs.Path.{IsSeekingIn, path_needs, rest_needs}
use Rattle.track_index.proofs.path_walk.PathWalk.draw_in.Given as goal

abbrev pub invariant-loop-stop : goal.invariant-loop-stop
invariant-loop-stop g l =
    let walk = l.self-inside in
    (IsSeekingIn l.fn.test.region l.fn.self l.fn.steps l.stores walk.index.now walk.object walk.from walk.to walk.periods.next
    walk.periods.end walk.block l.steps)
    × ReadsWithin (rest_needs (touches_at l.fn.test.region) walk.block walk.index.now walk.object walk.from walk.to walk.periods.next
    walk.periods.end) (path_needs (touches_at l.fn.test.region) l.fn.self)

abbrev pub decreases-loop-stop : goal.decreases-loop-stop
decreases-loop-stop g l = l.self-inside.periods.end - l.self-inside.periods.next
