use Rattle.std.proofs.Common.{◌+◌, ◌≤◌}
use Rattle.encounter.specs.Seeking.{IsSeekingMeeting, meet_cost_between, meeting_between}
use Rattle.encounter.proofs.search.meet_in_periods.Given as goal

abbrev pub invariant-loop-period : goal.invariant-loop-period
invariant-loop-period g l =
    let window = l.fn.window in
    let places = l.fn.places in
    (IsSeekingMeeting (meeting_between l.fn.stores places.left places.right window.from window.to window.reach l.fn.periods.next
    l.fn.periods.end)
    (l.fn.steps + meet_cost_between l.fn.stores places.left places.right window.from window.to window.reach
    l.fn.periods.next l.fn.periods.end)
    l.fn.stores places.left places.right window.from window.to window.reach l.fn.periods.next l.fn.steps
    l.period l.fn.periods.end l.steps)
    × (l.fn.periods.next ≤ l.period)
