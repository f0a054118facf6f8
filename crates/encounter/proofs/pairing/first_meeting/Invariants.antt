use Rattle.std.proofs.Common.{◌≡◌, ◌+◌}
use Rattle.log_cursor.specs.Needs.{RulesWithin}
use Rattle.encounter.specs.Turn.{IsMeeting, meeting_ahead, reads_ahead, rule_ahead}
use Rattle.encounter.proofs.pairing.first_meeting.Given as goal

abbrev pub invariant-loop-meeting : goal.invariant-loop-meeting
invariant-loop-meeting g l =
    let window = l.fn.window in
    (IsMeeting (meeting_ahead window.from window.to window.reach l.fn.left l.fn.right)
    (l.fn.steps + reads_ahead window.from window.to window.reach l.fn.left l.fn.right)
    window.from window.to window.reach l.left l.right l.steps)
    × (l.left.places ≡ l.fn.left.places)
    × (l.right.places ≡ l.fn.right.places)
    × (l.left.rules ≡ l.fn.left.rules)
    × (l.right.rules ≡ l.fn.right.rules)
    × RulesWithin (rule_ahead window.from window.to window.reach l.left l.right)
    (rule_ahead window.from window.to window.reach l.fn.left l.fn.right)

abbrev pub decreases-loop-meeting : goal.decreases-loop-meeting
decreases-loop-meeting g l = l.left.size + l.right.size
