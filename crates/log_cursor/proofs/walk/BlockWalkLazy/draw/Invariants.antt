use Rattle.std.proofs.Common.{◌≡◌, ◌+◌, None}
use Rattle.log_cursor.specs.Needs.{RulesWithin, walk_rule}
use Rattle.log_cursor.specs.Turn.{IsWalking, IsWalkingInTime, has_hull, is_any, opening_rule, turns_left}
use Rattle.log_cursor.proofs.walk.BlockWalkLazy.draw.Given as goal

-- the anchor is gone, and of the others none was passed, in any window that the walk has not come to the end of; and no other
-- rules are to be opened
abbrev pub invariant-loop-self : goal.invariant-loop-self
invariant-loop-self g l =
    let walk = l.self-inside in
    let first = l.fn.self in record {
      anchor : walk.anchor ≡ None;
      places : walk.pending.places ≡ first.places;
      walking : IsWalking is_any has_hull first.rules first.stops (l.fn.steps + first.reads) walk.from walk.to walk.pending
          walk.at l.steps;
      opens : RulesWithin (opening_rule first.rules has_hull walk.from walk.to walk.at walk.pending.symbols)
          (walk_rule has_hull first);
      in_time : IsWalkingInTime first l.fn.steps walk.from walk.to walk.pending walk.at l.steps;
    }

abbrev pub decreases-loop-self : goal.decreases-loop-self
decreases-loop-self g l =
    let walk = l.self-inside in turns_left l.fn.self.rules has_hull walk.from walk.to walk.at walk.pending.symbols
