use Rattle.std.proofs.Common.{◌≡◌, ◌+◌, ◌<◌}
use Rattle.log_cursor.specs.Needs.{RulesWithin}
use Rattle.log_cursor.specs.Touching.{touches_at, touching_left}
use Rattle.log_cursor.specs.Turn.{IsWalking, has_hull, is_stop_in, opening_rule, turns_left}
use Rattle.log_cursor.specs.Walk.{opened_left, stops_left}
use Rattle.log_cursor.proofs.searching.hit_after.Given as goal

-- what was taken off has no hit, and what is left has the other stops, and no other rules to be opened
abbrev pub invariant-loop-at : goal.invariant-loop-at
invariant-loop-at g l =
    let first = l.fn.pending in
    let region = l.fn.test.region in
    let stops = stops_left first.rules l.fn.from l.fn.to l.fn.start first.symbols in
    record {
      walking : IsWalking (is_stop_in region) (touches_at region) first.rules stops
          (l.fn.steps + (first.unread + touching_left first.rules l.fn.from l.fn.to region l.fn.start first.symbols))
          l.fn.from l.fn.to l.pending l.at l.steps;
      drawing : IsWalking (is_stop_in region) has_hull first.rules stops
          (l.fn.steps + (first.unread + opened_left first.rules l.fn.from l.fn.to l.fn.start first.symbols))
          l.fn.from l.fn.to l.pending l.at l.steps;
      few : l.opened < 64;
      places : l.pending.places ≡ first.places;
      opens : RulesWithin (opening_rule first.rules (touches_at region) l.fn.from l.fn.to l.at l.pending.symbols)
          (opening_rule first.rules (touches_at region) l.fn.from l.fn.to l.fn.start first.symbols);
    }

abbrev pub decreases-loop-at : goal.decreases-loop-at
decreases-loop-at g l =
    turns_left l.fn.pending.rules (touches_at l.fn.test.region) l.fn.from l.fn.to l.at l.pending.symbols
