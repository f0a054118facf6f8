use Rattle.std.proofs.Common.{◌≡◌, ◌++◌, ◌+◌, ◌-◌, ◌≤◌, List, length, map}
use Rattle.std.specs.Prelude.{slice_get}
use Rattle.step_count.specs.Reads.{ReadsWithin}
use Rattle.track_types.specs.Limits.{limit_of}
use Rattle.track_types.specs.declared.limit.LimitKind.TheVariants.{Rows}
use Rattle.track_types.specs.declared.stop.Stop.{Stop}
use Rattle.path_union.specs.Reads.{up_to}
use Rattle.path_union.specs.Walk.{row_at}
use Rattle.path_union.proofs.row_drawing.append_stops.Given as goal

-- each stop that was drawn has its row, and no more was read than until the one that is one too many
abbrev pub invariant-loop-stop : goal.invariant-loop-stop
invariant-loop-stop g l = record {
  drawn : List Stop;
  stops : g.W.Lazy.left l.fn.walk ≡ drawn ++ g.W.Lazy.left l.walk;
  all : l.rows.items ≡ l.fn.rows.items ++ map (row_at l.object) drawn;
  few : length l.rows.items ≤ limit_of Rows;
  may : ReadsWithin (g.W.Lazy.needs l.walk) g.L.Reads.may;
  cost : l.steps + up_to (λ (stop : Stop). g.W.StopWalk.reads_past l.walk stop.instant) (g.W.Lazy.budget l.walk)
      (slice_get (g.W.Lazy.left l.fn.walk) (limit_of Rows - length l.fn.rows.items))
      ≤ l.fn.steps + up_to (λ (stop : Stop). g.W.StopWalk.reads_past l.fn.walk stop.instant) (g.W.Lazy.budget l.fn.walk)
      (slice_get (g.W.Lazy.left l.fn.walk) (limit_of Rows - length l.fn.rows.items));
}

abbrev pub decreases-loop-stop : goal.decreases-loop-stop
decreases-loop-stop g l = length (g.W.Lazy.left l.walk)
