use Rattle.std.proofs.Common.{◌≡◌, map, take, All}
use Rattle.track_types.specs.Boxes.{moved_box}
use Rattle.box_tree.specs.Boxes.{IsFrom}
use Rattle.log_bounds.specs.declared.bounds.LogBounds.{LogBounds}
use Rattle.snapshots.proofs.bounded.areas_of.Given as goal

abbrev pub invariant-loop-log : goal.invariant-loop-log
invariant-loop-log l = record {
  made : l.areas.items ≡ map (λ (log : LogBounds). moved_box l.fn.base log.area) (take l.log-index l.fn.bounds);
  from : All (IsFrom l.fn.base) l.areas.items;
}
