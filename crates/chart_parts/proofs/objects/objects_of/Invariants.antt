use Rattle.std.proofs.Common.{◌≡◌, ◌++◌, length}
use Rattle.track_types.specs.Quantities.{objects_of}
use Rattle.track_types.specs.Row.{IsAscending}
use Rattle.track_types.specs.PartsForm.{AreShort}
use Rattle.chart_parts.proofs.objects.objects_of.Given as goal

abbrev pub invariant-loop-left : goal.invariant-loop-left
invariant-loop-left l = record {
  so_far : l.objects.items ++ objects_of l.left ≡ objects_of l.rows;
  short : AreShort l.objects.items;
  ascending : IsAscending l.left;
}

abbrev pub decreases-loop-left : goal.decreases-loop-left
decreases-loop-left l = length l.left
