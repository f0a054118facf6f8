use Rattle.std.proofs.Common.{◌≤◌, ◌<◌, ℕ, get_or, length, take}
use Rattle.std.specs.List.{flat_map}
use Rattle.gridding.specs.Blocks.{RunRef}
use Rattle.gridding.specs.Merging.{AreInOrder, FindAlike, IsSurveyed, rows_from_last, rows_of_merge}
use Rattle.gridding.proofs.merging.rows_of_tracks.Given as goal

-- the runs that are done are those of the track's object and of lesser ones, and a search finds the same in their rows
abbrev pub invariant-loop-object : goal.invariant-loop-object
invariant-loop-object l = record {
  next : (j : ℕ) (d : RunRef) → l.object-index ≤ j → j < length l.object-items → l.merge.object ≤ (get_or l.object-items j d).0;
  survey : IsSurveyed l.merge;
  order : AreInOrder l.merge.object l.merge.made.items;
  alike : FindAlike (flat_map (rows_from_last l.origin) (take l.object-index l.object-items)) (rows_of_merge l.origin l.merge);
}
