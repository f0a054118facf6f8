use Rattle.std.proofs.Common.{ℤ, ◌+◌, length}
use Rattle.step_count.specs.Reads.{ReadsWithin}
use Rattle.encounter.specs.Walked.{AreReadInTime, AreWalked}
use Rattle.encounter.proofs.side_by_side.first_of_walks.Given as goal

abbrev pub invariant-drawn : goal.invariant-drawn
invariant-drawn g l = record {
  walked : AreWalked l.fn.reach (g.W.Lazy.left l.fn.one) (g.W.Lazy.left l.fn.other)
      (l.fn.steps + (g.W.Lazy.budget l.fn.one + g.W.Lazy.budget l.fn.other)) l.here l.there (g.W.Lazy.left l.one)
      (g.W.Lazy.left l.other) l.steps (g.W.Lazy.budget l.one + g.W.Lazy.budget l.other);
  may : ReadsWithin (g.W.Lazy.needs l.one) g.L.Reads.may;
  also : ReadsWithin (g.W.Lazy.needs l.other) g.L.Reads.may;
  in_time : AreReadInTime l.fn.steps
      (λ (instant : ℤ). g.W.StopWalk.reads_past l.fn.one instant + g.W.StopWalk.reads_past l.fn.other instant) l.here
      l.there (g.W.StopWalk.reads_past l.one) (g.W.StopWalk.reads_past l.other) l.steps;
}

abbrev pub decreases-drawn : goal.decreases-drawn
decreases-drawn g l = length (g.W.Lazy.left l.one) + length (g.W.Lazy.left l.other)
