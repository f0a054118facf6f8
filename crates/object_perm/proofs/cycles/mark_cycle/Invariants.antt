use Rattle.object_perm.specs.Settled.{KeepsMarks}
use Rattle.object_perm.proofs.CycleWalk.{IsInCycle, unseen_count}
use Rattle.object_perm.proofs.cycles.mark_cycle.Given as goal

abbrev pub invariant-loop-place : goal.invariant-loop-place
invariant-loop-place l = record {
  walk : IsInCycle l.values l.seen l.shortcuts l.leader l.place l.stored l.gap;
  kept : KeepsMarks l.fn.seen l.seen;
}

abbrev pub decreases-loop-place : goal.decreases-loop-place
decreases-loop-place l = unseen_count l.seen
