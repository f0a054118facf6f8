use Rattle.std.proofs.Common.{length}
use Rattle.k2_tree.specs.Pruned.{pruned_left}
use Rattle.snapshots.proofs.ObjectsLemmas.{IsGiving}
use Rattle.snapshots.proofs.objects_in.ObjectsInLazy.draw.Given as goal

abbrev pub invariant-loop-self : goal.invariant-loop-self
invariant-loop-self g l = IsGiving g.F.Keep.keeps l.fn.self l.self l.fn.steps l.steps

abbrev pub decreases-loop-self : goal.decreases-loop-self
decreases-loop-self g l = length (pruned_left g.F.Keep.keeps l.self.pruned)
