use Rattle.snapshots.specs.Found.{ArePut}
use Rattle.snapshots.proofs.finding.reordered.Given as goal

abbrev pub invariant-loop-k : goal.invariant-loop-k
invariant-loop-k l = ArePut l.fn.places l.fn.blocks l.k l.table.items
