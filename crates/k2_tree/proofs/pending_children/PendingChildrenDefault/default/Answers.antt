use Rattle.std.proofs.Common.{length, ap, arith}
use Rattle.k2_tree.proofs.LowestLemmas.{digits_of-zero}
use Rattle.k2_tree.proofs.pending_children.PendingChildrenDefault.default.Goals as goal

pub new-requires-clause-room : goal.new-requires-clause-room
new-requires-clause-room c = omega (arith, ap length (digits_of-zero 4))
