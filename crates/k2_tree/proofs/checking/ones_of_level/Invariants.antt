use Rattle.k2_tree.proofs.CheckingLemmas.{IsWalk}
use Rattle.k2_tree.proofs.checking.ones_of_level.Given as goal

abbrev pub invariant-loop : goal.invariant-loop
invariant-loop l = IsWalk l.fan l.bits l.start l.groups l.counter l.place l.ones
