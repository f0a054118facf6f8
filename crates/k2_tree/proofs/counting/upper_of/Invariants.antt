use Rattle.k2_tree.proofs.CountingLemmas.{IsCounted}
use Rattle.k2_tree.proofs.counting.upper_of.Given as goal

abbrev pub invariant-loop : goal.invariant-loop
invariant-loop l = IsCounted l.wide l.bits l.counter l.start l.groups l.upper
