use Rattle.repair_grammar.proofs.pairs.Pairs.copy_places.Goals as goal

pub returns-clause-all : goal.returns-clause-all
returns-clause-all c = λ place inside. c.put_in_order.ensures.all place (rw c.in_ok-copy_seen.ensures.ok inside)

pub returns-clause-same : goal.returns-clause-same
returns-clause-same c = rw c.in_ok-copy_seen.ensures.ok at c.put_in_order.ensures.same
