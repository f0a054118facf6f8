use Rattle.std.proofs.Common.{◌-◌, length}
use Rattle.rule_order.specs.Queue.{ArePlaced, IsParted}
use Rattle.rule_order.proofs.grammar.Grammar.new_symbols.Given as goal

abbrev pub invariant-loop-from : goal.invariant-loop-from
invariant-loop-from l = record {
  parted : IsParted l.queue.items l.from;
  done : ArePlaced l.self.alphabet l.self.rules.now l.queue.items l.from l.places.items;
}

abbrev pub decreases-loop-from : goal.decreases-loop-from
decreases-loop-from l = length l.queue.items - l.from
