use Rattle.std.proofs.Common.{◌+◌, ◌≤◌, Bool, true, false, cond, arith, ◌∙◌, ap}
use Rattle.repair_grammar.specs.RePair.{is_pair}
use Rattle.repair_grammar.specs.Pairs.{count_of}
use Rattle.repair_grammar.proofs.PairLemmas.{come_noted}
use Rattle.repair_grammar.proofs.pairs.Pairs.note.Goals as goal

one_le : (test : Bool) → cond test 1 0 ≤ 1
one_le true = omega arith
one_le false = omega arith

pub returns-clause-come : goal.returns-clause-come
returns-clause-come c = come_noted c.args.self.now _ c.args.pair (cond c.args.counts 1 0) _ (one_le c.args.counts)
    (c.in_ok-count.ensures.value ∙ ap (λ n. count_of c.args.self.now c.args.pair + n) c.one_if.ensures)
    (λ other. c.in_ok-count.ensures.counts other
    ∙ ap (λ n. count_of c.args.self.now other + cond (is_pair other c.args.pair.0 c.args.pair.1) n 0) c.one_if.ensures)
    c.in_ok-add_fresh.ensures.kept c.in_ok-add_fresh.ensures.added
