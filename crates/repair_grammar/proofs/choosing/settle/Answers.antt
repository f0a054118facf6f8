use Rattle.std.proofs.Common.{rules, ◌≡◌, [], ◌∷◌, ◌++◌, sym, ◌∙◌, ap}
use Rattle.repair_grammar.specs.Kept.{keys_in}
use Rattle.repair_grammar.specs.Pairs.{count_of, count_in_table}
use Rattle.repair_grammar.proofs.CoverLemmas.{covers_settled, covers_all}
use Rattle.repair_grammar.proofs.choosing.settle.Goals as goal
use Rattle.repair_grammar.proofs.choosing.settle.Goals.{In_ok-add}

-- the pair's count
count : (c : In_ok-add) → c.count-count.result ≡ count_of c.args.pairs.now c.in-Some.pair
count c = c.count-count.ensures ∙ ap (λ table. count_in_table table c.in-Some.pair) c.loop-pair.invariant.table

pub loop-pair-preserved : goal.loop-pair-preserved
loop-pair-preserved c =
    let at = (goal.at.loop-pair-preserved c).In_ok-add in
    let whole : c.loop-pair.pairs.fresh.items ≡ c.pop.new.self.items ++ c.in-Some.pair ∷ [] =
    c.in-Some.ensures.items in
    record {
      table = c.loop-pair.invariant.table;
      keys = covers_settled (count_of c.args.pairs.now) c.pop.new.self.items c.in-Some.pair
          (keys_in c.loop-pair.keys) (keys_in c.add.new.self)
          (λ other inside. c.in_ok-add.ensures.kept other inside)
          (λ two. rw (sym (count at)) (c.in_ok-add.ensures.added (rw (count at) two)))
          (rw whole at c.loop-pair.invariant.keys);
    }

pub returns-clause-keys : goal.returns-clause-keys
returns-clause-keys c =
    let none : c.loop-pair.pairs.fresh.items ≡ [] = search rules in
    covers_all (count_of c.args.pairs.now) c.loop-pair.pairs.fresh.items (keys_in c.loop-pair.keys) none
    c.loop-pair.invariant.keys
