use Rattle.std.proofs.Common.{◌≡◌, ◌+◌, ap, arith, length, ◌∙◌}
use Rattle.repair_grammar.specs.Pairs.{seen_entry, count_in_table}
use Rattle.repair_grammar.proofs.CountLemmas.{own_pair}
use Rattle.repair_grammar.proofs.PairLemmas.{removed-count, removed-few, removed-places}
use Rattle.repair_grammar.proofs.pairs.Pairs.lower.Goals as goal
use Rattle.repair_grammar.proofs.pairs.Pairs.lower.Goals.{After-remove}

-- the pair counts no more
none : (c : After-remove) → count_in_table c.lower_in.new.table c.args.pair ≡ 0
none c = let once : count_in_table c.lower_in.new.table c.args.pair + 1
    ≡ count_in_table c.args.self.now.table c.args.pair =
    rw (own_pair c.args.pair.0 c.args.pair.1) at (c.lower_in.ensures.counts c.args.pair) in
    omega (arith, once, c.lower_in.ensures.value, c.if-lower_in-eq0.true)

pub returns-then-lower_in-eq0-clause-counts : goal.returns-then-lower_in-eq0-clause-counts
returns-then-lower_in-eq0-clause-counts c = λ other.
    let at = (goal.at.returns-then-lower_in-eq0-clause-counts c).After-remove in
    omega (
      arith,
      c.lower_in.ensures.counts other,
      removed-count (seen_entry c.lower_in.new.table) (seen_entry c.remove.new.self) c.args.pair other
          (c.remove.ensures.updates.0 other) (none at),
    )

pub returns-then-lower_in-eq0-clause-places : goal.returns-then-lower_in-eq0-clause-places
returns-then-lower_in-eq0-clause-places c = λ other some.
    let at = (goal.at.returns-then-lower_in-eq0-clause-places c).After-remove in
    removed-places (seen_entry c.lower_in.new.table) (seen_entry c.remove.new.self) c.args.pair other
    (c.remove.ensures.updates.0 other) (none at) some ∙ c.lower_in.ensures.places other

pub returns-then-lower_in-eq0-clause-few : goal.returns-then-lower_in-eq0-clause-few
returns-then-lower_in-eq0-clause-few c = λ other. omega (
  arith,
  removed-few (seen_entry c.lower_in.new.table) (seen_entry c.remove.new.self) c.args.pair other
      (c.remove.ensures.updates.0 other),
  ap length (c.lower_in.ensures.places other),
)

pub returns-else-lower_in-eq0-clause-few : goal.returns-else-lower_in-eq0-clause-few
returns-else-lower_in-eq0-clause-few c = λ other. omega (arith, ap length (c.lower_in.ensures.places other))
