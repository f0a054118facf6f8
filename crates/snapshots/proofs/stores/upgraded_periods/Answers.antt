use Rattle.std.proofs.Common.{◌≡◌, ◌+◌, ◌≤◌, length, vec_len, ap, ◌∙◌, arith, rules}
use Rattle.std.specs.List.{sum_by}
use Rattle.std.proofs.lemmas.Iterator.Adapters.{YieldsList-from_vec}
use Rattle.std.proofs.lemmas.Iterator.Consumers.{YieldsList-turn}
use Rattle.std.proofs.lemmas.List.Sums.{sum_by_more_le}
use Rattle.snapshots.specs.Upgrade.{tree_reads}
use Rattle.snapshots.proofs.stores.upgraded_periods.Given.{Over}
use Rattle.snapshots.proofs.stores.upgraded_periods.Goals as goal
use Rattle.snapshots.proofs.stores.upgraded_periods.Goals.{After-upgraded}

-- the reads of a turn and of those before it
reads : (g : Over) (c : After-upgraded g) → c.upgraded.new.steps ≤ c.args.steps.now + sum_by tree_reads c.args.snaps.items
reads g c =
    let size : vec_len c.args.snaps ≡ length c.args.snaps.items = search rules in
    let given = c.into_iter-snapshot-iterator.ensures.into_iter_gives in
    let turn = YieldsList-turn (YieldsList-from_vec {s = c.into_iter-snapshot-iterator.result} c.args.snaps.items
    given.0 (given.1 ∙ size)) c.loop-snapshot.yielded c.loop-snapshot.snapshot-iterator c.loop-snapshot.yielded_by
    c.next.result c.next.new.self c.in-Some.snapshot c.in-Some.is c.next.ensures.steps in
    omega (
      arith,
      sum_by_more_le tree_reads c.args.snaps.items (length c.loop-snapshot.yielded) c.in-Some.snapshot turn.0,
      ap tree_reads turn.1,
      c.loop-snapshot.invariant.reads,
      c.upgraded.ensures.cost,
    )

pub returns-in_err-upgraded-clause-cost : goal.returns-in_err-upgraded-clause-cost
returns-in_err-upgraded-clause-cost g c = reads g (goal.at.returns-in_err-upgraded-clause-cost g c).After-upgraded

pub returns-in_err-push-clause-cost : goal.returns-in_err-push-clause-cost
returns-in_err-push-clause-cost g c = reads g (goal.at.returns-in_err-push-clause-cost g c).After-upgraded
