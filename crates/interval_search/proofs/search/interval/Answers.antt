use Rattle.std.proofs.Common.{◌≡◌, ◌∙◌, ℕ, ℤ, List, Bool, IsTrue, false, w64, to_z, of_z, arith, subst}
use Rattle.std.proofs.lemmas.Int.{ints}
use Rattle.step_count.specs.Reads.{ofPeriod}
use Rattle.track_types.specs.declared.hit.Hit.{Hit}
use Rattle.track_types.specs.declared.region.Region.{Region}
use Rattle.track_types.specs.Region.{intersects_region}
use Rattle.snapshots.proofs.NeedsLemmas.{within-period}
use Rattle.snapshots.specs.IndexCost.{is_met}
use Rattle.track_types.specs.Frame.{grid_of}
use Rattle.slice_search.proofs.NeedsLemmas.{may-search}
use Rattle.interval_search.specs.FirstHits.{AreFirst}
use Rattle.interval_search.proofs.CostLemmas.{cost-met, cost-step}
use Rattle.interval_search.proofs.OrderLemmas.{first-at, hits-beside, hits-met}
use Rattle.interval_search.proofs.search.interval.Given.{Over}
use Rattle.interval_search.proofs.search.interval.Goals as goal
use Rattle.interval_search.proofs.search.interval.Goals.{After-blocks-blocks}

pub returns-then-not-meets_grid-clause-ok : goal.returns-then-not-meets_grid-clause-ok
returns-then-not-meets_grid-clause-ok g c =
    let parts = c.args.stores.now in
    let region : Region = c.args.test.now.region in
    let beside : intersects_region region (grid_of parts.frame) ≡ false =
    grind (arith, c.meets_grid.ensures, c.if-not-meets_grid.true) in
    c.new.ensures.items ∙ hits-beside parts c.frame.ensures.valid c.args.from c.args.to region beside

pub loop-period-init : goal.loop-period-init
loop-period-init g c =
    let parts = c.args.stores.now in
    let region : Region = c.args.test.now.region in
    let low : ℤ = to_z w64 (of_z w64 c.args.from) in
    let high : ℤ = to_z w64 (of_z w64 c.args.to) in
    let next : ℕ = c.met-periods.result.next in
    let begins = first-at parts c.frame.ensures.valid low high region next c.met-periods.result.end c.met-periods.ensures in
    record {
      least = omega arith;
      most = c.met-periods.ensures.ordered;
      rules = c.in_ok-pending.ensures.rules ∙ c.rules.ensures.value;
      first = rw (c.in_ok-hits.ensures.known, c.objects.ensures.value, c.in_ok-hits.ensures.found) begins;
      reads = omega (arith, cost-met parts low high region next c.met-periods.result.end c.met-periods.ensures);
    }

pub invariant_of-sought : goal.invariant_of-sought
invariant_of-sought g c = record { known = omega (arith, c.loop-period-test.true, c.met-periods.ensures.within) }

pub look-requires-clause-first : goal.look-requires-clause-first
look-requires-clause-first g c = c.loop-period.invariant.first

-- the period is met by the window
met : (g : Over) (c : After-blocks-blocks g) → IsTrue (is_met c.args.stores.now.frame c.args.from c.args.to c.loop-period.period)
met g c =
    let from : to_z w64 (of_z w64 c.args.from) ≡ c.args.from = omega (arith, ints) in
    let to : to_z w64 (of_z w64 c.args.to) ≡ c.args.to = omega (arith, ints) in
    rw (from, to) at
    (c.met-periods.ensures.met c.loop-period.period c.loop-period.invariant.least (omega (arith, c.loop-period-test.true)))

pub look-requires-clause-may : goal.look-requires-clause-may
look-requires-clause-may g c = λ read needed.
    within-period g.L.Reads.may c.loop-period.period
    (c.requires.may (ofPeriod c.loop-period.period) (met g (goal.at.look-requires-clause-may g c).After-blocks-blocks)) read
    (c.blocks-blocks.ensures.needs read needed)

pub look-requires-clause-logs : goal.look-requires-clause-logs
look-requires-clause-logs g c =
    let parts = c.args.stores.now in
    let from : to_z w64 (of_z w64 c.args.from) ≡ c.args.from = omega (arith, ints) in
    let to : to_z w64 (of_z w64 c.args.to) ≡ c.args.to = omega (arith, ints) in
    rw (from, to) (may-search g.L.Reads.may parts (is_met parts.frame c.args.from c.args.to) c.args.from c.args.to
    c.args.test.now.region c.requires.may c.loop-period.period
    (omega (arith, c.loop-period-test.true, c.met-periods.ensures.within))
    (met g (goal.at.look-requires-clause-logs g c).After-blocks-blocks))

pub loop-period-preserved : goal.loop-period-preserved
loop-period-preserved g c =
    let parts = c.args.stores.now in
    let region : Region = c.args.test.now.region in
    let low : ℤ = to_z w64 (of_z w64 c.args.from) in
    let high : ℤ = to_z w64 (of_z w64 c.args.to) in
    record {
      least = omega (arith, c.loop-period.invariant.least);
      most = omega (arith, c.loop-period-test.true);
      rules = c.look.ensures.rules ∙ c.loop-period.invariant.rules;
      first = c.in_ok-look.ensures.first;
      reads = omega (
        arith,
        c.loop-period.invariant.reads,
        c.look.ensures.cost,
        c.blocks-blocks.ensures.cost,
        cost-step parts low high region c.loop-period.period c.met-periods.result.end
            (omega (arith, c.loop-period-test.true)),
      );
    }

pub returns-in_err-look-clause-cost : goal.returns-in_err-look-clause-cost
returns-in_err-look-clause-cost g c =
    let parts = c.args.stores.now in
    let region : Region = c.args.test.now.region in
    let low : ℤ = to_z w64 (of_z w64 c.args.from) in
    let high : ℤ = to_z w64 (of_z w64 c.args.to) in
    let from : low ≡ c.args.from = omega (arith, ints) in
    let to : high ≡ c.args.to = omega (arith, ints) in
    let behind : ℕ = c.met-periods.result.end in
    rw (← from, ← to) (omega (
      arith,
      c.loop-period.invariant.reads,
      c.look.ensures.cost,
      c.blocks-blocks.ensures.cost,
      cost-step parts low high region c.loop-period.period behind (omega (arith, c.loop-period-test.true)),
    ))

pub returns-clause-ok : goal.returns-clause-ok
returns-clause-ok g c =
    let parts = c.args.stores.now in
    let region : Region = c.args.test.now.region in
    let low : ℤ = to_z w64 (of_z w64 c.args.from) in
    let high : ℤ = to_z w64 (of_z w64 c.args.to) in
    let from : low ≡ c.args.from = omega (arith, ints) in
    let to : high ≡ c.args.to = omega (arith, ints) in
    let behind : ℕ = c.met-periods.result.end in
    let done : c.loop-period.period ≡ behind = omega (arith, c.loop-period.invariant.most, c.loop-period-test.false) in
    let known : List Bool = c.loop-period.hits.known.items in
    let found : List Hit = c.loop-period.hits.found.items in
    rw (← from, ← to)
    (hits-met parts c.frame.ensures.valid low high region c.met-periods.result.next behind c.met-periods.ensures known found
    c.in_order.result.items
    (subst (λ n. AreFirst parts low high region n known found) done c.loop-period.invariant.first)
    c.in_order.ensures.same c.in_order.ensures.order)

pub returns-clause-cost : goal.returns-clause-cost
returns-clause-cost g c =
    let from : to_z w64 (of_z w64 c.args.from) ≡ c.args.from = omega (arith, ints) in
    let to : to_z w64 (of_z w64 c.args.to) ≡ c.args.to = omega (arith, ints) in
    rw (← from, ← to) (omega (arith, c.loop-period.invariant.reads))
