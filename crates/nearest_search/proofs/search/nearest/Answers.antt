use Rattle.std.proofs.Common.{◌≡◌, ◌<◌, w64, to_z, of_z, Some, sym, ◌∙◌, arith}
use Rattle.std.proofs.lemmas.Int.{ints}
use Rattle.track_types.specs.Frame.{periods_of}
use Rattle.snapshots.specs.Parts.{chart_in, period_in}
use Rattle.object_track.proofs.MetLemmas.{period_in-some}
use Rattle.step_count.specs.Reads.{ofPeriod}
use Rattle.snapshots.proofs.NeedsLemmas.{is_found-same}
use Rattle.nearest_search.proofs.NeedsLemmas.{may-near}
use Rattle.nearest_search.proofs.OutsideLemmas.{cost-some, nears-blockless, nears-outside, nears-unasked}
use Rattle.nearest_search.proofs.search.nearest.Given.{Over}
use Rattle.nearest_search.proofs.search.nearest.Goals as goal
use Rattle.nearest_search.proofs.search.nearest.Goals.{In-Some}

-- the period is the instant's, and one of the index's
when : (g : Over) (c : In-Some g)
    → (period_in c.args.stores.now.frame c.args.instant ≡ Some c.in-Some.period)
    × (c.in-Some.period < periods_of c.args.stores.now.frame)
when g c =
    let same : to_z w64 (of_z w64 c.args.instant) ≡ c.args.instant = omega (arith, ints) in
    let its = rw same at (sym c.period_of.ensures.value ∙ c.in-Some.is) in (
      its,
      (period_in-some c.args.stores.now.frame c.period_of.ensures.valid.shaped.header c.args.instant c.in-Some.period its).0,
    )

pub returns-then-count-eq0-clause-ok : goal.returns-then-count-eq0-clause-ok
returns-then-count-eq0-clause-ok g c =
    c.new.ensures.items
    ∙ nears-unasked (chart_in c.args.stores.now).rows c.args.count c.args.instant c.args.cell (omega (arith, c.if-count-eq0.true))

pub returns-in_default-clause-ok : goal.returns-in_default-clause-ok
returns-in_default-clause-ok g c =
    let same : to_z w64 (of_z w64 c.args.instant) ≡ c.args.instant = omega (arith, ints) in
    c.new-in_default.ensures.items
    ∙ nears-outside c.args.stores.now c.period_of.ensures.valid c.args.count c.args.instant c.args.cell
    (rw same at (sym c.period_of.ensures.value ∙ c.in_default.is))

pub kept-requires : goal.kept-requires
kept-requires g c = (when g (goal.at.kept-requires g c).In-Some).1

pub new-requires-2-clause-period : goal.new-requires-2-clause-period
new-requires-2-clause-period g c = (when g (goal.at.new-requires-2-clause-period g c).In-Some).1

pub returns-in_default-kept-clause-ok : goal.returns-in_default-kept-clause-ok
returns-in_default-kept-clause-ok g c =
    let its = when g (goal.at.returns-in_default-kept-clause-ok g c).In-Some in
    c.new-in_default-kept.ensures.items
    ∙ nears-blockless c.args.stores.now c.period_of.ensures.valid c.args.count c.args.instant c.args.cell c.in-Some.period
    its.1 its.0 c.in_default-kept.ensures.none

pub nearest-requires-clause-search : goal.nearest-requires-clause-search
nearest-requires-clause-search g c =
    let same : to_z w64 (of_z w64 c.args.instant) ≡ c.args.instant = omega (arith, ints) in
    let its = when g (goal.at.nearest-requires-clause-search g c).In-Some in
    record {
      is = record {
        valid = c.period_of.ensures.valid;
        within = its.1;
        when = rw same its.0;
        kept = c.in-Some-kept.ensures.kept;
        asked = rw c.new-2.ensures.cell c.requires.cell;
      };
      number = c.in-Some-kept.ensures.period;
      width = c.new-2.ensures.width;
    }

pub nearest-requires-clause-may : goal.nearest-requires-clause-may
nearest-requires-clause-may g c =
    c.requires.may (ofPeriod c.in-Some.period)
    (is_found-same (period_in c.args.stores.now.frame c.args.instant) c.in-Some.period
    (when g (goal.at.nearest-requires-clause-may g c).In-Some).0)

pub nearest-requires-clause-logs : goal.nearest-requires-clause-logs
nearest-requires-clause-logs g c =
    let its = when g (goal.at.nearest-requires-clause-logs g c).In-Some in
    let same : to_z w64 (of_z w64 c.args.instant) ≡ c.args.instant = omega (arith, ints) in
    rw same (may-near g.L.Reads.may c.args.stores.now c.args.instant c.requires.may c.in-Some.period its.1 its.0)

pub returns-clause-ok : goal.returns-clause-ok
returns-clause-ok g c =
    let same : to_z w64 (of_z w64 c.args.instant) ≡ c.args.instant = omega (arith, ints) in
    rw (same, c.new-2.ensures.cell) at c.nearest.ensures.ok

pub returns-clause-cost : goal.returns-clause-cost
returns-clause-cost g c =
    let same : to_z w64 (of_z w64 c.args.instant) ≡ c.args.instant = omega (arith, ints) in
    let its = when g (goal.at.returns-clause-cost g c).In-Some in
    let cost = rw (same, c.new-2.ensures.cell) at c.nearest.ensures.cost in
    let all = cost-some c.args.stores.now c.period_of.ensures.valid c.args.count c.args.instant c.args.cell c.in-Some.period
    (omega (arith, c.if-count-eq0.false)) its.0 in
    omega (arith, cost, all)
