use Rattle.std.proofs.Common.{◌<◌, refl, sym, ap, ◌∙◌, arith}
use Rattle.std.specs.Option.{option_map}
use Rattle.track_types.specs.Meeting.{meeting_at}
use Rattle.step_count.specs.Reads.{ofPeriod}
use Rattle.track_types.specs.Frame.{periods_of}
use Rattle.encounter.proofs.NeedsLemmas.{pair-logs}
use Rattle.track_index.specs.Path.{is_left}
use Rattle.track_index.proofs.NeedsLemmas.{is_left-within}
use Rattle.encounter.proofs.SeekingLemmas.{seeking-cost, seeking-ends, seeking-found, seeking-next, seeking-none}
use Rattle.encounter.proofs.search.meet_in_periods.Goals as goal

pub loop-period-init : goal.loop-period-init
loop-period-init g c = (record { same = refl; reads = omega arith; begun = omega arith; past = omega arith }, omega arith)

pub returns-in_err-found-clause-cost : goal.returns-in_err-found-clause-cost
returns-in_err-found-clause-cost g c =
    let most = seeking-cost _ _ _ c.frame.ensures.valid _ _ _ _ _ _ _ _ _ _ c.loop-period.invariant.0
    (omega (arith, c.loop-period-test.true)) c.requires.periods in
    omega (arith, c.meet_in_period.ensures.cost, most)

pub returns-in-Some-clause-ok : goal.returns-in-Some-clause-ok
returns-in-Some-clause-ok g c =
    sym (seeking-found _ _ _ c.frame.ensures.valid _ _ _ _ _ _ _ _ _ _ c.loop-period.invariant.0 (omega (arith, c.loop-period-test.true))
    c.requires.periods c.in-Some.meeting (sym c.in_ok-found.ensures.ok ∙ c.in-Some.is))

pub returns-in-Some-clause-cost : goal.returns-in-Some-clause-cost
returns-in-Some-clause-cost g c =
    let most = seeking-cost _ _ _ c.frame.ensures.valid _ _ _ _ _ _ _ _ _ _ c.loop-period.invariant.0
    (omega (arith, c.loop-period-test.true)) c.requires.periods in
    omega (arith, c.meet_in_period.ensures.cost, most)

pub returns-in-Some-clause-sooner : goal.returns-in-Some-clause-sooner
returns-in-Some-clause-sooner g c =
    seeking-ends _ _ _ c.frame.ensures.valid _ _ _ _ _ _ _ _ _ _ c.loop-period.invariant.0 (omega (arith, c.loop-period-test.true))
    c.requires.periods c.in-Some.meeting c.meet_in_period.new.steps (sym c.in_ok-found.ensures.ok ∙ c.in-Some.is)
    c.meet_in_period.ensures.cost

pub loop-period-preserved : goal.loop-period-preserved
loop-period-preserved g c = (
  seeking-next _ _ _ c.frame.ensures.valid _ _ _ _ _ _ _ _ _ _ c.loop-period.invariant.0 (omega (arith, c.loop-period-test.true))
      c.requires.periods c.meet_in_period.new.steps (sym c.in_ok-found.ensures.ok ∙ c.in_default.is)
      c.meet_in_period.ensures.cost,
  omega (arith, c.loop-period.invariant.1),
)

pub meet_in_period-requires : goal.meet_in_period-requires
meet_in_period-requires g c =
    let places = c.args.places in
    let periods = c.args.periods in
    let period = c.loop-period.period in
    let left = is_left-within periods.next periods.end period c.loop-period.invariant.1 (omega (arith, c.loop-period-test.true)) in
    let known : period < periods_of c.args.stores.now.frame = omega (arith, c.loop-period-test.true, c.requires.periods) in
    let window = c.args.window.now in
    let logs = pair-logs g.L.Reads.may c.args.stores.now places.left places.right window.from window.to window.reach
    (is_left periods.next periods.end) c.requires.may period known left in
    record {
      reach = c.requires.reach;
      left = c.requires.left;
      right = c.requires.right;
      period = known;
      may = c.requires.may (ofPeriod period) left;
      log = logs.0;
      also = logs.1;
    }

pub returns-clause-ok : goal.returns-clause-ok
returns-clause-ok g c =
    sym (ap (option_map meeting_at) (seeking-none _ _ _ c.frame.ensures.valid _ _ _ _ _ _ _ _ _ _ c.loop-period.invariant.0
    (omega (arith, c.loop-period-test.false))))

pub returns-clause-cost : goal.returns-clause-cost
returns-clause-cost g c = omega (arith, c.loop-period.invariant.0.reads)
