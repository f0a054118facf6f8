use Rattle.std.proofs.Common.{◌≡◌, to_z, of_z, w64, sym, subst, arith}
use Rattle.std.specs.Prelude.{IfOk}
use Rattle.std.proofs.lemmas.Int.{ints}
use Rattle.std.proofs.lemmas.Option.{IfSome_then}
use Rattle.std.proofs.lemmas.Result.{IfOk-weaker}
use Rattle.object_track.specs.Met.{AreMet}
use Rattle.object_track.proofs.ChartLemmas.{index_in-some}
use Rattle.encounter.proofs.NeedsLemmas.{pair-met}
use Rattle.encounter.proofs.SeekingLemmas.{meet_cost_between-met, meet_cost_until-met, meeting_of-known}
use Rattle.encounter.proofs.SeekingLemmas.{meeting_of-unknown_left, meeting_of-unknown_right}
use Rattle.encounter.proofs.search.meet.Given.{Over}
use Rattle.encounter.proofs.search.meet.Goals as goal
use Rattle.encounter.proofs.search.meet.Goals.{After-met-periods}

pub returns-in_default-clause-ok : goal.returns-in_default-clause-ok
returns-in_default-clause-ok g c =
    let window = c.args.window.now in
    sym (meeting_of-unknown_left c.args.stores.now c.frame.ensures.valid c.args.left c.args.right window.from window.to window.reach
    (sym c.in_default.ensures.value))

pub returns-in_default-index_of-clause-ok : goal.returns-in_default-index_of-clause-ok
returns-in_default-index_of-clause-ok g c =
    let window = c.args.window.now in
    sym (meeting_of-unknown_right c.args.stores.now c.frame.ensures.valid c.args.left c.args.right window.from window.to window.reach
    (sym c.in_default-index_of.ensures.value))

pub meet_in_periods-requires-clause-left : goal.meet_in_periods-requires-clause-left
meet_in_periods-requires-clause-left g c =
    (index_in-some c.args.stores.now.objects c.args.left c.in-Some.one (sym c.in-Some.ensures.value)).0

pub meet_in_periods-requires-clause-right : goal.meet_in_periods-requires-clause-right
meet_in_periods-requires-clause-right g c =
    (index_in-some c.args.stores.now.objects c.args.right c.in-Some-index_of.other (sym c.in-Some-index_of.ensures.value)).0

-- the periods that the window meets
are_met : (g : Over) (c : After-met-periods g) → AreMet c.args.stores.now.frame c.args.window.now.from
    c.args.window.now.to c.met-periods.result.next c.met-periods.result.end
are_met g c =
    let low : to_z w64 (of_z w64 c.args.window.now.from) ≡ c.args.window.now.from = omega (arith, ints) in
    let high : to_z w64 (of_z w64 c.args.window.now.to) ≡ c.args.window.now.to = omega (arith, ints) in
    rw (low, high) at c.met-periods.ensures

pub meet_in_periods-requires-clause-may : goal.meet_in_periods-requires-clause-may
meet_in_periods-requires-clause-may g c = λ read needed.
    c.requires.may read (pair-met c.args.stores.now c.args.left c.args.right c.in-Some.one c.in-Some-index_of.other
    c.args.window.now.from c.args.window.now.to c.args.window.now.reach _ _ c.in-Some.ensures.value c.in-Some-index_of.ensures.value
    (are_met g (goal.at.meet_in_periods-requires-clause-may g c).After-met-periods) read needed)

pub returns-clause-ok : goal.returns-clause-ok
returns-clause-ok g c =
    let window = c.args.window.now in
    let met = are_met g (goal.at.returns-clause-ok g c).After-met-periods in
    subst (λ one. IfOk c.meet_in_periods.result (λ found. found ≡ one))
    (meeting_of-known c.args.stores.now c.frame.ensures.valid c.args.left c.args.right window.from window.to window.reach c.in-Some.one
    c.in-Some-index_of.other c.met-periods.result.next c.met-periods.result.end (sym c.in-Some.ensures.value)
    (sym c.in-Some-index_of.ensures.value) met) c.meet_in_periods.ensures.ok

pub returns-clause-cost : goal.returns-clause-cost
returns-clause-cost g c =
    let window = c.args.window.now in
    let met = are_met g (goal.at.returns-clause-cost g c).After-met-periods in
    let most = meet_cost_between-met c.args.stores.now c.args.left c.args.right c.in-Some.one c.in-Some-index_of.other
    window.from window.to window.reach c.met-periods.result.next c.met-periods.result.end
    (sym c.in-Some.ensures.value) (sym c.in-Some-index_of.ensures.value) met in
    omega (arith, c.meet_in_periods.ensures.cost, most)

pub returns-clause-sooner : goal.returns-clause-sooner
returns-clause-sooner g c =
    let window = c.args.window.now in
    let met = are_met g (goal.at.returns-clause-sooner g c).After-met-periods in
    IfOk-weaker c.meet_in_periods.result _ _ (λ found some. IfSome_then found some (λ meeting ends.
    meet_cost_until-met c.args.stores.now c.frame.ensures.valid c.args.left c.args.right c.in-Some.one c.in-Some-index_of.other
    window.from window.to window.reach c.met-periods.result.next c.met-periods.result.end _ _ meeting.instant
    (sym c.in-Some.ensures.value) (sym c.in-Some-index_of.ensures.value) met ends)) c.meet_in_periods.ensures.sooner
