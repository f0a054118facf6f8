use Rattle.std.proofs.Common.{rules, ◌≡◌, ℕ, ◌+◌, ◌<◌, ◌^◌, None, length, get_or, ap, subst, vec_len, sym, ◌∙◌, arith}
use Rattle.std.specs.Prelude.{sum}
use Rattle.std.proofs.lemmas.Iterator.Adapters.{YieldsList-from_vec}
use Rattle.std.proofs.lemmas.Iterator.Consumers.{YieldsList-end, YieldsList-turn}
use Rattle.std.proofs.lemmas.List.{length_push}
use Rattle.std.proofs.lemmas.Result.{err_from_is_err_and}
use Rattle.track_types.specs.Flaws.{IsFormatFaultFor}
use Rattle.snapshots.specs.Flaws.{flaw_of, format_fault_of_period, IsShapedView}
use Rattle.snapshots.specs.View.{view_with}
use Rattle.track_index.proofs.PeriodLemmas.{checked-more, flaw-next, length-snaps, number-short, snapshots_flaw-none, AreChecked, IsShapedView-next}
use Rattle.track_index.proofs.opening.check_each.Goals as goal
use Rattle.track_index.proofs.opening.check_each.Goals.{After-len-number, After-symbols_of-symbols}

-- the period of this turn is the next one
turn : (c : After-len-number) → (length c.loop-period.yielded < length c.args.periods)
    × (c.in-Some.period ≡ get_or c.args.periods (length c.loop-period.yielded) c.in-Some.period)
turn c =
    let all = c.into_vec-period-items.result in
    let size : vec_len all ≡ length all.items = search rules in
    let given = c.into_iter-period-iterator.ensures.into_iter_gives in
    YieldsList-turn (YieldsList-from_vec {s = c.into_iter-period-iterator.result} c.args.periods
    (given.0 ∙ c.into_vec-period-items.ensures) (given.1 ∙ size ∙ ap length c.into_vec-period-items.ensures))
    c.loop-period.yielded c.loop-period.period-iterator c.loop-period.yielded_by c.next.result c.next.new.self
    c.in-Some.period c.in-Some.is c.next.ensures.steps

-- it is counted by the snapshots before it
counted : (c : After-len-number) → c.len-number.result ≡ length c.loop-period.yielded
counted c =
    let size : vec_len c.loop-period.snaps ≡ length c.loop-period.snaps.items = search rules in
    c.len-number.ensures ∙ size ∙ length-snaps _ _ _ _ _ _ c.loop-period.invariant

pub overflow_cast-number : goal.overflow_cast-number
overflow_cast-number c =
    let at = (goal.at.overflow_cast-number c).After-len-number in
    let turn = turn at in
    let short : length c.loop-period.yielded < 2 ^ 32 =
    number-short _ _ _ _ _ _ c.loop-period.invariant c.requires c.in-Some.period turn.0 turn.1 in
    omega (arith, counted at, short)

pub check_under-requires : goal.check_under-requires
check_under-requires c =
    let at = (goal.at.check_under-requires c).After-len-number in
    let turn = turn at in
    subst (λ n. IsShapedView (view_with c.args.header.now.value n c.args.objects c.loop-period.start c.in-Some.period))
    (sym (counted at))
    (IsShapedView-next _ _ _ _ _ _ c.loop-period.invariant c.requires c.in-Some.period turn.0 turn.1)

pub returns-in_err-check_under-clause-flaw : goal.returns-in_err-check_under-clause-flaw
returns-in_err-check_under-clause-flaw c =
    let at = (goal.at.returns-in_err-check_under-clause-flaw c).After-len-number in
    let turn = turn at in
    let found = format_fault_of_period c.in_err-check_under.field-0.0 in
    let known = flaw-next _ _ _ _ _ _ c.loop-period.invariant c.requires c.in-Some.period turn.0 turn.1 found
    (subst (λ n. IsFormatFaultFor (flaw_of (view_with c.args.header.now.value n c.args.objects c.loop-period.start
    c.in-Some.period)) found) (counted at) c.in_err-check_under.ensures.flaw) in
    let given = err_from_is_err_and c.from_residual-in_err-check_under.result
    c.from_residual-in_err-check_under.ensures.1 in
    rw (given.1, given.2) known

pub loop-period-preserved : goal.loop-period-preserved
loop-period-preserved c =
    let at = (goal.at.loop-period-preserved c).After-len-number in
    let turn = turn at in
    let adds : c.loop-period.start + c.symbols_of-symbols.result
    ≡ c.loop-period.start + sum c.in-Some.period.lengths =
    omega (arith, c.symbols_of-symbols.ensures, ap sum c.as_slice-in-loop-period.ensures) in
    let item = c.in_ok-check_under.field-0 in
    let named : (number : ℕ) → Type 0 = λ number.
    (item ≡ view_with c.args.header.now.value number c.args.objects c.loop-period.start c.in-Some.period)
    × (flaw_of (view_with c.args.header.now.value number c.args.objects c.loop-period.start c.in-Some.period) ≡ None) in
    let judged : named (length c.loop-period.yielded) =
    subst named (counted at) (c.in_ok-check_under.ensures.ok, c.in_ok-check_under.ensures.exact) in
    let more = checked-more _ _ _ _ _ _ c.loop-period.invariant c.requires c.in-Some.period turn.0 turn.1 item _
    judged.0 judged.1 adds in
    rw (length_push c.loop-period.yielded c.in-Some.period, c.in_ok-push.ensures.items) more

pub returns-clause-exact : goal.returns-clause-exact
returns-clause-exact c =
    let all = c.into_vec-period-items.result in
    let size : vec_len all ≡ length all.items = search rules in
    let given = c.into_iter-period-iterator.ensures.into_iter_gives in
    let end = YieldsList-end (YieldsList-from_vec {s = c.into_iter-period-iterator.result} c.args.periods
    (given.0 ∙ c.into_vec-period-items.ensures) (given.1 ∙ size ∙ ap length c.into_vec-period-items.ensures))
    c.loop-period.yielded c.loop-period.period-iterator c.loop-period.yielded_by c.next.result c.next.new.self
    c.in-None.is c.next.ensures.steps in
    snapshots_flaw-none _ _ _ c.loop-period.start c.loop-period.snaps.items
    (subst (λ n. AreChecked c.args.header.now.value c.args.objects c.args.periods n c.loop-period.start
    c.loop-period.snaps.items) (end.1 ∙ c.requires.many) c.loop-period.invariant)
