use Rattle.std.proofs.Common.{rules, ◌≡◌, ◌+◌, ◌<◌, ◌^◌, None, length, get_or, ap, subst, vec_len, sym, ◌∙◌, arith}
use Rattle.std.specs.Prelude.{sum}
use Rattle.std.proofs.lemmas.Iterator.Adapters.{YieldsList-from_vec}
use Rattle.std.proofs.lemmas.Iterator.Consumers.{YieldsList-turn}
use Rattle.std.proofs.lemmas.List.{length_push}
use Rattle.snapshots.specs.Flaws.{flaw_of, IsShapedView}
use Rattle.snapshots.specs.View.{view_with}
use Rattle.track_index.proofs.PeriodLemmas.{checked-more, flawless-next, length-snaps, number-short, IsShapedView-next}
use Rattle.track_index.proofs.opening.flawless_snaps.Goals as goal
use Rattle.track_index.proofs.opening.flawless_snaps.Goals.{After-len-number}

-- the period of this turn is the next one
turn : (c : After-len-number) → (length c.loop-parts.yielded < length c.args.periods)
    × (c.in-Some.parts ≡ get_or c.args.periods (length c.loop-parts.yielded) c.in-Some.parts)
turn c =
    let all = c.into_vec-parts-items.result in
    let size : vec_len all ≡ length all.items = search rules in
    let given = c.into_iter-parts-iterator.ensures.into_iter_gives in
    YieldsList-turn (YieldsList-from_vec {s = c.into_iter-parts-iterator.result} c.args.periods
    (given.0 ∙ c.into_vec-parts-items.ensures) (given.1 ∙ size ∙ ap length c.into_vec-parts-items.ensures))
    c.loop-parts.yielded c.loop-parts.parts-iterator c.loop-parts.yielded_by c.next.result c.next.new.self
    c.in-Some.parts c.in-Some.is c.next.ensures.steps

-- it is counted by the snapshots before it
counted : (c : After-len-number) → c.len-number.result ≡ length c.loop-parts.yielded
counted c =
    let size : vec_len c.loop-parts.snaps ≡ length c.loop-parts.snaps.items = search rules in
    c.len-number.ensures ∙ size ∙ length-snaps _ _ _ _ _ _ c.loop-parts.invariant

pub overflow_cast-number : goal.overflow_cast-number
overflow_cast-number c =
    let at = (goal.at.overflow_cast-number c).After-len-number in
    let turn = turn at in
    let short : length c.loop-parts.yielded < 2 ^ 32 =
    number-short _ _ _ _ _ _ c.loop-parts.invariant c.requires.shaped c.in-Some.parts turn.0 turn.1 in
    omega (arith, counted at, short)

pub of_flawless-requires-clause-shaped : goal.of_flawless-requires-clause-shaped
of_flawless-requires-clause-shaped c =
    let at = (goal.at.of_flawless-requires-clause-shaped c).After-len-number in
    let turn = turn at in
    subst (λ n. IsShapedView (view_with c.args.header.now.value n c.args.objects c.loop-parts.start c.in-Some.parts))
    (sym (counted at))
    (IsShapedView-next _ _ _ _ _ _ c.loop-parts.invariant c.requires.shaped c.in-Some.parts turn.0 turn.1)

pub of_flawless-requires-clause-flawless : goal.of_flawless-requires-clause-flawless
of_flawless-requires-clause-flawless c =
    let at = (goal.at.of_flawless-requires-clause-flawless c).After-len-number in
    let turn = turn at in
    subst (λ n. flaw_of (view_with c.args.header.now.value n c.args.objects c.loop-parts.start c.in-Some.parts) ≡ None)
    (sym (counted at))
    (flawless-next _ _ _ _ _ _ c.loop-parts.invariant c.requires.shaped c.in-Some.parts turn.0 turn.1 c.requires.flawless)

pub loop-parts-preserved : goal.loop-parts-preserved
loop-parts-preserved c =
    let at = (goal.at.loop-parts-preserved c).After-len-number in
    let turn = turn at in
    let adds : c.loop-parts.start + c.symbols_of-symbols.result ≡ c.loop-parts.start + sum c.in-Some.parts.lengths =
    omega (arith, c.symbols_of-symbols.ensures, ap sum c.as_slice-in-loop-parts.ensures) in
    let item = c.in_ok-of_flawless.field-0 in
    let named : item ≡ view_with c.args.header.now.value (length c.loop-parts.yielded) c.args.objects c.loop-parts.start
    c.in-Some.parts =
    subst (λ n. item ≡ view_with c.args.header.now.value n c.args.objects c.loop-parts.start c.in-Some.parts)
    (counted at) c.in_ok-of_flawless.ensures.ok in
    let none = flawless-next _ _ _ _ _ _ c.loop-parts.invariant c.requires.shaped c.in-Some.parts turn.0 turn.1
    c.requires.flawless in
    let more = checked-more _ _ _ _ _ _ c.loop-parts.invariant c.requires.shaped c.in-Some.parts turn.0 turn.1 item _
    named none adds in
    rw (length_push c.loop-parts.yielded c.in-Some.parts, c.in_ok-push.ensures.items) more
