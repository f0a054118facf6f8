use Rattle.std.proofs.Common.{◌≡◌, ◌≤ℤ◌, ◌<ℤ◌, to_z, of_z, w64, refl, ◌∙◌, ap, sym, arith}
use Rattle.std.specs.Option.{option_map}
use Rattle.std.proofs.lemmas.Int.{ints}
use Rattle.std.proofs.lemmas.List.Elements.{All-head}
use Rattle.track_types.specs.Near.{IsCellWithin}
use Rattle.track_types.specs.declared.stop.Stop.{Stop}
use Rattle.track_types.specs.Meeting.{first_together, meeting_at}
use Rattle.encounter.proofs.WalkedLemmas.{drawn-both, drawn-found, drawn-left, drawn-right, ended-left, ended-right, in_time-both, in_time-found, in_time-left, in_time-right, next-after, none-left, none-right, together-instant}
use Rattle.encounter.proofs.side_by_side.first_of_walks.Goals as goal

pub returns-in_err-here-clause-value : goal.returns-in_err-here-clause-value
returns-in_err-here-clause-value g c =
    c.from_residual.ensures
    ∙ sym (ap (option_map meeting_at) (ap (λ stops. first_together c.args.reach stops (g.W.Lazy.left c.args.other.now))
    c.in_err-here.ensures.none ∙ none-left c.args.reach (g.W.Lazy.left c.args.other.now)))

pub returns-in_err-there-clause-value : goal.returns-in_err-there-clause-value
returns-in_err-there-clause-value g c =
    c.from_residual-in_err-there.ensures
    ∙ sym (ap (option_map meeting_at) (ap (first_together c.args.reach (g.W.Lazy.left c.args.one.now))
    c.in_err-there.ensures.none ∙ none-right c.args.reach (g.W.Lazy.left c.args.one.now)))

pub returns-in_err-there-2-clause-value : goal.returns-in_err-there-2-clause-value
returns-in_err-there-2-clause-value g c =
    let early : c.drawn.there.instant <ℤ c.drawn.here.instant = omega (arith, ints, c.if-there-here.true) in
    c.from_residual-in_err-there-2.ensures
    ∙ sym (ap (option_map meeting_at) (ended-right _ _ _ _ _ _ _ _ _ _ c.drawn.invariant.walked early c.in_err-there-2.ensures.none))

pub drawn-preserved-then-there-here : goal.drawn-preserved-then-there-here
drawn-preserved-then-there-here g c =
    let early : c.drawn.there.instant <ℤ c.drawn.here.instant = omega (arith, ints, c.if-there-here.true) in
    record {
      walked = drawn-right _ _ _ _ _ _ _ _ _ _ c.drawn.invariant.walked early _ _ _ _ c.in_ok-there-2.ensures.found
          (omega (arith, c.next-then-there-here.ensures.cost));
      may = c.drawn.invariant.may;
      also = λ read needed. c.drawn.invariant.also read (c.in_ok-there-2.ensures.needs read needed);
      in_time = in_time-right _ _ _ _ _ _ _ c.drawn.invariant.in_time _ _ _ early c.in_ok-there-2.ensures.in_time;
    }

pub are_together-requires-clause-here : goal.are_together-requires-clause-here
are_together-requires-clause-here g c =
    All-head (λ (s : Stop). IsCellWithin s.cell) c.drawn.here (g.W.Lazy.left c.drawn.one) c.drawn.invariant.walked.left_is.near

pub are_together-requires-clause-there : goal.are_together-requires-clause-there
are_together-requires-clause-there g c =
    All-head (λ (s : Stop). IsCellWithin s.cell) c.drawn.there (g.W.Lazy.left c.drawn.other)
    c.drawn.invariant.walked.right_is.near

pub returns-then-are_together-clause-value : goal.returns-then-are_together-clause-value
returns-then-are_together-clause-value g c =
    let kept : to_z w64 (of_z w64 c.drawn.here.instant) ≡ c.drawn.here.instant = omega (arith, ints) in
    rw kept (sym (ap (option_map meeting_at) (drawn-found _ _ _ _ _ _ _ _ _ _ c.drawn.invariant.walked
    (sym c.are_together.ensures ∙ c.if-are_together.true))))

pub returns-in_err-here-2-clause-value : goal.returns-in_err-here-2-clause-value
returns-in_err-here-2-clause-value g c =
    let early : c.drawn.here.instant ≤ℤ c.drawn.there.instant = omega (arith, ints, c.if-there-here.false) in
    c.from_residual-in_err-here-2.ensures
    ∙ sym (ap (option_map meeting_at) (ended-left _ _ _ _ _ _ _ _ _ _ c.drawn.invariant.walked early
    (sym c.are_together.ensures ∙ c.if-are_together.false) c.in_err-here-2.ensures.none))

pub drawn-preserved : goal.drawn-preserved
drawn-preserved g c =
    let early : c.drawn.here.instant ≤ℤ c.drawn.there.instant = omega (arith, ints, c.if-there-here.false) in
    let apart = sym c.are_together.ensures ∙ c.if-are_together.false in
    let now = drawn-left _ _ _ _ _ _ _ _ _ _ c.drawn.invariant.walked early apart _ _ _ _ c.in_ok-here-2.ensures.found
    (omega (arith, c.next-in-drawn.ensures.cost)) in
    record {
      walked = now;
      may = λ read needed. c.drawn.invariant.may read (c.in_ok-here-2.ensures.needs read needed);
      also = c.drawn.invariant.also;
      in_time = in_time-left _ _ _ _ _ _ _ c.drawn.invariant.in_time _ _ _
          (next-after _ _ _ _ c.drawn.invariant.walked.left_is c.in_ok-here-2.ensures.found) c.in_ok-here-2.ensures.in_time;
    }

pub drawn-init : goal.drawn-init
drawn-init g c =
    record {
      walked = drawn-both _ _ _ _ _ _ _ _ _ _ c.requires.one c.requires.other c.in_ok-here.ensures.found
          c.in_ok-there.ensures.found (omega (arith, c.in_ok-here.ensures.cost, c.in_ok-there.ensures.cost));
      may = λ read needed. c.requires.may read (c.in_ok-here.ensures.needs read needed);
      also = λ read needed. c.requires.also read (c.in_ok-there.ensures.needs read needed);
      in_time = in_time-both _ _ _ _ _ _ _ _ _ c.in_ok-here.ensures.in_time c.in_ok-there.ensures.in_time;
    }

pub returns-then-are_together-clause-ended : goal.returns-then-are_together-clause-ended
returns-then-are_together-clause-ended g c =
    let kept : to_z w64 (of_z w64 c.drawn.here.instant) ≡ c.drawn.here.instant = omega (arith, ints) in
    let same = together-instant c.args.reach c.drawn.here c.drawn.there (sym c.are_together.ensures ∙ c.if-are_together.true) in
    rw kept (
      record {
        before = c.drawn.invariant.walked.drawn;
        stop = c.drawn.here;
        at = refl;
        all = c.drawn.invariant.walked.left_all;
      },
      record {
        before = c.drawn.invariant.walked.passed;
        stop = c.drawn.there;
        at = same;
        all = c.drawn.invariant.walked.right_all;
      },
    )

pub returns-then-are_together-clause-sooner : goal.returns-then-are_together-clause-sooner
returns-then-are_together-clause-sooner g c =
    let kept : to_z w64 (of_z w64 c.drawn.here.instant) ≡ c.drawn.here.instant = omega (arith, ints) in
    let same = together-instant c.args.reach c.drawn.here c.drawn.there (sym c.are_together.ensures ∙ c.if-are_together.true) in
    rw kept (in_time-found _ _ _ _ _ _ _ c.drawn.invariant.in_time same)
