use Rattle.std.proofs.Common.{◌≡◌, ◌/◌, ◌+◌, ℕ, ℤ, w64, to_z, of_z, arith, ap, ◌∙◌, rules}
use Rattle.std.proofs.lemmas.Int.{clamps, ints, to_z-of_z}
use Rattle.track_types.specs.Timeline.{elapsed_from}
use Rattle.track_types.specs.declared.frame.Frame.{Frame}
use Rattle.object_track.proofs.MetLemmas.{AreMet-none, AreMet-some}
use Rattle.object_track.proofs.periods.Periods.met.Goals as goal

pub returns-then-low-high : goal.returns-then-low-high
returns-then-low-high c =
    let frame : Frame = c.args.stores.now.frame in
    let first = c.timeline-timeline.ensures.first ∙ ap (λ (f : Frame). f.first) c.frame.ensures.value in
    let span = c.timeline-timeline.ensures.span ∙ ap (λ (f : Frame). f.span) c.frame.ensures.value in
    rw (c.none.ensures.next, c.none.ensures.end)
    (AreMet-none frame c.frame.ensures.shaped.header c.args.from c.args.to
    (λ z above below early late. omega (arith, ints, clamps, above, below, early, late, first, span, c.last.ensures)))

pub period_at-requires-2-clause-low : goal.period_at-requires-2-clause-low
period_at-requires-2-clause-low c =
    let high : ℤ = c.min-high.result in
    let same : to_z w64 (of_z w64 high) ≡ high = to_z-of_z w64 high (search rules) in
    rw same (omega (arith, ints, clamps))

pub returns : goal.returns
returns c =
    let frame : Frame = c.args.stores.now.frame in
    let header = c.frame.ensures.shaped.header in
    let first = c.timeline-timeline.ensures.first ∙ ap (λ (f : Frame). f.first) c.frame.ensures.value in
    let span = c.timeline-timeline.ensures.span ∙ ap (λ (f : Frame). f.span) c.frame.ensures.value in
    let period = c.timeline-timeline.ensures.period ∙ ap (λ (f : Frame). f.period) c.frame.ensures.value in
    let low : ℤ = c.max-low.result in
    let high : ℤ = c.min-high.result in
    let low_is : to_z w64 (of_z w64 low) ≡ low = to_z-of_z w64 low (search rules) in
    let high_is : to_z w64 (of_z w64 high) ≡ high = to_z-of_z w64 high (search rules) in
    rw (c.period_at.ensures.value, c.period_at-2.ensures.value, low_is, high_is, first, period)
    (AreMet-some frame header c.args.from c.args.to (elapsed_from frame.first low) (elapsed_from frame.first high)
    (omega (arith, ints, clamps, first)) (omega (arith, ints, clamps, first, span, c.last.ensures))
    (omega (arith, ints, clamps, first)) (omega (arith, ints, clamps, first, span, c.last.ensures))
    (λ z above below. omega (arith, ints, clamps, first, above, below))
    (λ z above below. omega (arith, ints, clamps, first, span, above, below, c.last.ensures)))
