use Rattle.std.proofs.lemmas.Grind.{common_steps}
use Rattle.std.proofs.Common.{◌≡◌, ◌+◌, ◌*◌, ◌/◌, ◌≤◌, ℕ, pos, ◌+ℤ◌, w64, to_z, of_z, refl, arith, rules}
use Rattle.std.proofs.lemmas.Int.{ints, to_z-of_z}
use Rattle.track_types.specs.Quantities.{elapsed}
use Rattle.track_types.specs.declared.row.Row.{Row}
use Rattle.track_types.proofs.TimelineLemmas.{quotient-low}
use Rattle.gridding.specs.BlockRange.{period_end}
use Rattle.gridding.proofs.counts.block_of.Goals as goal
use Rattle.gridding.proofs.counts.block_of.Goals.{After-from}

-- the end of the anchor's period, which comes within as many instants as a period has
end_is : (c : After-from) → (to_z w64 (of_z w64 (to_z w64 (of_z w64 c.first_of.result) +ℤ to_z w64 (of_z w64 c.from.result)))
    ≡ c.args.timeline.first +ℤ pos (period_end c.args.timeline.first c.args.timeline.period c.args.anchor.now))
    × (period_end c.args.timeline.first c.args.timeline.period c.args.anchor.now
    ≤ elapsed c.args.timeline.first c.args.anchor.now + c.args.timeline.period)
end_is c =
    let timeline = c.args.timeline in
    let row : Row = c.args.anchor.now in
    let before : ℕ = elapsed timeline.first row in
    let same : to_z w64 (of_z w64 row.instant) ≡ row.instant = to_z-of_z w64 row.instant (search rules) in
    let number : c.period_at-period.result ≡ before / timeline.period = rw same at c.period_at-period.ensures.value in
    let start : c.first_of.result ≡ timeline.first +ℤ pos (before / timeline.period * timeline.period) =
    rw number at c.first_of.ensures in
    let next : (before / timeline.period + 1) * timeline.period ≡ before / timeline.period * timeline.period + timeline.period =
    grind arith in
    let low = quotient-low timeline.span timeline.period (omega (arith, timeline.some)) before c.requires.before_end in (
      omega (
        arith,
        ints,
        start,
        next,
        low,
        c.from.ensures,
        c.requires.before_end,
        timeline.short,
        timeline.limit,
        timeline.begins,
        timeline.ends,
      ),
      omega (arith, next, low),
    )

pub returns-clause-exact : goal.returns-clause-exact
returns-clause-exact c = let end = (end_is (goal.at.returns-clause-exact c).After-from).0 in rw end refl

pub returns-clause-begins : goal.returns-clause-begins
returns-clause-begins c =
    let end = end_is (goal.at.returns-clause-begins c).After-from in
    rw end.0 (omega (arith, ints, end.1, c.requires.after_first))

pub period_at-period-requires-clause-low : goal.period_at-period-requires-clause-low
period_at-period-requires-clause-low c = search rules

pub overflow_add-result : goal.overflow_add-result
overflow_add-result c = grind (arith, common_steps)
