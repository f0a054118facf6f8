use Rattle.std.proofs.Common.{◌≡◌, ◌≢◌, ℕ, ◌<◌, ◌≤◌, List, [], length, refl, ap, ◌∙◌, arith, rules}
use Rattle.std.specs.Prelude.{All, Err}
use Rattle.std.proofs.lemmas.Bool.Decides.{nat_tests}
use Rattle.track_types.specs.Limits.{limit_of}
use Rattle.track_types.specs.Near.{IsRowInRange}
use Rattle.track_types.specs.declared.limit.LimitKind.TheVariants.{Rows}
use Rattle.track_types.specs.declared.row.Row.{Row}
use Rattle.track_types.specs.declared.raw_row.RawRow.{RawRow}
use Rattle.gridding.specs.ChartOf.{chart_rows}
use Rattle.gridding.specs.GriddedRows.{HasGridded}
use Rattle.gridding.specs.Survey.{IsMeasureOf}
use Rattle.gridding.proofs.ChartLemmas.{chart_rows-few, chart_rows-in_range, chart_rows-none}
use Rattle.gridding.proofs.GriddedLemmas.{IsGridFault-refusal, chart_rows-held}
use Rattle.gridding.proofs.LimitLemmas.{chart_with-IsChart}
use Rattle.gridding.proofs.SurveyLemmas.{IsMeasureOf-survey}
use Rattle.gridding.proofs.gridded_rows.GriddedRows.chart.Goals.{After-is_empty}
use Rattle.gridding.proofs.gridded_rows.GriddedRows.chart.Goals as goal

-- the rows that are made are those of the chart
made : (c : After-is_empty) (cell tick : ℕ) (raws : List RawRow) → HasGridded cell tick raws c.args.self →
    c.in_ok-made.made.rows.items ≡ chart_rows raws cell tick
made c cell tick raws has =
    chart_rows-held raws cell tick c.args.self c.in_ok-made.made.rows.items has c.in_ok-made.ensures.ascending
    (λ sought. rw (c.origin.ensures, c.in_ok-runs.ensures, c.deref.ensures.value) at c.in_ok-made.ensures.found sought)

pub returns-then-is_empty-clause-fault : goal.returns-then-is_empty-clause-fault
returns-then-is_empty-clause-fault c = λ cell tick raws has.
    let none : length c.in_ok-made.made.rows.items ≡ 0 = search rules in
    let is = made (goal.at.returns-then-is_empty-clause-fault c).After-is_empty cell tick raws has in
    chart_rows-none raws cell tick (rw is at none)

-- they are few and in range, and the survey is theirs
known : (c : After-is_empty) → 0 < length c.in_ok-made.made.rows.items → (length c.in_ok-made.made.rows.items ≤ limit_of Rows)
    × All IsRowInRange c.in_ok-made.made.rows.items × IsMeasureOf c.in_ok-made.made.rows.items c.in_ok-made.made.survey
known c more =
    let few = c.requires.few in
    let rows : List Row = c.in_ok-made.made.rows.items in
    let is = made c few.0 few.1 few.2 few.3 in
    let limit : length rows ≤ limit_of Rows = rw is (omega (arith, chart_rows-few few.2 few.0 few.1, few.4)) in
    let near : All IsRowInRange rows = rw is (chart_rows-in_range few.2 few.0 few.1 few.3.ranges) in (
      limit,
      near,
      IsMeasureOf-survey rows c.in_ok-made.made.survey more (omega arith) c.in_ok-made.ensures.ascending near
          c.in_ok-made.ensures.survey,
    )

pub check_limits-requires-clause-few : goal.check_limits-requires-clause-few
check_limits-requires-clause-few c =
    let more : 0 < length c.in_ok-made.made.rows.items =
    grind (arith, nat_tests, c.if-is_empty.false, c.is_empty.ensures) in
    rw c.as_slice.ensures.value (known (goal.at.check_limits-requires-clause-few c).After-is_empty more).0

pub check_limits-requires-clause-survey : goal.check_limits-requires-clause-survey
check_limits-requires-clause-survey c =
    let more : 0 < length c.in_ok-made.made.rows.items =
    grind (arith, nat_tests, c.if-is_empty.false, c.is_empty.ensures) in
    rw c.as_slice.ensures.value (known (goal.at.check_limits-requires-clause-survey c).After-is_empty more).2

pub check_limits-requires-clause-in_range : goal.check_limits-requires-clause-in_range
check_limits-requires-clause-in_range c =
    let more : 0 < length c.in_ok-made.made.rows.items =
    grind (arith, nat_tests, c.if-is_empty.false, c.is_empty.ensures) in
    rw c.as_slice.ensures.value (known (goal.at.check_limits-requires-clause-in_range c).After-is_empty more).1

-- there is a raw row where a row is made
some : (c : After-is_empty) (cell tick : ℕ) (raws : List RawRow) → HasGridded cell tick raws c.args.self →
    0 < length c.in_ok-made.made.rows.items → raws ≢ []
some c cell tick raws has more none =
    omega (arith, more, ap length (made c cell tick raws has), chart_rows-few raws cell tick, ap length none)

pub returns-in_err-check_limits-clause-fault : goal.returns-in_err-check_limits-clause-fault
returns-in_err-check_limits-clause-fault c =
    let more : 0 < length c.in_ok-made.made.rows.items = grind (arith, nat_tests, c.if-is_empty.false, c.is_empty.ensures) in
    let told : c.from_residual-in_err-check_limits.result ≡ Err c.in_err-check_limits.field-0.0 = search rules in
    rw told (λ cell tick raws has.
    let here = (goal.at.returns-in_err-check_limits-clause-fault c).After-is_empty in
    let is = made here cell tick raws has in
    IsGridFault-refusal raws cell tick c.args.period c.in_err-check_limits.field-0.0 (some here cell tick raws has more)
    (rw (c.as_slice.ensures.value, is) at c.in_err-check_limits.ensures.limit))

pub with_extents-requires-clause-chart : goal.with_extents-requires-clause-chart
with_extents-requires-clause-chart c =
    let rows : List Row = c.in_ok-made.made.rows.items in
    let more : 0 < length rows = grind (arith, nat_tests, c.if-is_empty.false, c.is_empty.ensures) in
    let are = known (goal.at.with_extents-requires-clause-chart c).After-is_empty more in
    let none = rw c.as_slice.ensures.value at c.in_ok-check_limits.ensures.ok in
    chart_with-IsChart rows c.args.self.cell c.args.self.tick c.args.period more are.0 c.in_ok-made.ensures.ascending are.1
    c.args.self.wide c.args.self.long c.requires.period none

pub with_extents-requires-clause-extents : goal.with_extents-requires-clause-extents
with_extents-requires-clause-extents c =
    let more : 0 < length c.in_ok-made.made.rows.items =
    grind (arith, nat_tests, c.if-is_empty.false, c.is_empty.ensures) in
    (known (goal.at.with_extents-requires-clause-extents c).After-is_empty more).2.extents

pub returns-clause-some : goal.returns-clause-some
returns-clause-some c = λ cell tick raws has.
    some (goal.at.returns-clause-some c).After-is_empty cell tick raws has (search rules)

pub returns-clause-ok : goal.returns-clause-ok
returns-clause-ok c = λ cell tick raws has.
    let is = made (goal.at.returns-clause-ok c).After-is_empty cell tick raws has in (
      rw (c.as_slice.ensures.value, is) at c.in_ok-check_limits.ensures.ok,
      c.with_extents.ensures ∙ rw (is, has.by_cell, has.by_tick) refl,
    )
