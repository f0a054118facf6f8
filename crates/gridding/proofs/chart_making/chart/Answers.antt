use Rattle.std.proofs.Common.{◌≡◌, ◌<◌, List, All, Err, length, arith, rules}
use Rattle.std.proofs.lemmas.Bool.Decides.{nat_tests}
use Rattle.track_types.specs.Near.{IsRowInRange}
use Rattle.track_types.specs.declared.row.Row.{Row}
use Rattle.gridding.proofs.BaseLemmas.{base_fault, chart_fault-none, chart_fault-within, IsGridFaultFor-is, IsGridFaultFor-refusal, IsRowInRange-near}
use Rattle.gridding.proofs.LimitLemmas.{chart_with-IsChart}
use Rattle.gridding.proofs.SurveyLemmas.{IsMeasureOf-survey}
use Rattle.gridding.specs.Survey.{IsMeasureOf}
use Rattle.gridding.proofs.chart_making.chart.Goals as goal
use Rattle.gridding.proofs.chart_making.chart.Goals.{After-as_slice-3}

pub returns-then-is_empty-clause-fault : goal.returns-then-is_empty-clause-fault
returns-then-is_empty-clause-fault c =
    chart_fault-none c.args.rows.items c.args.period (grind (arith, nat_tests, c.if-is_empty.true, c.is_empty.ensures))

pub returns-in_err-check_base-clause-fault : goal.returns-in_err-check_base-clause-fault
returns-in_err-check_base-clause-fault c =
    let some : 0 < length c.args.rows.items = grind (arith, nat_tests, c.if-is_empty.false, c.is_empty.ensures) in
    let told : c.from_residual.result ≡ Err c.in_err-check_base.field-0.0 = search rules in
    let err = rw c.as_slice.ensures.value at c.in_err-check_base.ensures.err in
    rw told (IsGridFaultFor-is c.args.rows.items c.args.period c.in_err-check_base.field-0.0 err.0
    (base_fault c.args.rows.items c.args.period some err.1))

-- the rows are in range
near : (c : After-as_slice-3) → All IsRowInRange c.args.rows.items
near c =
    IsRowInRange-near c.args.rows.items (rw c.as_slice.ensures.value at c.in_ok-check_base.ensures.ok) c.requires.near

-- and the survey is theirs
measured : (c : After-as_slice-3) → IsMeasureOf c.args.rows.items c.of-survey.result
measured c =
    let rows : List Row = c.args.rows.items in
    let some : 0 < length rows = grind (arith, nat_tests, c.if-is_empty.false, c.is_empty.ensures) in
    IsMeasureOf-survey rows c.of-survey.result some (omega (arith, c.requires.few)) c.requires.ascending (near c)
    (rw c.as_slice-2.ensures.value at c.of-survey.ensures)

pub check_limits-requires-clause-in_range : goal.check_limits-requires-clause-in_range
check_limits-requires-clause-in_range c =
    rw c.as_slice-3.ensures.value (near (goal.at.check_limits-requires-clause-in_range c).After-as_slice-3)

pub check_limits-requires-clause-survey : goal.check_limits-requires-clause-survey
check_limits-requires-clause-survey c =
    rw c.as_slice-3.ensures.value (measured (goal.at.check_limits-requires-clause-survey c).After-as_slice-3)

pub returns-in_err-check_limits-clause-fault : goal.returns-in_err-check_limits-clause-fault
returns-in_err-check_limits-clause-fault c =
    let some : 0 < length c.args.rows.items = grind (arith, nat_tests, c.if-is_empty.false, c.is_empty.ensures) in
    let told : c.from_residual-in_err-check_limits.result ≡ Err c.in_err-check_limits.field-0.0 = search rules in
    rw told (IsGridFaultFor-refusal c.args.rows.items c.args.period some
    (rw c.as_slice.ensures.value at c.in_ok-check_base.ensures.ok) c.in_err-check_limits.field-0.0
    (rw c.as_slice-3.ensures.value at c.in_err-check_limits.ensures.limit))

pub with_extents-requires-clause-chart : goal.with_extents-requires-clause-chart
with_extents-requires-clause-chart c =
    let rows : List Row = c.args.rows.items in
    let some : 0 < length rows = grind (arith, nat_tests, c.if-is_empty.false, c.is_empty.ensures) in
    chart_with-IsChart rows c.args.cell c.args.tick c.args.period some c.requires.few c.requires.ascending
    (near (goal.at.with_extents-requires-clause-chart c).After-as_slice-3) c.requires.cell c.requires.tick c.requires.period
    (rw c.as_slice-3.ensures.value at c.in_ok-check_limits.ensures.ok)

pub with_extents-requires-clause-extents : goal.with_extents-requires-clause-extents
with_extents-requires-clause-extents c =
    (measured (goal.at.with_extents-requires-clause-extents c).After-as_slice-3).extents

pub returns-clause-exact : goal.returns-clause-exact
returns-clause-exact c =
    let some : 0 < length c.args.rows.items = grind (arith, nat_tests, c.if-is_empty.false, c.is_empty.ensures) in
    chart_fault-within c.args.rows.items c.args.period some (rw c.as_slice.ensures.value at c.in_ok-check_base.ensures.ok)
    (rw c.as_slice-3.ensures.value at c.in_ok-check_limits.ensures.ok)
