use Rattle.std.proofs.Common.{◌≡◌, ◌≤◌, List, All, Option, None, Some, ap, arith, subst, sym, ◌∙◌}
use Rattle.std.specs.Prelude.{IfSome}
use Rattle.std.specs.List.Sorted.{IsStrictlySortedBy}
use Rattle.std.proofs.lemmas.List.Elements.{All-nil}
use Rattle.track_types.specs.Chart.{ChartView, IsChart}
use Rattle.track_types.specs.Limits.{limit_of}
use Rattle.track_types.specs.Near.{IsCellWithin}
use Rattle.track_types.specs.Quantities.{distinct, object_count}
use Rattle.track_types.specs.Row.{IsAscending}
use Rattle.track_types.specs.declared.limit.LimitKind.TheVariants.{Objects}
use Rattle.track_types.specs.declared.row.Row.{Row}
use Rattle.live_tail.specs.Join.{rows_of_tail}
use Rattle.live_tail.specs.SmallRows.{rows_from}
use Rattle.live_tail.proofs.RangeLemmas.{near-chart}
use Rattle.live_tail.proofs.tail.Tail.rows.Goals as goal
use Rattle.live_tail.proofs.tail.Tail.rows.Goals.{After-as_slice}

-- what is known of the rows of a tail
rise : (tail : Option ChartView) → IfSome tail IsChart → IsAscending (rows_of_tail tail)
unfolding IsStrictlySortedBy
rise None is = tt
rise (Some chart) is = is.ascending

near : (tail : Option ChartView) → IfSome tail IsChart → All (λ (row : Row). IsCellWithin row.cell) (rows_of_tail tail)
near None is = All-nil (λ (row : Row). IsCellWithin row.cell)
near (Some chart) is = near-chart chart is

few : (tail : Option ChartView) → IfSome tail IsChart → object_count (rows_of_tail tail) ≤ limit_of Objects
unfolding distinct
few None is = omega arith
few (Some chart) is = is.objects

-- the rows are the tail's
its : (c : After-as_slice) → rows_from c.self.inside.origin c.as_slice.result.now ≡ rows_of_tail c.args.self.now
its c =
    ap (rows_from c.self.inside.origin) c.as_slice.ensures.value ∙ sym c.self.invariant.rows_are ∙ ap rows_of_tail c.self.view_is

-- what is known of its chart
sound : (c : After-as_slice) → IfSome c.args.self.now IsChart
sound c = subst (λ tail. IfSome tail IsChart) c.self.view_is c.self.invariant.chart

pub returns-clause-value : goal.returns-clause-value
returns-clause-value c = its (goal.at.returns-clause-value c).After-as_slice

pub returns-clause-ascending : goal.returns-clause-ascending
returns-clause-ascending c =
    let at = (goal.at.returns-clause-ascending c).After-as_slice in
    subst IsAscending (sym (its at)) (rise c.args.self.now (sound at))

pub returns-clause-near : goal.returns-clause-near
returns-clause-near c =
    let at = (goal.at.returns-clause-near c).After-as_slice in
    subst (All (λ (row : Row). IsCellWithin row.cell)) (sym (its at)) (near c.args.self.now (sound at))

pub returns-clause-few : goal.returns-clause-few
returns-clause-few c =
    let at = (goal.at.returns-clause-few c).After-as_slice in
    subst (λ (rows : List Row). object_count rows ≤ limit_of Objects) (sym (its at)) (few c.args.self.now (sound at))
