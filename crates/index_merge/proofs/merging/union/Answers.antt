use Rattle.std.proofs.Common.{◌≡◌, ◌∙◌, ◌+◌, Err, List, ap, arith, rules}
use Rattle.track_types.specs.declared.frame.Frame.{Frame}
use Rattle.track_types.specs.declared.parts.Parts.{Parts}
use Rattle.track_types.specs.declared.row.Row.{Row}
use Rattle.snapshots.specs.Parts.{chart_in}
use Rattle.path_union.specs.Union.{rows_of_both}
use Rattle.index_merge.specs.Cost.{union_cost}
use Rattle.index_merge.proofs.ReadsLemmas.{drawn-cost}
use Rattle.index_merge.specs.MergeFault.{common_fault, merge_fault, merge_fault_of, settings_fault}
use Rattle.index_merge.proofs.FaultLemmas.{common_fault-alike, IsMergeFaultFor-is, merge_fault-common, merge_fault-none, merge_fault-rows, merge_fault-settings, settings_fault-alike}
use Rattle.index_merge.proofs.UnionLemmas.{extension_of-rows}
use Rattle.index_merge.proofs.merging.union.Given.{Over}
use Rattle.index_merge.proofs.merging.union.Goals as goal
use Rattle.index_merge.proofs.merging.union.Goals.{After-frame}

-- what is compared is what was given: the causes are those of the two indexes, and the header is the first one's
settings : (g : Over) (c : After-frame g)
    → settings_fault c.args.left.now.frame c.args.right.now.frame
    ≡ settings_fault c.frame-frame.result.now c.frame.result.now
settings g c =
    settings_fault-alike c.args.left.now c.args.right.now c.stores-one.result.now c.stores-other.result.now
    c.frame-frame.result.now c.frame.result.now c.stores-one.ensures.value c.stores-other.ensures.value
    c.frame-frame.ensures.value c.frame.ensures.value

common : (g : Over) (c : After-frame g)
    → common_fault c.args.left.now.objects c.args.right.now.objects
    ≡ common_fault c.stores-one.result.now.objects c.stores-other.result.now.objects
common g c =
    common_fault-alike c.args.left.now c.args.right.now c.stores-one.result.now c.stores-other.result.now
    c.stores-one.ensures.value c.stores-other.ensures.value

header : (g : Over) (c : After-frame g) → c.frame-frame.result.now ≡ c.args.left.now.frame
header g c = c.frame-frame.ensures.value ∙ ap (λ (p : Parts). p.frame) c.stores-one.ensures.value

pub returns-in_err-check_settings-clause-fault : goal.returns-in_err-check_settings-clause-fault
returns-in_err-check_settings-clause-fault g c =
    let at = (goal.at.returns-in_err-check_settings-clause-fault g c).After-frame in
    let left : Parts = c.args.left.now in
    let right : Parts = c.args.right.now in
    let told : c.from_residual.result ≡ Err c.in_err-check_settings.field-0.0 = search rules in
    rw told (IsMergeFaultFor-is (merge_fault left right) c.in_err-check_settings.field-0.0
    (merge_fault-settings left right c.in_err-check_settings.field-0.0 (settings g at ∙ c.in_err-check_settings.ensures.err)))

pub returns-in_err-check_common-clause-fault : goal.returns-in_err-check_common-clause-fault
returns-in_err-check_common-clause-fault g c =
    let at = (goal.at.returns-in_err-check_common-clause-fault g c).After-frame in
    let left : Parts = c.args.left.now in
    let right : Parts = c.args.right.now in
    let told : c.from_residual-in_err-check_common.result ≡ Err c.in_err-check_common.field-0.0 = search rules in
    rw told (IsMergeFaultFor-is (merge_fault left right) c.in_err-check_common.field-0.0
    (merge_fault-common left right (settings g at ∙ c.in_ok-check_settings.ensures.ok) c.in_err-check_common.field-0.0
    (common g at ∙ c.in_err-check_common.ensures.err)))

pub chart_of_both-requires-clause-older : goal.chart_of_both-requires-clause-older
chart_of_both-requires-clause-older g c = rw c.of-paths.ensures.rows c.of-paths.ensures.timely

pub chart_of_both-requires-clause-later : goal.chart_of_both-requires-clause-later
chart_of_both-requires-clause-later g c = rw c.of-others.ensures.rows c.of-others.ensures.timely

pub returns-in_err-chart_of_both-clause-fault : goal.returns-in_err-chart_of_both-clause-fault
returns-in_err-chart_of_both-clause-fault g c =
    let at = (goal.at.returns-in_err-chart_of_both-clause-fault g c).After-frame in
    let left : Parts = c.args.left.now in
    let right : Parts = c.args.right.now in
    let told : c.from_residual-in_err-chart_of_both.result ≡ Err (merge_fault_of c.in_err-chart_of_both.field-0.0) = search rules in
    let period = ap (λ (f : Frame). f.period) (header g at) in
    rw told (merge_fault-rows left right (settings g at ∙ c.in_ok-check_settings.ensures.ok)
    (common g at ∙ c.in_ok-check_common.ensures.ok) c.in_err-chart_of_both.field-0.0
    (rw (c.of-paths.ensures.rows, c.of-others.ensures.rows, period) at c.in_err-chart_of_both.ensures.fault))

pub returns-in_err-chart_of_both-clause-cost : goal.returns-in_err-chart_of_both-clause-cost
unfolding union_cost
returns-in_err-chart_of_both-clause-cost g c =
    let left : Parts = c.args.left.now in
    let right : Parts = c.args.right.now in
    let rows : List Row = rows_of_both (chart_in left).rows (chart_in right).rows in
    let drew = rw (c.of-paths.ensures.rows, c.of-others.ensures.rows) at c.in_err-chart_of_both.ensures.cost in
    omega (
      arith,
      drew,
      drawn-cost left _ _ rows c.of-paths.ensures.reads_past c.of-paths.ensures.budget,
      drawn-cost right _ _ rows c.of-others.ensures.reads_past c.of-others.ensures.budget,
    )

pub returns-clause-ok : goal.returns-clause-ok
returns-clause-ok g c =
    let at = (goal.at.returns-clause-ok g c).After-frame in
    let left : Parts = c.args.left.now in
    let right : Parts = c.args.right.now in
    rw (c.of-paths.ensures.rows, c.of-others.ensures.rows) at c.in_ok-chart_of_both.ensures.ok
    ∙ extension_of-rows left c.frame-frame.result.now (chart_in right).rows (header g at)

pub returns-clause-exact : goal.returns-clause-exact
returns-clause-exact g c =
    let at = (goal.at.returns-clause-exact g c).After-frame in
    let left : Parts = c.args.left.now in
    let right : Parts = c.args.right.now in
    let period = ap (λ (f : Frame). f.period) (header g at) in
    merge_fault-none left right (settings g at ∙ c.in_ok-check_settings.ensures.ok)
    (common g at ∙ c.in_ok-check_common.ensures.ok)
    (rw (c.of-paths.ensures.rows, c.of-others.ensures.rows, period) at c.in_ok-chart_of_both.ensures.exact)

pub returns-clause-cost : goal.returns-clause-cost
unfolding union_cost
returns-clause-cost g c =
    let left : Parts = c.args.left.now in
    let right : Parts = c.args.right.now in
    let rows : List Row = rows_of_both (chart_in left).rows (chart_in right).rows in
    let drew = rw (c.of-paths.ensures.rows, c.of-others.ensures.rows) at c.in_ok-chart_of_both.ensures.cost in
    omega (
      arith,
      drew,
      drawn-cost left _ _ rows c.of-paths.ensures.reads_past c.of-paths.ensures.budget,
      drawn-cost right _ _ rows c.of-others.ensures.reads_past c.of-others.ensures.budget,
    )
