use Rattle.std.proofs.Common.{◌∙◌, List, ap, arith}
use Rattle.std.proofs.lemmas.Result.{IfOk-weaker}
use Rattle.track_types.specs.declared.parts.Parts.{Parts}
use Rattle.track_types.specs.Limits.{limit_of}
use Rattle.track_types.specs.declared.limit.LimitKind.TheVariants.{Rows}
use Rattle.track_types.specs.declared.row.Row.{Row}
use Rattle.snapshots.specs.Parts.{chart_in}
use Rattle.path_union.specs.Reads.{first_beyond}
use Rattle.path_union.specs.Union.{rows_of_both, rows_of_tail}
use Rattle.index_merge.specs.Extension.{extension_cost}
use Rattle.index_merge.proofs.ReadsLemmas.{drawn-cost, up_to-free}
use Rattle.index_merge.proofs.UnionLemmas.{extension_of-rows}
use Rattle.index_merge.proofs.extending.extended.Goals as goal

pub chart_of_both-requires-clause-older : goal.chart_of_both-requires-clause-older
chart_of_both-requires-clause-older g c = rw c.of.ensures.rows c.of.ensures.timely

pub returns-clause-ok : goal.returns-clause-ok
returns-clause-ok g c =
    let parts : Parts = c.args.index.now in
    let header = c.frame.ensures.value ∙ ap (λ (p : Parts). p.frame) c.stores-stores.ensures.value in
    IfOk-weaker c.chart_of_both.result _ _ (λ chart is.
    rw (c.of.ensures.rows, c.of-rows.ensures, c.rows_of_tail.ensures.value) at is
    ∙ extension_of-rows parts c.frame.result.now (rows_of_tail c.args.later) header) c.chart_of_both.ensures.ok

pub returns-clause-cost : goal.returns-clause-cost
unfolding extension_cost
returns-clause-cost g c =
    let parts : Parts = c.args.index.now in
    let rows : List Row = rows_of_both (chart_in parts).rows (rows_of_tail c.args.later) in
    let drew = rw (c.of.ensures.rows, c.of-rows.ensures, c.rows_of_tail.ensures.value) at c.chart_of_both.ensures.cost in
    omega (
      arith,
      drew,
      drawn-cost parts _ _ rows c.of.ensures.reads_past c.of.ensures.budget,
      up_to-free (first_beyond (limit_of Rows) rows),
    )
