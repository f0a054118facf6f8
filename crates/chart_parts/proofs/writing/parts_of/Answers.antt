use Rattle.std.proofs.Common.{◌≡◌, length}
use Rattle.rule_order.specs.Order.{IsSettled}
use Rattle.snapshots.specs.Parts.{chart_in}
use Rattle.snapshots.specs.SoundParts.{IsValid}
use Rattle.chart_parts.proofs.PartsLemmas.{IsSettled-parts_of, IsValid-parts_of, chart_in-parts_of, holds_of_cut}
use Rattle.chart_parts.proofs.writing.parts_of.Goals as goal

pub returns-clause-valid : goal.returns-clause-valid
returns-clause-valid c =
    holds_of_cut IsValid c.args.chart.now c.in_ok-cut.cut c.in_ok-cut.ensures (IsValid-parts_of c.args.chart.now)
    c.parts_of_cut.result (c.parts_of_cut.ensures c.args.chart.now c.in_ok-cut.ensures)

pub returns-clause-reads_back : goal.returns-clause-reads_back
returns-clause-reads_back c =
    holds_of_cut (λ parts. chart_in parts ≡ c.args.chart.now) c.args.chart.now c.in_ok-cut.cut c.in_ok-cut.ensures
    (chart_in-parts_of c.args.chart.now) c.parts_of_cut.result
    (c.parts_of_cut.ensures c.args.chart.now c.in_ok-cut.ensures)

pub returns-clause-order : goal.returns-clause-order
returns-clause-order c =
    holds_of_cut (λ parts. IsSettled (length parts.alphabet) parts.rules) c.args.chart.now c.in_ok-cut.cut
    c.in_ok-cut.ensures
    (IsSettled-parts_of c.args.chart.now) c.parts_of_cut.result
    (c.parts_of_cut.ensures c.args.chart.now c.in_ok-cut.ensures)
