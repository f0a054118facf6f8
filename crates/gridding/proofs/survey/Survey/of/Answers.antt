use Rattle.std.proofs.Common.{take}
use Rattle.std.proofs.lemmas.List.{take_all, take_more}
use Rattle.gridding.proofs.ObjectCountLemmas.{no_row}
use Rattle.gridding.proofs.survey.Survey.of.Goals as goal

pub loop-row-preserved : goal.loop-row-preserved
loop-row-preserved c =
    let rows = c.args.rows.now in
    let done = c.loop-row.row-index in
    rw (take_more rows done no_row c.loop-row-test.true) (c.with-survey.ensures (take done rows) c.loop-row.invariant)

pub returns : goal.returns
returns c = rw (take_all c.loop-row.row-index c.args.rows.now c.loop-row-test.false) at c.loop-row.invariant
