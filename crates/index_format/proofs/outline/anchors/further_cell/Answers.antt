use Rattle.std.proofs.lemmas.Result.{err_from_is_err_and}
use Rattle.index_format.proofs.AnchorLemmas.{anchor_in-untold, anchor_in-out, anchor_in-further}
use Rattle.index_format.proofs.outline.anchors.further_cell.Goals as goal

pub returns-in_err-code-clause-exact : goal.returns-in_err-code-clause-exact
returns-in_err-code-clause-exact c =
    let p = err_from_is_err_and c.from_residual.result c.from_residual.ensures.1 in
    rw (p.1, p.2) (anchor_in-untold c.args.frame.now c.args.period c.args.index c.args.reader.now c.args.last c.in_err-code.field-0.0
    (rw c.of-place.ensures at c.in_err-code.ensures.exact))

pub returns-in-Some-clause-exact : goal.returns-in-Some-clause-exact
returns-in-Some-clause-exact c = rw c.in-Some.ensures.0 (anchor_in-further c.args.frame.now c.args.period c.args.index c.args.reader.now c.args.last
    c.in_ok-code.code c.told.new.reader (rw c.of-place.ensures at c.in_ok-code.ensures.exact) c.in-Some.ensures.1)

pub returns-in-None-clause-exact : goal.returns-in-None-clause-exact
returns-in-None-clause-exact c = rw (c.flaw.ensures, c.of-place.ensures) (anchor_in-out c.args.frame.now c.args.period c.args.index c.args.reader.now c.args.last
    c.in_ok-code.code c.told.new.reader (rw c.of-place.ensures at c.in_ok-code.ensures.exact) c.in-None.ensures)
