use Rattle.std.proofs.Common.{refl, arith, ◌∙◌}
use Rattle.std.proofs.lemmas.Bool.Decides.{nat_tests}
use Rattle.track_types.proofs.extents.Extents.width.Goals as goal

pub returns : goal.returns
returns c = λ rows are.
    let columns = rw (are.columns.least, are.columns.greatest) at c.width-columns.ensures in
    let lines = rw (are.lines.least, are.lines.greatest) at c.width-lines.ensures in
    grind (arith, nat_tests, c.max.ensures, columns, lines)
