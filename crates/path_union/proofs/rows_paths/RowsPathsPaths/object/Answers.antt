use Rattle.std.proofs.Common.{subst, sym}
use Rattle.track_types.specs.Row.{IsAscending}
use Rattle.path_union.proofs.PathLemmas.{least-if}
use Rattle.path_union.proofs.rows_paths.RowsPathsPaths.object.Goals as goal

pub returns-clause-least : goal.returns-clause-least
returns-clause-least c =
    least-if c.first_object.result c.args.self.now (subst IsAscending c.self.view_is c.self.invariant)
    (rw (sym c.self.view_is) c.first_object.ensures)
