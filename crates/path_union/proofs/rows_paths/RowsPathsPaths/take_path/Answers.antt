use Rattle.std.proofs.Common.{List, subst, sym, take, drop, arith}
use Rattle.std.proofs.lemmas.List.{take-append-drop}
use Rattle.track_types.specs.Row.{IsAscending}
use Rattle.track_types.specs.declared.row.Row.{Row}
use Rattle.path_union.proofs.PathLemmas.{ascending-behind, first-path, some-front}
use Rattle.path_union.proofs.rows_paths.RowsPathsPaths.take_path.Goals as goal

pub invariant_of-self : goal.invariant_of-self
invariant_of-self c =
    let rows : List Row = c.self.inside.rows.now in
    subst IsAscending (sym c.split_at.ensures.back)
    (ascending-behind (take c.path_end.result rows) (drop c.path_end.result rows)
    (subst IsAscending (sym (take-append-drop c.path_end.result rows)) c.self.invariant))

pub returns-clause-path : goal.returns-clause-path
returns-clause-path c =
    rw (sym c.self.view_is, c.over.ensures)
    (first-path c.args.object c.self.inside.rows.now c.self.invariant (rw (sym c.self.view_is) at c.requires) c.path_end.result
    c.path_end.ensures.parted c.path_end.ensures.bound c.split_at.result.0.now c.split_at.result.1.now
    c.split_at.ensures.front c.split_at.ensures.back)

pub returns-clause-fewer : goal.returns-clause-fewer
returns-clause-fewer c =
    let some = some-front c.args.object c.self.inside.rows.now c.self.invariant (rw (sym c.self.view_is) at c.requires) c.path_end.result
    c.path_end.ensures.parted c.path_end.ensures.bound in
    rw (sym c.self.view_is) (omega (arith, some, c.split_at.ensures.back_len))
