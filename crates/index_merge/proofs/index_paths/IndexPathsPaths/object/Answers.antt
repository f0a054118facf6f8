use Rattle.std.proofs.Common.{sym, arith}
use Rattle.std.proofs.lemmas.Option.{slice_get_past}
use Rattle.index_merge.proofs.RowsLemmas.{object-least, rows_from-none}
use Rattle.index_merge.proofs.index_paths.IndexPathsPaths.object.Goals as goal

pub returns-then-self-objects-clause-least : goal.returns-then-self-objects-clause-least
returns-then-self-objects-clause-least c =
    object-least c.args.self.now.index.now c.stores-stores.ensures.valid c.args.self.now.place c.object_at.result
    (rw c.stores-stores.ensures.value at c.object_at.ensures.value)

pub returns-else-self-objects-clause-value : goal.returns-else-self-objects-clause-value
returns-else-self-objects-clause-value c =
    let many = rw c.stores-stores.ensures.value at c.objects.ensures.value in
    sym (slice_get_past c.args.self.now.index.now.objects c.args.self.now.place (omega (arith, many, c.if-self-objects.false)))

pub returns-else-self-objects-clause-none : goal.returns-else-self-objects-clause-none
returns-else-self-objects-clause-none c =
    let many = rw c.stores-stores.ensures.value at c.objects.ensures.value in
    rows_from-none c.args.self.now.index.now c.args.self.now.place (omega (arith, many, c.if-self-objects.false))
