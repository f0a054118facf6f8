use Rattle.std.proofs.Common.{◌∙◌, ◌++◌, Some, ap, append-nil, arith, false, length, sym, true}
use Rattle.bit_rank.proofs.RankLemmas.{rank_of-le-place}
use Rattle.outline_parts.specs.Told.{period_view}
use Rattle.outline_parts.proofs.ObjectLemmas.{absent-told, cell-words, present-told, rank-known}
use Rattle.outline_parts.proofs.ScatterLemmas.{rank-more}
use Rattle.outline_parts.proofs.telling.push_object.Goals as goal

pub returns-then-not-get-clause-ok : goal.returns-then-not-get-clause-ok
returns-then-not-get-clause-ok c =
    let view = period_view c.args.at.frame c.args.at.number c.args.at.start c.args.period.now in
    let read = c.get.ensures ∙ ap Some c.if-not-get.true in
    sym (ap (λ more. c.args.placed.now.items ++ more) (absent-told view c.requires.snapshot c.args.codes.now c.requires.codes c.args.index c.requires.within read)
    ∙ append-nil c.args.placed.now.items)

pub returns-then-not-get-clause-rank : goal.returns-then-not-get-clause-rank
returns-then-not-get-clause-rank c =
    let read = c.get.ensures ∙ ap Some c.if-not-get.true in
    omega (arith, c.requires.rank, rank-more c.args.period.now.present c.args.index false c.requires.within read)

pub bounds-as_slice-rank : goal.bounds-as_slice-rank
bounds-as_slice-rank c =
    let view = period_view c.args.at.frame c.args.at.number c.args.at.start c.args.period.now in
    let read = c.get.ensures ∙ ap Some c.if-not-get.false in
    let known = rank-known view c.requires.snapshot c.args.codes.now c.requires.codes c.args.index c.requires.within read in
    omega (arith, known, c.requires.rank, c.requires.snapshot.shaped.lengths, ap length c.as_slice.ensures)

pub bounds-as_slice-rank-2 : goal.bounds-as_slice-rank-2
bounds-as_slice-rank-2 c =
    let view = period_view c.args.at.frame c.args.at.number c.args.at.start c.args.period.now in
    let read = c.get.ensures ∙ ap Some c.if-not-get.false in
    let known = rank-known view c.requires.snapshot c.args.codes.now c.requires.codes c.args.index c.requires.within read in
    omega (arith, known, c.requires.rank, c.requires.snapshot.shaped.offsets, ap length c.as_slice-2.ensures)

pub bounds-codes-rank : goal.bounds-codes-rank
bounds-codes-rank c =
    let view = period_view c.args.at.frame c.args.at.number c.args.at.start c.args.period.now in
    let read = c.get.ensures ∙ ap Some c.if-not-get.false in
    let known = rank-known view c.requires.snapshot c.args.codes.now c.requires.codes c.args.index c.requires.within read in
    omega (arith, known, c.requires.rank, c.requires.snapshot.shaped.perm, c.requires.codes.long)

pub pack-requires-clause-column : goal.pack-requires-clause-column
pack-requires-clause-column c =
    rw c.cell_at-cell.ensures (cell-words c.args.at.frame.height _ c.requires.snapshot.shaped.header.limit).0

pub pack-requires-clause-line : goal.pack-requires-clause-line
pack-requires-clause-line c =
    rw c.cell_at-cell.ensures (cell-words c.args.at.frame.height _ c.requires.snapshot.shaped.header.limit).1

pub returns-clause-ok : goal.returns-clause-ok
returns-clause-ok c =
    let view = period_view c.args.at.frame c.args.at.number c.args.at.start c.args.period.now in
    let read = c.get.ensures ∙ ap Some c.if-not-get.false in
    let told = present-told view c.requires.snapshot c.args.codes.now c.requires.codes c.args.index c.requires.within
    c.args.next.rank c.args.next.start read c.requires.rank c.requires.start in
    (rw (c.as_slice.ensures, c.as_slice-2.ensures, c.pack.ensures, c.cell_at-cell.ensures) at c.in_ok-push.ensures.items)
    ∙ ap (λ more. c.args.placed.now.items ++ more) (sym told)

pub returns-clause-rank : goal.returns-clause-rank
returns-clause-rank c =
    let read = c.get.ensures ∙ ap Some c.if-not-get.false in
    omega (arith, c.requires.rank, rank-more c.args.period.now.present c.args.index true c.requires.within read)

pub overflow_add-result : goal.overflow_add-result
overflow_add-result c = omega (
  arith,
  c.requires.rank,
  rank_of-le-place c.args.period.now.present c.args.index,
  c.requires.within,
  c.requires.snapshot.shaped.few,
)
