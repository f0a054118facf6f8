use Rattle.std.proofs.Common.{◌≡◌, ◌∙◌, ◌++◌, ap}
use Rattle.std.proofs.lemmas.Result.{err_from_is_err_and}
use Rattle.list_laws.proofs.FrontLemmas.{All-back}
use Rattle.track_types.specs.Near.{IsRawInRange}
use Rattle.gract_top.proofs.rows_receiver.RowsReceiver.finish.Goals as goal

pub returns-in_err-finish-clause-fault : goal.returns-in_err-finish-clause-fault
returns-in_err-finish-clause-fault c =
    let answered = err_from_is_err_and c.from_residual.result c.from_residual.ensures.1 in
    rw (answered.1, answered.2) (λ cell tick bytes has. c.in_err-finish.ensures.fault bytes has.raws has.taken)

pub append-requires : goal.append-requires
append-requires c =
    let has = c.requires.3 in
    let all = c.in_ok-finish.ensures.ok c.requires.2 has.raws has.taken in
    let batch : c.deref.result.now ≡ all.more =
    c.deref.ensures.value ∙ all.added ∙ ap (λ front. front ++ all.more) c.clear.ensures.items in
    rw batch (All-back IsRawInRange has.raws all.more all.promise.ranges)

pub returns-in-Ok-clause-ok : goal.returns-in-Ok-clause-ok
returns-in-Ok-clause-ok c = λ cell tick bytes has.
    let all = c.in_ok-finish.ensures.ok bytes has.raws has.taken in
    let batch : c.deref.result.now ≡ all.more =
    c.deref.ensures.value ∙ all.added ∙ ap (λ front. front ++ all.more) c.clear.ensures.items in
    record {
      raws = has.raws ++ all.more;
      rows_of = all.promise;
      gridded = rw batch at (c.in-Ok.ensures cell tick has.raws has.gridded);
    }
