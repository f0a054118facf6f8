use Rattle.std.proofs.Common.{◌≡◌, ◌∙◌, ◌++◌, ap}
use Rattle.std.proofs.lemmas.Result.{on_ok_weaker}
use Rattle.list_laws.proofs.FrontLemmas.{All-back}
use Rattle.track_types.specs.Near.{IsRawInRange}
use Rattle.gract_top.proofs.rows_receiver.RowsReceiverReceiver.take.Goals as goal

pub append-requires : goal.append-requires
append-requires c =
    let has = c.requires.2.3 in
    let all = c.in_ok-take.ensures c.requires.1 has.raws has.taken in
    let batch : c.deref.result.now ≡ all.more =
    c.deref.ensures.value ∙ all.added ∙ ap (λ front. front ++ all.more) c.clear.ensures.items in
    rw batch (All-back IsRawInRange has.raws all.more all.promise.ranges)

pub returns : goal.returns
returns c = on_ok_weaker c.append.result (λ grids start bytes since.
    let has = since.3 in
    let all = c.in_ok-take.ensures bytes has.raws has.taken in
    let batch : c.deref.result.now ≡ all.more =
    c.deref.ensures.value ∙ all.added ∙ ap (λ front. front ++ all.more) c.clear.ensures.items in (
      since.0,
      since.1,
      since.2,
      record {
        raws = has.raws ++ all.more;
        taken = all.promise;
        gridded = rw batch at (grids since.0 since.1 has.raws has.gridded);
      },
    )) c.append.ensures
