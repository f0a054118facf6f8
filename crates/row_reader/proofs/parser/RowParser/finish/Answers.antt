use Rattle.std.proofs.Common.{refl}
use Rattle.std.proofs.lemmas.Result.{err_from_is_err_and}
use Rattle.row_reader.proofs.ProgressLemmas.{AreRowsOf-after}
use Rattle.row_reader.proofs.TakenLemmas.{records_of-kept}
use Rattle.row_reader.proofs.parser.RowParser.finish.Goals as goal

pub returns-in_err-read_on-clause-fault : goal.returns-in_err-read_on-clause-fault
returns-in_err-read_on-clause-fault c =
    let answered = err_from_is_err_and c.from_residual.result c.from_residual.ensures.1 in
    rw (answered.1, answered.2) (λ bytes raws has.
    let whole = records_of-kept bytes c.as_slice-text.result.now raws c.args.self c.as_slice-text.ensures.value has in
    c.in_err-read_on.ensures.fault c.as_slice-text.result.now refl bytes has.records has.past whole)

pub returns-clause-ok : goal.returns-clause-ok
returns-clause-ok c = λ bytes raws has.
    let read = c.in_ok-read_on.ensures.ok c.as_slice-text.result.now refl in
    let whole = records_of-kept bytes c.as_slice-text.result.now raws c.args.self c.as_slice-text.ensures.value has in
    record {
      more = read.more;
      added = read.added;
      promise = AreRowsOf-after bytes c.as_slice-text.result.now has.records raws read.more c.in_ok-read_on.field-0
          whole has.rows has.ranges (read.promise has.records has.past);
    }
