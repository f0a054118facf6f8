use Rattle.std.proofs.Common.{refl}
use Rattle.std.proofs.lemmas.Result.{err_from_is_err_and}
use Rattle.gract_top.proofs.FaultLemmas.{ask-unsaved}
use Rattle.gract_top.proofs.SamplingLemmas.{EndsSample-early, EndsSample-late, EndsSummed-late, SumsSample-passed}
use Rattle.gract_top.proofs.sampling.sample.Goals as goal

pub returns-in_err-bytes-clause-ends : goal.returns-in_err-bytes-clause-ends
returns-in_err-bytes-clause-ends g c =
    let gave = err_from_is_err_and c.from_residual.result c.from_residual.ensures.1 in
    rw (gave.1, gave.2) (EndsSample-early _ c.args.settings _ _ _ _ _ _ c.in_err-bytes.ensures.err refl refl refl)

pub returns-clause-ends : goal.returns-clause-ends
returns-clause-ends g c =
    EndsSample-late _ c.args.settings _ _ _ _ _ _ (EndsSummed-late _ _ _ _ _ _ c.sum_bytes.ensures.ended)
    (ask-unsaved c.sum_bytes.result) c.pass-bytes.ensures.kept
    (SumsSample-passed _ c.args.settings _ _ _ (g.F.Files.given c.args.files.now) c.in_ok-bytes.bytes.items
    c.pass-bytes.result.items c.in_ok-bytes.ensures.accepted c.in_ok-bytes.ensures.file c.in_ok-bytes.ensures.short
    c.pass-bytes.ensures.given c.sum_bytes.ensures.ended c.sum_bytes.ensures.decides)
