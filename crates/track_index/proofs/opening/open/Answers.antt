use Rattle.std.proofs.Common.{◌≡◌, None, arith, ap, subst, sym, ◌∙◌}
use Rattle.std.specs.Prelude.{IfErr, OnOk}
use Rattle.std.proofs.lemmas.Result.{err_from_is_err_and, IfOk-weaker}
use Rattle.track_types.specs.Flaws.{IsFormatFaultFor}
use Rattle.snapshots.specs.IndexCost.{open_cost}
use Rattle.track_index.proofs.DecidingLemmas.{decided, first_flaw-file}
use Rattle.track_index.proofs.OpeningLemmas.{bytes_cost-read, fault-unread, first_flaw-read}
use Rattle.track_index.proofs.opening.open.Goals as goal

pub returns-in_err-read-clause-flaw : goal.returns-in_err-read-clause-flaw
returns-in_err-read-clause-flaw g c =
    let known = fault-unread c.args.bytes.now c.in_err-read.field-0.0 c.in_err-read.ensures.flaw in
    let given = err_from_is_err_and c.from_residual.result c.from_residual.ensures.1 in
    rw (given.1, given.2) known

pub returns-in_err-read-clause-flawless : goal.returns-in_err-read-clause-flawless
returns-in_err-read-clause-flawless g c = first_flaw-file c.args.bytes.now

pub returns-clause-flawless : goal.returns-clause-flawless
returns-clause-flawless g c = first_flaw-file c.args.bytes.now

pub returns-clause-exact : goal.returns-clause-exact
returns-clause-exact g c =
    subst (λ flaw. OnOk c.of_file.result (flaw ≡ None))
    (sym (first_flaw-read c.args.bytes.now c.in_ok-read.read.parts c.in_ok-read.ensures.ok)) c.of_file.ensures.exact

pub returns-clause-decides : goal.returns-clause-decides
returns-clause-decides g c = λ whole file.
    decided c.in_ok-read.read.parts whole c.of_file.result (c.in_ok-read.ensures.one whole file.formed file.spelled)
    file.valid c.of_file.ensures.ok c.of_file.ensures.flaw

pub returns-clause-flaw : goal.returns-clause-flaw
returns-clause-flaw g c =
    subst (λ flaw. IfErr c.of_file.result (λ fault. IsFormatFaultFor flaw fault))
    (sym (first_flaw-read c.args.bytes.now c.in_ok-read.read.parts c.in_ok-read.ensures.ok)) c.of_file.ensures.flaw

pub returns-clause-cost : goal.returns-clause-cost
returns-clause-cost g c =
    omega (
      arith,
      c.of_file.ensures.cost,
      bytes_cost-read c.args.bytes.now c.in_ok-read.read.parts c.in_ok-read.ensures.ok,
    )

pub returns-clause-cost_opened : goal.returns-clause-cost_opened
returns-clause-cost_opened g c =
    let cost = bytes_cost-read c.args.bytes.now c.in_ok-read.read.parts c.in_ok-read.ensures.ok in
    IfOk-weaker c.of_file.result _ _ (λ index is. cost ∙ ap open_cost (sym is)) c.of_file.ensures.ok
