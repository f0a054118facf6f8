use Rattle.std.proofs.Common.{arith, subst, sym}
use Rattle.std.specs.Prelude.{IfErr}
use Rattle.std.proofs.lemmas.Result.{err_from_is_err_and}
use Rattle.track_types.specs.Flaws.{IsFormatFaultFor}
use Rattle.track_index.proofs.OpeningLemmas.{bytes_cost-read, fault-unread, first_flaw-read}
use Rattle.gract_top.proofs.UpgradingLemmas.{upgraded-file}
use Rattle.gract_top.proofs.upgrading.upgraded_parts.Goals as goal

pub returns-in_err-parts-clause-flaw : goal.returns-in_err-parts-clause-flaw
returns-in_err-parts-clause-flaw g c =
    let given = err_from_is_err_and c.from_residual.result c.from_residual.ensures.1 in
    rw (given.1, given.2, sym c.deref.ensures.value)
    (fault-unread c.deref.result.now c.in_err-parts.field-0.0 c.in_err-parts.ensures.flaw)

pub returns-clause-ok : goal.returns-clause-ok
returns-clause-ok g c =
    rw (sym c.deref.ensures.value)
    (upgraded-file c.upgraded.result c.deref.result.now c.in_ok-parts.parts c.in_ok-parts.ensures.formed
    c.in_ok-parts.ensures.spelled c.upgraded.ensures.exact c.upgraded.ensures.ok)

pub returns-clause-flaw : goal.returns-clause-flaw
returns-clause-flaw g c =
    rw (sym c.deref.ensures.value)
    (subst (λ flaw. IfErr c.upgraded.result (λ fault. IsFormatFaultFor flaw fault))
    (sym (first_flaw-read c.deref.result.now c.in_ok-parts.parts c.in_ok-parts.ensures.ok)) c.upgraded.ensures.flaw)

pub returns-clause-cost : goal.returns-clause-cost
returns-clause-cost g c =
    rw (sym c.deref.ensures.value)
    (omega (arith, c.upgraded.ensures.cost, bytes_cost-read c.deref.result.now c.in_ok-parts.parts c.in_ok-parts.ensures.ok))
