use Rattle.std.proofs.Common.{inr, refl}
use Rattle.std.proofs.lemmas.Result.{err_from_is_err_and}
use Rattle.gract_top.proofs.OutcomeLemmas.{ended-late, ended-unsaved}
use Rattle.gract_top.proofs.StoppingLemmas.{CountsFiles-after, CountsFiles-stopped}
use Rattle.gract_top.proofs.TailAskingLemmas.{EndsAskTail-opened, EndsAskTail-stopped}
use Rattle.gract_top.proofs.TailOpeningLemmas.{GridsTail-loaded, OpensTailed-loaded, StopsAtTail-stopped}
use Rattle.gract_top.proofs.tail_asking.ask_tail.Goals as goal

pub returns-in_err-tail-clause-ends : goal.returns-in_err-tail-clause-ends
returns-in_err-tail-clause-ends g c =
    let gave = err_from_is_err_and c.from_residual-in_err-tail.result c.from_residual-in_err-tail.ensures.1 in
    rw (gave.1, gave.2) (EndsAskTail-stopped _ c.args.index.now c.args.tail.now _ _ _ _ _
    (inr (
      c.in_ok-index.index,
      _,
      c.in_ok-index.ensures.ok,
      StopsAtTail-stopped _ c.in_ok-index.index c.args.tail.now c.settings_of.result _ _ _ c.settings_of.ensures.value
          c.in_err-tail.ensures.err,
    ))
    (CountsFiles-after _ _ _ _ c.in_ok-index.ensures.ok.load_faults c.in_ok-index.ensures.ok.save_faults
    (CountsFiles-stopped _ _ _ _ _ _ c.in_err-tail.ensures.err.stops))
    (refl, refl))

pub returns-clause-ends : goal.returns-clause-ends
returns-clause-ends g c = rw c.end_of_talk.ensures
    (EndsAskTail-opened _ c.args.index.now c.args.tail.now _ _ _ _ _ c.in_ok-index.index c.in_ok-tail.tail _
    (ended-late c.ask_opened.result) (ended-unsaved c.ask_opened.result)
    (OpensTailed-loaded c.args.index.now c.args.tail.now c.in_ok-index.index c.in_ok-tail.tail _ _ _ c.in_ok-index.ensures.ok
    (GridsTail-loaded c.in_ok-index.index c.args.tail.now c.in_ok-tail.tail c.settings_of.result _ _ _
    c.settings_of.ensures.value c.in_ok-tail.ensures.ok))
    c.ask_opened.ensures.together c.ask_opened.ensures.answers)
