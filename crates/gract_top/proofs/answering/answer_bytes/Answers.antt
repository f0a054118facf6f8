use Rattle.std.proofs.Common.{◌≡◌, inr, arith}
use Rattle.gract_top.proofs.OutcomeLemmas.{AnswersOver-opened, AnswersOver-same}
use Rattle.gract_top.proofs.answering.answer_bytes.Goals as goal

pub returns-clause-ended : goal.returns-clause-ended
returns-clause-ended g c = rw c.end_of_talk.ensures
    (inr (record {
      parts = c.in_ok-index.index;
      file = c.in_ok-index.ensures.ok;
      answers = AnswersOver-opened _ _ _ _ c.new.result.view.index.now c.in_ok-index.index c.open_bytes.new.steps
          (omega (arith, c.in_ok-index.ensures.cost, c.in_ok-index.ensures.cost_opened)) c.new.ensures c.answer_with.ensures.answers;
    }))

pub returns-clause-decides : goal.returns-clause-decides
returns-clause-decides g c = λ parts file.
    let is = c.in_ok-index.ensures.decides parts file in
    let same : c.in_ok-index.index ≡ parts = cc in
    rw c.end_of_talk.ensures (inr (AnswersOver-same _ _ _ _ c.in_ok-index.index parts same
    (AnswersOver-opened _ _ _ _ c.new.result.view.index.now c.in_ok-index.index c.open_bytes.new.steps
    (omega (arith, c.in_ok-index.ensures.cost, c.in_ok-index.ensures.cost_opened)) c.new.ensures c.answer_with.ensures.answers)))
