use Rattle.std.proofs.Common.{◌∙◌, ◌∷◌, [], ◌++◌, ap, refl, arith, length-append}
use Rattle.std.proofs.lemmas.Result.{err_from_is_err_and}
use Rattle.question_shell.specs.Drawing.{refusal_left}
use Rattle.question_shell.specs.Items.{items_left, line_of}
use Rattle.question_shell.specs.Reply.{last_line}
use Rattle.question_shell.specs.Says.{voice}
use Rattle.question_shell.proofs.DrawingLemmas.{cuts-next, gives-more, gives-nothing, needs-more, needs-nothing}
use Rattle.question_shell.proofs.DrawingLemmas.{says-next, told-last}
use Rattle.question_shell.proofs.SaysLemmas.{says-nothing}
use Rattle.question_shell.proofs.saying.say_items.Goals as goal

pub loop-item-init : goal.loop-item-init
loop-item-init g c = record {
  done = [];
  gives = gives-nothing c.args.answer.now c.args.desk.now.view c.args.steps.now c.requires.slot;
  needs = needs-nothing c.args.answer.now c.args.desk.now.walks;
  says = says-nothing (voice (g.K.Sink.said c.args.sink.now) c.args.text.now);
  count = refl;
  faults = refl;
}

pub loop-item-preserved : goal.loop-item-preserved
loop-item-preserved g c =
    let read = c.loop-item.invariant in
    record {
      done = read.done ++ c.in-Some.item ∷ [];
      gives = gives-more read.gives c.in-Some.ensures.gives;
      needs = needs-more read.needs c.in-Some.ensures.needs;
      says = says-next (voice (g.K.Sink.said c.args.sink.now) c.args.text.now)
          (voice (g.K.Sink.said c.loop-item.sink) c.loop-item.text) read.done c.in-Some.item (line_of c.in-Some.item)
          refl read.says (voice (g.K.Sink.said c.put_item.new.sink) c.put_item.new.self) c.in_ok-put_item.ensures.told;
      count = omega (arith, read.count, length-append read.done (c.in-Some.item ∷ []));
      faults = c.in_ok-put_item.ensures.faults.untouched (λ failed. absurd (cc)) ∙ read.faults;
    }

pub returns-in_err-put_item-clause-told : goal.returns-in_err-put_item-clause-told
returns-in_err-put_item-clause-told g c =
    let exit = err_from_is_err_and c.from_residual.result c.from_residual.ensures.1 in
    let read = c.loop-item.invariant in
    let all = gives-more read.gives c.in-Some.ensures.gives in
    rw exit.1
    (cuts-next (voice (g.K.Sink.said c.args.sink.now) c.args.text.now)
    (voice (g.K.Sink.said c.loop-item.sink) c.loop-item.text) read.done c.in-Some.item (line_of c.in-Some.item)
    refl read.says (g.K.Sink.said c.put_item.new.sink)
    (items_left g.W.Lazy.left c.args.answer.now c.args.desk.now.view)
    (items_left g.W.Lazy.left c.draw.new.self c.draw.new.desk.view) (refusal_left c.args.answer.now)
    c.in_err-put_item.ensures.told all.items)

pub returns-clause-told : goal.returns-clause-told
returns-clause-told g c =
    let read = c.loop-item.invariant in
    let last = c.in_default.ensures in
    let refusal = last.gives.refusal ∙ read.gives.refusal in
    told-last (voice (g.K.Sink.said c.args.sink.now) c.args.text.now)
    (voice (g.K.Sink.said c.loop-item.sink) c.loop-item.text) (voice (g.K.Sink.said c.put.new.sink) c.put.new.self)
    read.done (items_left g.W.Lazy.left c.args.answer.now c.args.desk.now.view)
    (items_left g.W.Lazy.left c.loop-item.answer c.loop-item.desk.view)
    (refusal_left c.args.answer.now) c.last_line.result c.put.result read.gives.items
    (last.gives.items ∙ last.none.items)
    (c.last_line.ensures ∙ (ap (λ refusal. last_line refusal c.loop-item.count) refusal
    ∙ ap (last_line (refusal_left c.args.answer.now)) read.count))
    read.says c.put.ensures.told
