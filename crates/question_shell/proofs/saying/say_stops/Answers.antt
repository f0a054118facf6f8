use Rattle.std.proofs.lemmas.Grind.{common_steps}
use Rattle.std.proofs.Common.{◌∙◌, ◌∷◌, [], ◌++◌, ap, map, None, refl, arith, length-append}
use Rattle.std.proofs.lemmas.Result.{err_from_is_err_and}
use Rattle.question_shell.specs.Items.{line_of}
use Rattle.question_shell.specs.Reply.{ok_line}
use Rattle.question_shell.specs.Says.{voice}
use Rattle.question_shell.specs.declared.answer.Answer.TheVariants as answer
use Rattle.question_shell.specs.declared.item.Item.TheVariants as item
use Rattle.question_shell.proofs.DrawingLemmas.{cuts-next, gives-more, gives-nothing, gives-stop, says-next, told-last}
use Rattle.question_shell.proofs.SaysLemmas.{says-nothing}
use Rattle.question_shell.proofs.saying.say_stops.Goals as goal

pub loop-stop-init : goal.loop-stop-init
loop-stop-init g c = record {
  done = [];
  gives = gives-nothing (answer.Walk c.args.walk.now) [] c.args.steps.now tt;
  needs = λ read is. is;
  says = says-nothing (voice (g.K.Sink.said c.args.sink.now) c.args.text.now);
  count = refl;
  faults = refl;
}

pub loop-stop-preserved : goal.loop-stop-preserved
loop-stop-preserved g c =
    let read = c.loop-stop.invariant in
    let found = item.Stop c.in-Some.stop in
    record {
      done = read.done ++ found ∷ [];
      gives = gives-more read.gives (gives-stop c.in-Some.stop c.in-Some.ensures.found c.in-Some.ensures.cost);
      needs = λ name is. read.needs name (c.in-Some.ensures.needs name is);
      says = says-next (voice (g.K.Sink.said c.args.sink.now) c.args.text.now)
          (voice (g.K.Sink.said c.loop-stop.sink) c.loop-stop.text) read.done found (line_of found)
          refl read.says (voice (g.K.Sink.said c.put_item.new.sink) c.put_item.new.self) c.in_ok-put_item.ensures.told;
      count = omega (arith, read.count, length-append read.done (found ∷ []));
      faults = c.in_ok-put_item.ensures.faults.untouched (λ failed. absurd (cc)) ∙ read.faults;
    }

pub returns-in_err-put_item-clause-told : goal.returns-in_err-put_item-clause-told
returns-in_err-put_item-clause-told g c =
    let exit = err_from_is_err_and c.from_residual.result c.from_residual.ensures.1 in
    let read = c.loop-stop.invariant in
    let found = item.Stop c.in-Some.stop in
    let all = gives-more read.gives (gives-stop c.in-Some.stop c.in-Some.ensures.found c.in-Some.ensures.cost) in
    rw exit.1
    (cuts-next (voice (g.K.Sink.said c.args.sink.now) c.args.text.now)
    (voice (g.K.Sink.said c.loop-stop.sink) c.loop-stop.text) read.done found (line_of found)
    refl read.says (g.K.Sink.said c.put_item.new.sink)
    (map item.Stop (g.W.Lazy.left c.args.walk.now)) (map item.Stop (g.W.Lazy.left c.draw.new.self)) None
    c.in_err-put_item.ensures.told all.items)

pub returns-clause-told : goal.returns-clause-told
returns-clause-told g c =
    let read = c.loop-stop.invariant in
    let last = c.in_default.ensures in
    told-last (voice (g.K.Sink.said c.args.sink.now) c.args.text.now)
    (voice (g.K.Sink.said c.loop-stop.sink) c.loop-stop.text) (voice (g.K.Sink.said c.put.new.sink) c.put.new.self)
    read.done (map item.Stop (g.W.Lazy.left c.args.walk.now)) (map item.Stop (g.W.Lazy.left c.loop-stop.walk))
    None c.ok_line.result c.put.result read.gives.items
    (ap (map item.Stop) last.none)
    (c.ok_line.ensures ∙ ap ok_line read.count)
    read.says c.put.ensures.told

pub overflow_add-count : goal.overflow_add-count
overflow_add-count g c = grind (arith, common_steps)
