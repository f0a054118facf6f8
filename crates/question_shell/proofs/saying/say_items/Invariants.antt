use Rattle.std.proofs.Common.{◌≡◌, List, length}
use Rattle.std.specs.List.{flat_map}
use Rattle.question_shell.specs.Drawing.{AnswerNeeds, GivesItems}
use Rattle.question_shell.specs.Items.{items_left, line_of}
use Rattle.question_shell.specs.Says.{Says, voice}
use Rattle.question_shell.specs.declared.item.Item.{Item}
use Rattle.question_shell.proofs.saying.say_items.Given as goal

abbrev pub invariant-loop-item : goal.invariant-loop-item
invariant-loop-item g l = record {
  done : List Item;
  gives : GivesItems g.W.Lazy.left g.W.Lazy.budget l.fn.answer l.answer l.fn.desk.view l.desk.view l.fn.steps l.steps
      done;
  needs : AnswerNeeds g.W.Lazy.needs l.fn.answer l.answer l.fn.desk.walks l.desk.walks;
  says : Says (voice (g.K.Sink.said l.fn.sink) l.fn.text) (voice (g.K.Sink.said l.sink) l.text) (flat_map line_of done);
  count : l.count ≡ length done;
  faults : g.K.Sink.faults l.sink ≡ g.K.Sink.faults l.fn.sink;
}

abbrev pub decreases-loop-item : goal.decreases-loop-item
decreases-loop-item g l = length (items_left g.W.Lazy.left l.answer l.desk.view)
