use Rattle.std.proofs.Common.{◌≡◌, List, [], length}
use Rattle.std.specs.List.{flat_map}
use Rattle.step_count.specs.Reads.{ReadsWithin}
use Rattle.question_shell.specs.Drawing.{GivesItems}
use Rattle.question_shell.specs.Items.{line_of}
use Rattle.question_shell.specs.Says.{Says, voice}
use Rattle.question_shell.specs.declared.answer.Answer.TheVariants as answer
use Rattle.question_shell.specs.declared.item.Item.{Item}
use Rattle.question_shell.proofs.saying.say_stops.Given as goal

abbrev pub invariant-loop-stop : goal.invariant-loop-stop
invariant-loop-stop g l = record {
  done : List Item;
  gives : GivesItems g.W.Lazy.left g.W.Lazy.budget (answer.Walk l.fn.walk) (answer.Walk l.walk) [] [] l.fn.steps l.steps
      done;
  needs : ReadsWithin (g.W.Lazy.needs l.walk) (g.W.Lazy.needs l.fn.walk);
  says : Says (voice (g.K.Sink.said l.fn.sink) l.fn.text) (voice (g.K.Sink.said l.sink) l.text) (flat_map line_of done);
  count : l.count ≡ length done;
  faults : g.K.Sink.faults l.sink ≡ g.K.Sink.faults l.fn.sink;
}

abbrev pub decreases-loop-stop : goal.decreases-loop-stop
decreases-loop-stop g l = length (g.W.Lazy.left l.walk)
