use Rattle.std.proofs.Common.{◌≡◌, List, length}
use Rattle.question_shell.specs.Drawing.{AnswerNeeds, GivesItems}
use Rattle.question_shell.specs.Items.{items_left}
use Rattle.question_shell.specs.declared.item.Item.{Item}
use Rattle.question_shell.proofs.counting.count_left.Given as goal

abbrev pub invariant-items : goal.invariant-items
invariant-items g l = record {
  done : List Item;
  gives : GivesItems g.W.Lazy.left g.W.Lazy.budget l.fn.answer l.answer l.fn.desk.view l.desk.view l.fn.steps l.steps
      done;
  needs : AnswerNeeds g.W.Lazy.needs l.fn.answer l.answer l.fn.desk.walks l.desk.walks;
  count : l.count ≡ length done;
}

abbrev pub decreases-items : goal.decreases-items
decreases-items g l = length (items_left g.W.Lazy.left l.answer l.desk.view)
