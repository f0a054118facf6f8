use Rattle.std.proofs.lemmas.Grind.{common_steps}
use Rattle.std.proofs.Common.{◌∷◌, [], ◌++◌, refl, arith, length-append}
use Rattle.question_shell.proofs.DrawingLemmas.{gives-more, gives-nothing, needs-more, needs-nothing}
use Rattle.question_shell.proofs.counting.count_left.Goals as goal

pub items-init : goal.items-init
items-init g c = record {
  done = [];
  gives = gives-nothing c.args.answer.now c.args.desk.now.view c.args.steps.now c.requires.slot;
  needs = needs-nothing c.args.answer.now c.args.desk.now.walks;
  count = refl;
}

pub items-preserved : goal.items-preserved
items-preserved g c =
    let read = c.items.invariant in
    record {
      done = read.done ++ c.in-Some.field-0 ∷ [];
      gives = gives-more read.gives c.in-Some.ensures.gives;
      needs = needs-more read.needs c.in-Some.ensures.needs;
      count = omega (arith, read.count, length-append read.done (c.in-Some.field-0 ∷ []));
    }

pub overflow_add-count : goal.overflow_add-count
overflow_add-count g c = grind (arith, common_steps)
