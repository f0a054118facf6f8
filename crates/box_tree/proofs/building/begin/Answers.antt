use Rattle.std.proofs.Common.{◌≡◌, [], ◌∷◌, ◌++◌, length, arith, subst, sym, ap, ◌∙◌, refl, All}
use Rattle.std.specs.Prelude.{slice_get}
use Rattle.std.proofs.lemmas.List.Elements.{All-nil, All-cons}
use Rattle.box_tree.specs.Building.{IsTask}
use Rattle.box_tree.specs.declared.task.Task.{Task}
use Rattle.box_tree.proofs.BuiltLemmas.{root-task}
use Rattle.box_tree.proofs.building.begin.Goals as goal

-- the task of the whole grid
abbrev root : goal.In_ok-push → Task
root c = record { below = c.args.height; level = c.args.all; prefix = 0; low = 0; high = length c.args.codes.now }

-- the tasks are it alone
only : (c : goal.In_ok-push) → c.push.new.self.items ≡ root c ∷ []
only c = c.in_ok-push.ensures.items ∙ ap (λ xs. xs ++ root c ∷ []) c.new-tasks.ensures.items

pub returns-clause-tasks : goal.returns-clause-tasks
returns-clause-tasks c = λ narrow level.
    subst (All (IsTask c.args.codes.now narrow)) (sym (only c)) (All-cons (IsTask c.args.codes.now narrow) (root c) []
    (root-task c.args.codes.now narrow c.args.height c.args.all level c.requires.few c.requires.inside (omega arith))
    (All-nil (IsTask c.args.codes.now narrow)))

pub returns-clause-first : goal.returns-clause-first
returns-clause-first c = λ some.
    record { task = root c; stands = ap (λ xs. slice_get xs 0) (only c); same_below = refl; same_prefix = refl }
