use Rattle.std.proofs.Common.{◌≡◌, ℕ, ◌+◌, ◌<◌, List, [], ◌∷◌, ◌++◌, length, drop, All, arith, sym, ap, ◌∙◌}
use Rattle.std.proofs.Common.{subst, get_or, length-append}
use Rattle.k2_tree.specs.Areas.{IsBoxInside}
use Rattle.box_tree.specs.Building.{IsMaking, IsTask, task_squares}
use Rattle.box_tree.specs.NodeKinds.{link_kind}
use Rattle.box_tree.specs.Places.{box_at}
use Rattle.box_tree.specs.declared.task.Task.{Task}
use Rattle.box_tree.proofs.MakingLemmas.{is-task, making-next, read-task, task-run, turns-next}
use Rattle.box_tree.proofs.building.make.Goals as goal
use Rattle.box_tree.proofs.building.make.Goals.{After-index-task}
use Rattle.box_tree.proofs.PlacesLemmas.{square_start-le}

-- the task is the next one
place : (c : After-index-task) → c.len-in-loop-tasks-2.result ≡ length c.loop-tasks.links.items
place c = omega (arith, c.loop-tasks.links.ok.0)

next : (c : After-index-task)
    → c.index-task.result.now ≡ get_or c.loop-tasks.tasks.items
    (length c.loop-tasks.links.items) c.index-task.result.now
next c = c.index-task.ensures ∙ ap (λ k. get_or c.loop-tasks.tasks.items k c.index-task.result.now) (place c)

before : (c : After-index-task) → length c.loop-tasks.links.items < length c.loop-tasks.tasks.items
before c = omega (arith, c.loop-tasks.links.ok.0, c.loop-tasks.tasks.ok.0)

its : (c : After-index-task) → IsTask c.args.codes.now c.args.narrow c.index-task.result.now
its c = is-task c.args.codes.now c.args.narrow c.loop-tasks.tasks.items
    (length c.loop-tasks.links.items) c.index-task.result.now (next c) (before c) c.loop-tasks.invariant.tasks

pub round-requires-clause-within : goal.round-requires-clause-within
round-requires-clause-within c =
    let task : Task = c.index-task.result.now in
    let is = its (goal.at.round-requires-clause-within c).After-index-task in
    let most = square_start-le c.args.codes.now task.level (task.prefix + 1) in
    omega (arith, is.places.high_is, most, c.requires.same)

pub round-requires-clause-some : goal.round-requires-clause-some
round-requires-clause-some c = (its (goal.at.round-requires-clause-some c).After-index-task).some

pub link_of-requires-clause-is : goal.link_of-requires-clause-is
link_of-requires-clause-is c = its (goal.at.link_of-requires-clause-is c).After-index-task

pub loop-tasks-preserved : goal.loop-tasks-preserved
loop-tasks-preserved c =
    let at = (goal.at.loop-tasks-preserved c).After-index-task in
    let l = c.loop-tasks in
    let task : Task = c.index-task.result.now in
    let codes : List ℕ = c.args.codes.now in
    let boxes = c.args.boxes.now in
    let covers = subst (All (λ place. IsBoxInside (box_at boxes place) c.round.result))
    (sym (task-run codes c.args.narrow task (its at))) c.round.ensures.covers in
    subst (IsMaking codes boxes c.args.narrow c.args.tasks.now.items c.link_of.new.tasks.items c.push.new.self.items)
    (sym c.in_ok-push-2.ensures.items)
    (subst (λ areas. IsMaking codes boxes c.args.narrow c.args.tasks.now.items c.link_of.new.tasks.items areas
    (l.links.items ++ c.in_ok-link.link ∷ [])) (sym c.in_ok-push.ensures.items)
    (making-next codes boxes c.args.narrow c.args.tasks.now.items l.tasks.items c.link_of.new.tasks.items
    l.areas.items l.links.items task c.round.result c.in_ok-link.link
    l.invariant (read-task l.tasks.items (length l.links.items) task (next at) (before at))
    (its at) covers c.round.ensures.within c.round.ensures.from c.in_ok-link.ensures.ok))

pub loop-tasks-smaller : goal.loop-tasks-smaller
loop-tasks-smaller c =
    let at = (goal.at.loop-tasks-smaller c).After-index-task in
    let l = c.loop-tasks in
    let task : Task = c.index-task.result.now in
    let codes : List ℕ = c.args.codes.now in
    let long : length c.push-in-loop-tasks.new.self.items ≡ length l.links.items + 1 =
    ap length c.in_ok-push-2.ensures.items ∙ length-append l.links.items (c.in_ok-link.link ∷ []) in
    let fewer = turns-next codes c.args.narrow task
    (link_kind c.in_ok-link.link) l.tasks.items c.link_of.new.tasks.items (length l.links.items) (its at)
    (read-task l.tasks.items (length l.links.items) task (next at) (before at)) c.in_ok-link.ensures.ok in
    subst (λ k. task_squares codes c.args.narrow (drop k c.link_of.new.tasks.items) < task_squares codes c.args.narrow
    (drop (length l.links.items) l.tasks.items)) (sym long) fewer
