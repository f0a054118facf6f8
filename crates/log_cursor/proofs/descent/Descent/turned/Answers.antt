use Rattle.std.proofs.Common.{ap, subst, sym, ◌∙◌, inl, inr, arith}
use Rattle.std.proofs.lemmas.Int.{ints}
use Rattle.log_cursor.specs.Descent.{IsParted, IsStage, hit_from, reads_from, stage_parted, stage_weight}
use Rattle.log_cursor.proofs.DescentLemmas.{IsPicked, parted-middle, picked-by, picked-count, picked-hit, picked-opens, picked-within}
use Rattle.log_cursor.proofs.StopLemmas.{word}
use Rattle.log_cursor.proofs.descent.Descent.turned.Goals as goal
use Rattle.log_cursor.proofs.descent.Descent.turned.Goals.{After-entry, After-pick}

-- where the rule was opened
parted_is : (c : After-entry) →
    IsParted c.args.rules.now c.args.self.at c.args.instant c.in-Parted.left c.in-Parted.right
parted_is c = subst (IsStage c.args.rules.now c.args.self.at c.args.instant) c.in-Parted.is c.requires

pub after-middle-requires : goal.after-middle-requires
after-middle-requires c =
    parted-middle c.args.rules.now c.args.self.at c.args.instant c.in-Parted.left c.in-Parted.right
    (parted_is (goal.at.after-middle-requires c).After-entry) c.entry.result c.entry.ensures.value

-- which part was picked
picked : (c : After-pick) → IsPicked c.args.self.at c.after-middle.result c.args.instant c.in-Parted.left
    c.in-Parted.right c.pick_start.result c.pick.result
picked c =
    picked-by c.args.self.at c.after-middle.result c.pick_start.result c.args.instant (word c.args.instant)
    (word c.after-middle.result.instant) c.in-Parted.left c.in-Parted.right c.pick.result (omega (arith, ints))
    (omega (arith, ints)) c.pick_start.ensures c.pick.ensures

pub returns-clause-sound : goal.returns-clause-sound
returns-clause-sound c =
    picked-within c.args.rules.now c.args.self.at c.args.instant c.in-Parted.left c.in-Parted.right
    (parted_is (goal.at.returns-clause-sound c).After-entry) c.entry.result c.entry.ensures.value c.after-middle.result
    c.after-middle.ensures c.pick_start.result c.pick.result (picked c)

pub returns-clause-hit : goal.returns-clause-hit
returns-clause-hit c region =
    picked-hit c.args.rules.now c.args.self.at c.args.instant c.in-Parted.left c.in-Parted.right
    (parted_is (goal.at.returns-clause-hit c).After-entry) c.entry.result c.entry.ensures.value c.after-middle.result
    c.after-middle.ensures region c.pick_start.result c.pick.result (picked c)
    ∙ ap (hit_from c.args.rules.now c.args.instant region c.args.self.at) (sym c.in-Parted.is)

pub returns-clause-weight : goal.returns-clause-weight
returns-clause-weight c = elim (picked c) [
  | inl early ↦ omega (arith, ap stage_weight c.in-Parted.is, ap stage_parted c.in-Parted.is, early.1.1)
  | inr late ↦ omega (arith, ap stage_weight c.in-Parted.is, ap stage_parted c.in-Parted.is, late.1.1)
]

pub returns-clause-cost : goal.returns-clause-cost
returns-clause-cost c region =
    let same = ap (reads_from c.args.rules.now c.args.instant region c.args.self.at) c.in-Parted.is in
    let less = picked-count c.args.rules.now c.args.self.at c.args.instant c.in-Parted.left c.in-Parted.right
    (parted_is (goal.at.returns-clause-cost c).After-entry) c.entry.result c.entry.ensures.value c.after-middle.result
    c.after-middle.ensures region c.pick_start.result c.pick.result (picked c) in
    omega (arith, same, less)

pub returns-clause-opens : goal.returns-clause-opens
returns-clause-opens c region =
    rw c.in-Parted.is (picked-opens c.args.rules.now c.args.self.at c.args.instant c.in-Parted.left c.in-Parted.right
    (parted_is (goal.at.returns-clause-opens c).After-entry) c.entry.result c.entry.ensures.value c.after-middle.result
    c.after-middle.ensures region c.pick_start.result c.pick.result (picked c))
