use Rattle.std.proofs.Common.{◌≡◌, refl, sym, ◌∙◌, arith}
use Rattle.std.proofs.lemmas.Int.{to_z-of_z}
use Rattle.encounter.specs.NodeSpan.{span_of_node}
use Rattle.encounter.specs.Span.{are_common}
use Rattle.encounter.proofs.window.Window.may_meet.Goals as goal
use Rattle.encounter.proofs.window.Window.may_meet.Goals.{After-are_common}

common_is : (c : After-are_common) → c.are_common.result
    ≡ are_common c.args.self.now.from c.args.self.now.to (span_of_node c.args.left.now) (span_of_node c.args.right.now)
common_is c = c.are_common.ensures ∙ rw (c.max-later.ensures.value, c.min-sooner.ensures.value) (grind (arith, to_z-of_z))

pub returns-then-are_common : goal.returns-then-are_common
returns-then-are_common c =
    let common = sym (common_is (goal.at.returns-then-are_common c).After-are_common) ∙ c.if-are_common.true in
    c.are_near.ensures ∙ rw common refl

pub returns-else-are_common : goal.returns-else-are_common
returns-else-are_common c =
    let common = sym (common_is (goal.at.returns-else-are_common c).After-are_common) ∙ c.if-are_common.false in
    c.if-are_common.false ∙ rw common refl
