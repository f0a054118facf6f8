use Rattle.std.proofs.Common.{◌≡◌, ◌∷◌, ◌++◌, [], arith}
use Rattle.std.proofs.lemmas.Result.{err_from_is_err_and}
use Rattle.std.proofs.lemmas.Grind.{common_steps}
use Rattle.index_format.proofs.ItemLemmas.{items_at-more, items_at-fault, items_at-done}
use Rattle.index_format.proofs.periods.periods_of.Goals as goal

pub returns-in_err-parts : goal.returns-in_err-parts
returns-in_err-parts c =
    let p = err_from_is_err_and c.from_residual-in_err-parts.result c.from_residual-in_err-parts.ensures.1 in
    rw (p.1, p.2) (items_at-fault c.loop-period.invariant c.in_err-parts.field-0.0 c.loop-period-test.true
    (c.in_err-parts.ensures.exact c.loop-period.periods.items c.loop-period.invariant.long))

pub loop-period-preserved : goal.loop-period-preserved
loop-period-preserved c =
    let items : c.push.new.self.items ≡ c.loop-period.periods.items ++ c.in_ok-parts.parts ∷ [] = grind (arith, common_steps) in
    items_at-more c.loop-period.invariant c.in_ok-parts.parts c.in_ok-parts.after.now c.push.new.self.items
    c.loop-period-test.true (c.in_ok-parts.ensures.exact c.loop-period.periods.items c.loop-period.invariant.long) items

pub returns : goal.returns
returns c = rw c.new.ensures (items_at-done c.loop-period.invariant c.loop-period-test.false)
