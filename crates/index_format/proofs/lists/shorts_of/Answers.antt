use Rattle.std.proofs.Common.{◌≡◌, [], ◌∷◌, ◌++◌, arith, ◌∙◌}
use Rattle.std.proofs.lemmas.Result.{err_from_is_err_and}
use Rattle.std.proofs.lemmas.Grind.{common_steps}
use Rattle.index_format.proofs.ItemLemmas.{items_at-more, items_at-fault, items_at-done, short_at-number}
use Rattle.index_format.proofs.lists.shorts_of.Goals as goal

pub returns-in_err-value : goal.returns-in_err-value
returns-in_err-value c =
    let p = err_from_is_err_and c.from_residual-in_err-value.result c.from_residual-in_err-value.ensures.1 in
    let number = short_at-number c.args.place.section c.args.place.period c.loop-index.index c.loop-index.values.items
    c.loop-index.rest.now c.flaw.result c.loop-index.invariant.long c.flaw.ensures in
    rw (p.1, p.2) (items_at-fault c.loop-index.invariant c.in_err-value.field-0.0 c.loop-index-test.true
    (rw number c.in_err-value.ensures))

pub loop-index-preserved : goal.loop-index-preserved
loop-index-preserved c =
    let number = short_at-number c.args.place.section c.args.place.period c.loop-index.index c.loop-index.values.items
    c.loop-index.rest.now c.flaw.result c.loop-index.invariant.long c.flaw.ensures in
    let items : c.push.new.self.items ≡ c.loop-index.values.items ++ c.in_ok-value.value ∷ [] = grind (arith, common_steps) in
    items_at-more c.loop-index.invariant c.in_ok-value.value c.in_ok-value.after.now c.push.new.self.items
    c.loop-index-test.true (number ∙ c.in_ok-value.ensures) items

pub returns : goal.returns
returns c = rw c.new.ensures (items_at-done c.loop-index.invariant c.loop-index-test.false)
