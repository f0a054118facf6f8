use Rattle.std.proofs.Common.{◌∷◌, ◌++◌, [], ◌∙◌, ap, sym}
use Rattle.list_laws.proofs.RangeLemmas.{range-more}
use Rattle.rule_order.proofs.numbering.numbers.Goals as goal

pub loop-number-preserved : goal.loop-number-preserved
loop-number-preserved c =
    c.in_ok-push.ensures.items ∙ ap (λ numbers. numbers ++ c.loop-number.number ∷ []) c.loop-number.invariant
    ∙ sym (range-more c.loop-number.number)
