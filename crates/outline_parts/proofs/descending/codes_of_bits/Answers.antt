use Rattle.std.proofs.Common.{◌∙◌, ◌-◌, ◌*◌, ◌++◌, ◌∷◌, [], ap, append-nil, arith, drop, sym}
use Rattle.k2_tree.specs.Tree.{codes_below}
use Rattle.k2_tree.specs.Widths.{levels_with, widths_of}
use Rattle.k2_tree.proofs.ToldLemmas.{codes_in-none}
use Rattle.outline_parts.proofs.DescentLemmas.{codes_in-some}
use Rattle.outline_parts.proofs.descending.codes_of_bits.Goals as goal

pub returns-then-len-eq0 : goal.returns-then-len-eq0
returns-then-len-eq0 c =
    c.new-codes.ensures.items
    ∙ sym (codes_in-none (widths_of c.args.height c.args.wide) c.args.bits.now (omega (arith, c.len.ensures, c.if-len-eq0.true)))

pub returns : goal.returns
unfolding codes_below
returns c =
    let bits = c.args.bits.now in
    let narrow = levels_with 1 (c.args.height - 2 * c.args.wide) in
    let top = c.in_ok-push.ensures.items ∙ ap (λ front. front ++ 0 ∷ []) c.new-codes.ensures.items in
    c.in_ok-lowest.ensures.below []
    ∙ ap (λ widths. codes_below widths c.in_ok-upper.upper.codes.items (drop c.in_ok-upper.upper.start bits)) (append-nil narrow)
    ∙ c.in_ok-upper.ensures.below narrow
    ∙ ap (λ codes. codes_below (widths_of c.args.height c.args.wide) codes bits) top
    ∙ sym (codes_in-some (widths_of c.args.height c.args.wide) bits (λ none. c.if-len-eq0.false (c.len.ensures ∙ none)))
