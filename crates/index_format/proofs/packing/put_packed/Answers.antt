use Rattle.std.proofs.Common.{arith}
use Rattle.std.proofs.lemmas.Grind.{elements}
use Rattle.std.proofs.Common.{take, get_or, ap, ◌∙◌}
use Rattle.std.proofs.lemmas.List.{take_more}
use Rattle.index_format.specs.Spelling.{bits_with}
use Rattle.index_format.proofs.SymbolLemmas.{bits_with-more}
use Rattle.index_format.proofs.packing.put_packed.Goals as goal

pub loop-number-init : goal.loop-number-init
unfolding bits_with
loop-number-init c = c.none-word.ensures c.args.out.now.items

pub loop-number-preserved : goal.loop-number-preserved
loop-number-preserved c =
    let before = c.args.out.now.items in
    let seen = take c.loop-number.number-index c.args.numbers.now in
    let next = ap (bits_with c.args.width) (take_more c.args.numbers.now c.loop-number.number-index 0 c.loop-number-test.true)
    ∙ bits_with-more c.args.width seen (get_or c.args.numbers.now c.loop-number.number-index 0) in
    rw next (c.in_ok-word.ensures before (bits_with c.args.width seen) c.loop-number.invariant)

pub returns : goal.returns
returns c = grind (arith, elements)

pub returns-in_err-word : goal.returns-in_err-word
returns-in_err-word c = grind (arith, elements)
