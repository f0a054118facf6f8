use Rattle.std.proofs.Common.{◌≡◌, ◌-◌, ◌++◌, slice_index_or, refl, ap, ◌∙◌, arith}
use Rattle.bit_stream.specs.Numbers.{number_bits}
use Rattle.index_format.specs.OutlineRules.{least_left, least_right}
use Rattle.index_format.proofs.PutLemmas.{layer-starts, layer-next, layer-more, layer-ends}
use Rattle.index_format.proofs.outline.layering.put_layer.Goals as goal

pub loop-left-init : goal.loop-left-init
loop-left-init c = layer-starts c.args.base c.requires.layer.0 c.args.layer.now c.args.writer.now c.put_number.new.self c.requires.layer.1
    c.in_ok-put_number.ensures.ok

pub overflow_sub-from : goal.overflow_sub-from
overflow_sub-from c = let follows = layer-next c.loop-left.invariant c.loop-left-test.true in
    omega (arith, follows.left_rises, c.from.ensures, c.least_left.ensures.exact)

pub overflow_sub-from-in-loop-left : goal.overflow_sub-from-in-loop-left
overflow_sub-from-in-loop-left c =
    let follows = layer-next c.loop-left.invariant c.loop-left-test.true in
    let least = c.least_right.ensures.exact ∙ ap (least_right c.args.base c.loop-left.before) c.into.ensures in
    omega (arith, follows.right_rises, c.from-in-loop-left.ensures, least)

pub loop-left-preserved : goal.loop-left-preserved
loop-left-preserved c =
    let rule = slice_index_or c.args.layer.now c.loop-left.left-index (0, 0) in
    let left : c.from.result - c.least_left.result ≡ rule.0 - least_left c.loop-left.before = rw (c.from.ensures, c.least_left.ensures.exact) refl in
    let right : c.from-in-loop-left.result - c.least_right.result ≡ rule.1 - least_right c.args.base c.loop-left.before rule.0 =
    rw (c.from-in-loop-left.ensures, c.least_right.ensures.exact, c.into.ensures) refl in
    layer-more c.loop-left.invariant rule c.put_number-in-loop-left-2.new.self c.loop-left-test.true refl
    (c.in_ok-put_number-3.ensures.ok ∙ ap (λ bits. bits ++ number_bits (c.from-in-loop-left.result - c.least_right.result)) c.in_ok-put_number-2.ensures.ok
    ∙ ap (λ n. (c.loop-left.writer ++ number_bits n) ++ number_bits (c.from-in-loop-left.result - c.least_right.result)) left
    ∙ ap (λ n. (c.loop-left.writer ++ number_bits (rule.0 - least_left c.loop-left.before)) ++ number_bits n) right)

pub returns : goal.returns
returns c = layer-ends c.loop-left.invariant c.loop-left-test.false
