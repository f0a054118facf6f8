use Rattle.std.proofs.Common.{◌++◌, ◌-◌, ap, ◌∙◌}
use Rattle.bit_stream.specs.Numbers.{number_bits}
use Rattle.index_format.proofs.OutlineLemmas.{putting-starts, putting-more, putting-ends}
use Rattle.index_format.proofs.outline.gaps.put_objects.Goals as goal

pub loop-object-init : goal.loop-object-init
loop-object-init c = putting-starts c.args.objects.now c.args.writer.now

pub returns : goal.returns
returns c = putting-ends c.loop-object.invariant c.loop-object-test.false

pub loop-object-preserved : goal.loop-object-preserved
loop-object-preserved c = rw c.from-least.ensures (putting-more c.loop-object.invariant c.put_number.new.self c.requires c.loop-object-test.true
    (c.in_ok-put_number.ensures.ok ∙ ap (λ n. c.loop-object.writer ++ number_bits (n - c.loop-object.least)) c.from.ensures))
