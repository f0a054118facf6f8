use Rattle.index_format.proofs.OutlineLemmas.{putting-starts, putting-more, putting-ends}
use Rattle.index_format.proofs.outline.gaps.put_values.Goals as goal

pub loop-value-init : goal.loop-value-init
loop-value-init c = putting-starts c.args.values.now c.args.writer.now

pub returns : goal.returns
returns c = putting-ends c.loop-value.invariant c.loop-value-test.false

pub loop-value-preserved : goal.loop-value-preserved
loop-value-preserved c = putting-more c.loop-value.invariant c.put_number.new.self c.requires.ascending c.loop-value-test.true
    c.in_ok-put_number.ensures.ok
