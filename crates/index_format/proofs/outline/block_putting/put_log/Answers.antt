use Rattle.std.proofs.Common.{◌++◌, get_or, ap, ◌∙◌}
use Rattle.packed_bits.specs.Words.{low_bits}
use Rattle.track_types.specs.PartsForm.{width_for}
use Rattle.rule_store.specs.Cells.{moved}
use Rattle.rule_store.specs.declared.entry.Entry.{Entry}
use Rattle.index_format.proofs.BlockPuttingLemmas.{putting_log-bits, putting_log-cell, putting_log-more}
use Rattle.index_format.proofs.outline.block_putting.put_log.Goals as goal

pub loop-symbol-preserved : goal.loop-symbol-preserved
loop-symbol-preserved c =
    let symbol = get_or c.args.log.now c.loop-symbol.symbol-index 0 in
    putting_log-more c.loop-symbol.invariant c.loop-symbol-test.true c.cell_past-cell.result c.put_low.new.self
    (λ view whole. c.cell_past-cell.ensures ∙ ap (λ (entry : Entry). moved c.loop-symbol.cell (entry.dx, entry.dy)) (c.entry.ensures.value view whole.known))
    (λ view whole. rw c.from.ensures at c.in_ok-put_low.ensures.ok ∙ ap (λ width. c.loop-symbol.writer ++ low_bits width symbol)
    (c.args.ground.exact ∙ ap width_for (c.args.ground.all ∙ whole.all)))

pub returns-clause-cell : goal.returns-clause-cell
returns-clause-cell c view whole = putting_log-cell c.loop-symbol.invariant c.loop-symbol-test.false view whole

pub returns-clause-bits : goal.returns-clause-bits
returns-clause-bits c view whole = putting_log-bits c.loop-symbol.invariant c.loop-symbol-test.false view whole
