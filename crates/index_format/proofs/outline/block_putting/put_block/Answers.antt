use Rattle.std.proofs.Common.{◌++◌, ap, sym, ◌∙◌, append_assoc}
use Rattle.std.specs.List.{flat_map}
use Rattle.packed_bits.specs.Words.{low_bits}
use Rattle.index_format.specs.OutlineBlocks.{anchor_bits, anchor_instant, entry_width, when_bits}
use Rattle.index_format.specs.BlockSteps.{block_bits}
use Rattle.index_format.proofs.outline.block_putting.put_block.Goals as goal

pub returns-clause-bits : goal.returns-clause-bits
unfolding block_bits
returns-clause-bits c view whole =
    let before = c.args.writer.now in
    let when = when_bits c.args.reached.next (anchor_instant c.args.ground.frame c.args.block.now) in
    let anchor = anchor_bits c.args.ground.frame.height c.args.reached.last c.args.block.now.cell in
    let entries = flat_map (low_bits (entry_width view)) c.args.log.now in
    c.in_ok-cell.ensures.bits view whole
    ∙ ap (λ front. front ++ entries) ((rw c.unpack-anchor.ensures.value at c.in_ok-put_anchor.ensures) ∙ ap (λ front. front ++ anchor)
    (rw c.instant_at-at.ensures.value at c.in_ok-put_when.ensures))
    ∙ append_assoc (before ++ when) anchor entries ∙ append_assoc before when (anchor ++ entries)
    ∙ ap (λ bits. before ++ bits) (sym (append_assoc when anchor entries))
