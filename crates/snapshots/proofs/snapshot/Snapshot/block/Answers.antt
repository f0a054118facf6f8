use Rattle.std.proofs.Common.{◌<◌, ◌∙◌, ap, arith, length, get_or, refl}
use Rattle.snapshots.specs.View.{block_by}
use Rattle.snapshots.proofs.BlockLemmas.{length-starts, same_block, start_at}
use Rattle.snapshots.proofs.snapshot.Snapshot.block.Goals as goal

pub blocks-blocks-requires : goal.blocks-blocks-requires
blocks-blocks-requires c = omega (arith, c.requires)

pub bounds-as_slice-rank-2 : goal.bounds-as_slice-rank-2
bounds-as_slice-rank-2 c =
    let is = c.blocks-blocks.ensures in
    omega (
      arith,
      c.requires,
      is.snapshot.shaped.perm,
      length-starts c.args.self.now c.blocks-blocks.result.now.starts is.snapshot is.blocks.starts,
      ap length c.as_slice-2.ensures,
    )

pub returns : goal.returns
returns c =
    let view = c.args.self.now in
    let is = c.blocks-blocks.ensures in
    let within : c.args.rank < length view.parts.lengths =
    omega (arith, c.requires, is.snapshot.shaped.lengths, is.snapshot.shaped.perm) in
    same_block _ (block_by view c.args.index c.args.rank c.args.cell) refl
    (ap (λ xs. get_or xs c.args.rank 0) (c.as_slice.ensures ∙ is.blocks.offsets)) refl
    (ap (λ xs. get_or xs c.args.rank 0) (c.as_slice-2.ensures ∙ is.blocks.starts)
    ∙ start_at view.start c.args.rank view.parts.lengths within)
    (ap (λ xs. get_or xs c.args.rank 0) (c.as_slice-3.ensures ∙ is.blocks.lengths))
