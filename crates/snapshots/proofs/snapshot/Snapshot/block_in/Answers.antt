use Rattle.std.proofs.Common.{◌+◌, ap, ◌∙◌, arith, length}
use Rattle.std.specs.Prelude.{slice_index}
use Rattle.bit_rank.specs.Bits.{select_of}
use Rattle.snapshots.proofs.BlockLemmas.{block_at-read}
use Rattle.snapshots.proofs.PlacesLemmas.{few_places}
use Rattle.snapshots.proofs.snapshot.Snapshot.block_in.Goals as goal

pub overflow_add-rank : goal.overflow_add-rank
overflow_add-rank g c =
    let is = c.blocks-blocks.ensures in
    omega (arith, c.at-rank.ensures.within, ap length is.blocks.perm, few_places c.args.self.now is.snapshot)

pub returns-clause-value : goal.returns-clause-value
returns-clause-value g c =
    let is = c.blocks-blocks.ensures.blocks in
    c.block.ensures
    ∙ block_at-read c.args.self.now c.select1-index.result c.at-rank.result c.args.place c.args.cell
    (c.select1-index.ensures.value ∙ ap (λ bits. select_of bits (c.at-rank.result + 1)) is.present)
    (c.at-rank.ensures.value ∙ ap (λ perm. slice_index perm c.args.place) is.perm) c.requires.cell
