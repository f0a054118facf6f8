use Rattle.std.proofs.Common.{◌<◌, ap, ◌∙◌, arith, get_or, length}
use Rattle.std.specs.Prelude.{slice_index}
use Rattle.snapshots.proofs.BlockLemmas.{block_at-read}
use Rattle.snapshots.proofs.OnesLemmas.{first_ones-at, length-first_ones}
use Rattle.snapshots.proofs.snapshot.Snapshot.block_among.Goals as goal

pub bounds-present-rank : goal.bounds-present-rank
bounds-present-rank g c =
    let view = c.args.self.now in
    omega (
      arith,
      c.at-rank.ensures.within,
      ap length c.blocks-2.ensures.blocks.perm,
      ap length c.requires.present,
      length-first_ones view.parts.present (length view.parts.perm),
    )

pub returns-clause-value : goal.returns-clause-value
returns-clause-value g c =
    let view = c.args.self.now in
    let rank = c.at-rank.result in
    let is = c.blocks-2.ensures.blocks in
    let within : rank < length view.parts.perm = omega (arith, c.at-rank.ensures.within, ap length is.perm) in
    c.block.ensures
    ∙ block_at-read view (get_or c.args.present.now rank 0) rank c.args.place c.args.cell
    (ap (λ xs. get_or xs rank 0) c.requires.present
    ∙ first_ones-at view.parts.present (length view.parts.perm) rank 0 within)
    (c.at-rank.ensures.value ∙ ap (λ perm. slice_index perm c.args.place) is.perm) c.requires.cell

pub returns-clause-rank : goal.returns-clause-rank
returns-clause-rank g c =
    c.at-rank.ensures.value ∙ ap (λ perm. slice_index perm c.args.place) c.blocks-2.ensures.blocks.perm
