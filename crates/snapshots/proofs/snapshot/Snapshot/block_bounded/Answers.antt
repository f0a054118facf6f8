use Rattle.std.proofs.Common.{◌≡◌, ◌<◌, ◌+ℤ◌, Some, ap, arith, get_or, length, sym, ◌∙◌}
use Rattle.std.specs.Prelude.{slice_get, slice_index}
use Rattle.std.proofs.lemmas.Option.{slice_get-get_or}
use Rattle.track_types.specs.declared.frame.Frame.{Frame}
use Rattle.rule_store.specs.Cells.{cell_with}
use Rattle.log_bounds.specs.declared.bounds.LogBounds.{LogBounds}
use Rattle.snapshots.specs.View.{block_at, leaf_at, tree_in}
use Rattle.snapshots.proofs.BlockLemmas.{block_at-read, leaf_known}
use Rattle.snapshots.proofs.BoundedLemmas.{anchor-placed, length-anchors}
use Rattle.snapshots.proofs.OnesLemmas.{first_ones-at, length-first_ones}
use Rattle.snapshots.proofs.snapshot.Snapshot.block_bounded.Given.{Over}
use Rattle.snapshots.proofs.snapshot.Snapshot.block_bounded.Goals as goal
use Rattle.snapshots.proofs.snapshot.Snapshot.block_bounded.Goals.{After-at-rank}

within : (g : Over) (c : After-at-rank g) → c.at-rank.result < length c.args.self.now.parts.perm
within g c = omega (arith, c.at-rank.ensures.within, ap length c.blocks-2.ensures.blocks.perm)

pub bounds-bounds-rank : goal.bounds-bounds-rank
bounds-bounds-rank g c =
    omega (
      arith,
      within g (goal.at.bounds-bounds-rank g c).After-at-rank,
      length-anchors c.args.self.now c.blocks-2.ensures.snapshot c.args.bounds.now c.requires.bounds,
    )

pub bounds-present-rank : goal.bounds-present-rank
bounds-present-rank g c =
    let view = c.args.self.now in
    omega (
      arith,
      within g (goal.at.bounds-present-rank g c).After-at-rank,
      ap length c.requires.present,
      length-first_ones view.parts.present (length view.parts.perm),
    )

pub returns-clause-value : goal.returns-clause-value
returns-clause-value g c =
    let view = c.args.self.now in
    let is = c.blocks-2.ensures.snapshot in
    let place = c.args.place in
    let log : LogBounds = c.index-bounds-rank.result in
    let rank : c.at-rank.result ≡ slice_index view.parts.perm place =
    c.at-rank.ensures.value ∙ ap (λ perm. slice_index perm place) c.blocks-2.ensures.blocks.perm in
    let stands : c.anchor_of-cell.result ≡ (block_at view place).cell =
    c.anchor_of-cell.ensures
    ∙ ap (λ (f : Frame). cell_with (log.from.x +ℤ f.base.x) (log.from.y +ℤ f.base.y)) c.frame.ensures.value
    ∙ anchor-placed view is c.args.bounds.now c.requires.bounds place log c.requires.within
    (c.index-bounds-rank.is ∙ ap (λ r. get_or c.args.bounds.now r log) rank) in
    let found : slice_get (tree_in view).cells (leaf_at view place) ≡ Some c.anchor_of-cell.result =
    slice_get-get_or (tree_in view).cells (leaf_at view place) view.frame.base (leaf_known view place is c.requires.within)
    ∙ ap Some (sym stands) in
    c.block.ensures
    ∙ block_at-read view (get_or c.args.present.now c.at-rank.result 0) c.at-rank.result place c.anchor_of-cell.result
    (ap (λ xs. get_or xs c.at-rank.result 0) c.requires.present
    ∙ first_ones-at view.parts.present (length view.parts.perm) c.at-rank.result 0
    (within g (goal.at.returns-clause-value g c).After-at-rank)) rank found

pub returns-clause-rank : goal.returns-clause-rank
returns-clause-rank g c =
    c.at-rank.ensures.value ∙ ap (λ perm. slice_index perm c.args.place) c.blocks-2.ensures.blocks.perm
