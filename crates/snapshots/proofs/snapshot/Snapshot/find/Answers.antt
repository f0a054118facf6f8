use Rattle.std.proofs.Common.{◌≡◌, Some, ap, sym, ◌∙◌, arith, length}
use Rattle.std.specs.Prelude.{slice_get}
use Rattle.bit_rank.specs.Bits.{rank_of}
use Rattle.snapshots.specs.View.{leaf_at, tree_in}
use Rattle.snapshots.proofs.BlockLemmas.{block_at-read, leaf_known}
use Rattle.snapshots.proofs.BlockFactsLemmas.{IsBlock-from_block_of}
use Rattle.snapshots.proofs.snapshot.Snapshot.find.Goals as goal

pub blocks-requires : goal.blocks-requires
blocks-requires g c = omega (arith, c.in_ok-place.ensures.placed.within)

pub leaf_cell-cell-requires : goal.leaf_cell-cell-requires
leaf_cell-cell-requires g c =
    omega (
      arith,
      leaf_known c.args.self.now c.in_ok-place.place c.in_ok-place.ensures.snapshot c.in_ok-place.ensures.placed.within,
      c.rank1-leaf.ensures.value,
      ap (λ bits. rank_of bits c.in_ok-place.place) c.blocks-2.ensures.blocks.lasts,
      ap (λ t. length t.cells) c.tree.ensures.value,
    )

pub returns-clause-value : goal.returns-clause-value
returns-clause-value g c =
    let view = c.args.self.now in
    let place = c.in_ok-place.place in
    let its = c.in_ok-place.ensures.placed in
    let leaf : c.rank1-leaf.result ≡ leaf_at view place =
    c.rank1-leaf.ensures.value ∙ ap (λ bits. rank_of bits place) c.blocks-2.ensures.blocks.lasts in
    let found : slice_get (tree_in view).cells (leaf_at view place) ≡ Some c.leaf_cell-cell.result =
    ap (slice_get (tree_in view).cells) (sym leaf)
    ∙ sym (ap (λ t. slice_get t.cells c.rank1-leaf.result) c.tree.ensures.value) ∙ c.leaf_cell-cell.ensures.value in
    ap Some (c.block.ensures ∙ block_at-read view c.args.index c.in_ok-place.rank place c.leaf_cell-cell.result its.selected
    its.ranked found)
    ∙ sym its.block

pub returns-clause-block : goal.returns-clause-block
returns-clause-block g c =
    IsBlock-from_block_of c.args.self.now c.in_ok-place.ensures.snapshot c.args.index c.block.result
    (sym (returns-clause-value g c))
