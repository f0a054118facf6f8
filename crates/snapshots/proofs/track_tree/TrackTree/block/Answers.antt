use Rattle.std.proofs.Common.{◌≡◌, ℕ, get_or, ap, sym, ◌∙◌}
use Rattle.std.proofs.lemmas.Option.{get_or_from_slice_get}
use Rattle.k2_tree.proofs.AreaLemmas.{word_kept}
use Rattle.rule_store.proofs.CellLemmas.{same_cell}
use Rattle.snapshots.specs.TrackWalk.{block_kept, corner_of}
use Rattle.snapshots.proofs.BlockLemmas.{same_block}
use Rattle.snapshots.proofs.track_tree.TrackTree.block.Goals as goal

pub returns-clause-value : goal.returns-clause-value
returns-clause-value g c =
    let kept = c.args.self.now in
    let begin : get_or kept.begins c.args.place (0, 0) ≡ c.at-offset.result =
    get_or_from_slice_get kept.begins c.args.place c.at-offset.result (0, 0) c.at-offset.ensures.value in
    let log : get_or kept.logs c.args.place (0, 0) ≡ c.at-len.result =
    get_or_from_slice_get kept.logs c.args.place c.at-len.result (0, 0) c.at-len.ensures.value in
    let cell = c.place_cell-cell.result in
    let near = c.place_cell-cell.ensures.within in
    same_block _ (block_kept kept c.args.place) (sym (ap (λ (p : ℕ × ℕ). p.1) log))
    (sym (ap (λ (p : ℕ × ℕ). p.0) begin))
    (same_cell _ _ cell.x1 cell.y1 (word_kept cell.x1 near.x1) (word_kept cell.y1 near.y1)
    ∙ ap corner_of c.place_cell-cell.ensures.value) (sym (ap (λ (p : ℕ × ℕ). p.1) begin))
    (sym (ap (λ (p : ℕ × ℕ). p.0) log))
