use Rattle.std.proofs.Common.{[], ◌∷◌, ◌++◌, ℕ, suc, List, get_or, take, subst, sym, arith}
use Rattle.std.proofs.lemmas.List.{take_all, take_more}
use Rattle.track_types.specs.declared.row.Row.{Row}
use Rattle.live_tail.specs.Chunks.{IsChunkOf, chunk_with}
use Rattle.live_tail.proofs.ChunkLemmas.{chunk-more, chunk-one}
use Rattle.live_tail.proofs.InstantLemmas.{no_row}
use Rattle.live_tail.proofs.chunk.Chunk.over.Goals as goal

pub loop-other-init : goal.loop-other-init
loop-other-init c =
    subst (IsChunkOf (c.args.row.now ∷ [])) (sym c.of-chunk.ensures)
    (chunk-one c.args.row.now (c.requires.near 0 no_row (omega arith)))

pub loop-other-preserved : goal.loop-other-preserved
loop-other-preserved c =
    let others : List Row = c.args.others.now in
    let i : ℕ = c.loop-other.other-index in
    let other : Row = get_or others i no_row in
    let more : IsChunkOf (c.args.row.now ∷ (take i others ++ other ∷ [])) (chunk_with c.loop-other.chunk other) =
    chunk-more (c.args.row.now ∷ take i others) c.loop-other.chunk other c.loop-other.invariant
    (c.requires.near (suc i) no_row (omega (arith, c.loop-other-test.true))) in
    subst (λ rows. IsChunkOf (c.args.row.now ∷ rows) c.with-chunk.result) (sym (take_more others i no_row c.loop-other-test.true))
    (subst (IsChunkOf (c.args.row.now ∷ (take i others ++ other ∷ []))) (sym c.with-chunk.ensures) more)

pub returns : goal.returns
returns c =
    subst (λ rows. IsChunkOf (c.args.row.now ∷ rows) c.loop-other.chunk)
    (take_all c.loop-other.other-index c.args.others.now c.loop-other-test.false) c.loop-other.invariant
