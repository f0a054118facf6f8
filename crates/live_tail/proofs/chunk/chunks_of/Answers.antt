use Rattle.std.proofs.Common.{◌≡◌, [], ◌∷◌, ◌++◌, ◌-◌, List, All, length, take, refl, subst, sym, ◌∙◌, ap, arith}
use Rattle.std.proofs.lemmas.List.{append-nil, append_assoc, length-drop}
use Rattle.std.proofs.lemmas.List.Elements.{All-drop, All-take}
use Rattle.track_types.specs.Near.{IsCellWithin}
use Rattle.track_types.specs.declared.row.Row.{Row}
use Rattle.live_tail.specs.Chunks.{AreChunksOf, IsChunkOf}
use Rattle.live_tail.specs.declared.chunk.Chunk.{Chunk}
use Rattle.live_tail.specs.declared.chunk.TheConstants.{CHUNK_ROWS}
use Rattle.live_tail.proofs.CutLemmas.{no_more}
use Rattle.live_tail.proofs.chunk.chunks_of.Goals as goal
use Rattle.live_tail.proofs.chunk.chunks_of.Goals.{In-Some}

-- the rows begin with the one that was taken
near : (c : In-Some) → All (λ (row : Row). IsCellWithin row.cell) (c.in-Some.row.now ∷ c.in-Some.later.now)
near c = subst (All (λ (row : Row). IsCellWithin row.cell)) c.in-Some.ensures.cases.0 c.loop-row.invariant.near

pub loop-row-init : goal.loop-row-init
loop-row-init c = record { near = c.requires; all = λ others are. rw c.in_ok-chunks.ensures.items are }

pub over-requires : goal.over-requires
over-requires c = record {
  near = subst (λ rows. All (λ (row : Row). IsCellWithin row.cell) (c.in-Some.row.now ∷ rows)) (sym c.cut.ensures.front)
      (All-take (λ (row : Row). IsCellWithin row.cell) CHUNK_ROWS (c.in-Some.row.now ∷ c.in-Some.later.now)
      (near (goal.at.over-requires c).In-Some));
}

pub loop-row-smaller : goal.loop-row-smaller
loop-row-smaller c =
    omega (arith, ap length c.cut.ensures.back, ap length c.in-Some.ensures.cases.0, length-drop (CHUNK_ROWS - 1) c.in-Some.later.now)

pub loop-row-preserved : goal.loop-row-preserved
unfolding AreChunksOf
loop-row-preserved c =
    let at = (goal.at.loop-row-preserved c).In-Some in
    let row : Row = c.in-Some.row.now in
    let later : List Row = c.in-Some.later.now in
    let chunk : Chunk = c.over.result in
    let is : IsChunkOf (take CHUNK_ROWS (row ∷ later)) chunk = subst (λ rows. IsChunkOf (row ∷ rows) chunk) c.cut.ensures.front c.over.ensures in
    record {
      near = subst (All (λ (row : Row). IsCellWithin row.cell)) (sym c.cut.ensures.back)
          (All-drop (λ (row : Row). IsCellWithin row.cell) CHUNK_ROWS (row ∷ later) (near at));
      all = λ others are.
          subst (AreChunksOf c.args.rows.now)
          (sym (append_assoc c.loop-row.chunks.items (chunk ∷ []) others) ∙ ap (λ chunks. chunks ++ others) (sym c.in_ok-push.ensures.items))
          (c.loop-row.invariant.all (chunk ∷ others)
          (subst (λ rows. AreChunksOf rows (chunk ∷ others)) (sym c.in-Some.ensures.cases.0)
          (is, subst (λ rows. AreChunksOf rows others) c.cut.ensures.back are)));
    }

pub returns : goal.returns
unfolding AreChunksOf
returns c =
    let none : c.loop-row.rest.now ≡ [] = no_more c.loop-row.rest.now c.in_default.ensures.cases in
    subst (AreChunksOf c.args.rows.now) (append-nil c.loop-row.chunks.items)
    (c.loop-row.invariant.all [] (subst (λ rows. AreChunksOf rows []) (sym none) refl))
