use Rattle.std.proofs.Common.{◌≡◌, ◌++◌, ◌∷◌, [], List, take-append-drop, subst, sym, ap, ◌∙◌}
use Rattle.std.proofs.lemmas.List.{append-nil, append_assoc}
use Rattle.track_types.specs.declared.row.Row.{Row}
use Rattle.live_tail.specs.Chunks.{AreChunksOf, IsChunkOf}
use Rattle.live_tail.specs.Hits.{HaveFirst}
use Rattle.live_tail.specs.declared.chunk.TheConstants.{CHUNK_ROWS}
use Rattle.live_tail.specs.SmallRows.{rows_in}
use Rattle.live_tail.proofs.ChunkLemmas.{have-without, near-chunk}
use Rattle.live_tail.proofs.CutLemmas.{no_more}
use Rattle.live_tail.proofs.row_search.RowSearch.push_hits.Goals as goal
use Rattle.live_tail.proofs.row_search.RowSearch.push_hits.Goals.{After-cut}

-- the chunk has the rows that were cut off, and those behind have the other chunks
parts : (c : After-cut) → IsChunkOf (rows_in c.cut.result.0) c.in-Some.chunk.now × AreChunksOf (rows_in c.cut.result.1) c.in-Some.others.now
unfolding AreChunksOf
parts c =
    let are : AreChunksOf (rows_in c.loop-chunk.rest) (c.in-Some.chunk.now ∷ c.in-Some.others.now) =
    subst (AreChunksOf (rows_in c.loop-chunk.rest)) c.in-Some.ensures.cases.0 c.loop-chunk.invariant.are in (
      subst (λ rows. IsChunkOf rows c.in-Some.chunk.now) (sym c.cut.ensures.front) are.0,
      subst (λ rows. AreChunksOf rows c.in-Some.others.now) (sym c.cut.ensures.back) are.1,
    )

-- the rows that were passed, with these
joined : (c : After-cut) → (c.loop-chunk.invariant.passed ++ (rows_in c.cut.result.0)) ++ (rows_in c.cut.result.1) ≡ (rows_in c.args.rows)
joined c =
    append_assoc c.loop-chunk.invariant.passed (rows_in c.cut.result.0) (rows_in c.cut.result.1)
    ∙ ap (λ rows. c.loop-chunk.invariant.passed ++ rows)
    (rw (c.cut.ensures.front, c.cut.ensures.back) (take-append-drop CHUNK_ROWS (rows_in c.loop-chunk.rest)))
    ∙ c.loop-chunk.invariant.all

pub may_have-requires-clause-near : goal.may_have-requires-clause-near
may_have-requires-clause-near c = (parts (goal.at.may_have-requires-clause-near c).After-cut).0.near

pub push_hits_of-requires-clause-near : goal.push_hits_of-requires-clause-near
push_hits_of-requires-clause-near c =
    near-chunk (rows_in c.cut.result.0) c.in-Some.chunk.now (parts (goal.at.push_hits_of-requires-clause-near c).After-cut).0

pub loop-chunk-preserved-in_ok-push_hits_of : goal.loop-chunk-preserved-in_ok-push_hits_of
loop-chunk-preserved-in_ok-push_hits_of c =
    let at = (goal.at.loop-chunk-preserved-in_ok-push_hits_of c).After-cut in
    let self = c.args.self.now in
    let passed : List Row = c.loop-chunk.invariant.passed in
    record {
      passed = passed ++ (rows_in c.cut.result.0);
      all = joined at;
      are = (parts at).1;
      have = λ before have.
          subst (λ rows. HaveFirst rows self.from self.to self.region.now c.push_hits_of.new.found.items)
          (append_assoc before passed (rows_in c.cut.result.0))
          (c.in_ok-push_hits_of.ensures (before ++ passed) (c.loop-chunk.invariant.have before have));
    }

pub loop-chunk-preserved : goal.loop-chunk-preserved
loop-chunk-preserved c =
    let at = (goal.at.loop-chunk-preserved c).After-cut in
    let self = c.args.self.now in
    let passed : List Row = c.loop-chunk.invariant.passed in
    record {
      passed = passed ++ (rows_in c.cut.result.0);
      all = joined at;
      are = (parts at).1;
      have = λ before have.
          subst (λ rows. HaveFirst rows self.from self.to self.region.now c.loop-chunk.found.items)
          (append_assoc before passed (rows_in c.cut.result.0))
          (have-without self.from self.to self.region.now (before ++ passed) (rows_in c.cut.result.0) c.in-Some.chunk.now c.loop-chunk.found.items
          (c.loop-chunk.invariant.have before have) (parts at).0 (sym c.may_have.ensures ∙ c.if-may_have.false));
    }

pub returns : goal.returns
unfolding AreChunksOf
returns c = λ before have.
    let self = c.args.self.now in
    let none : c.loop-chunk.left.now ≡ [] = no_more c.loop-chunk.left.now c.in_default.ensures.cases in
    let rest : (rows_in c.loop-chunk.rest) ≡ [] = subst (AreChunksOf (rows_in c.loop-chunk.rest)) none c.loop-chunk.invariant.are in
    let all : c.loop-chunk.invariant.passed ≡ (rows_in c.args.rows) =
    sym (append-nil c.loop-chunk.invariant.passed) ∙ ap (λ rows. c.loop-chunk.invariant.passed ++ rows) (sym rest) ∙ c.loop-chunk.invariant.all in
    subst (λ rows. HaveFirst (before ++ rows) self.from self.to self.region.now c.loop-chunk.found.items) all
    (c.loop-chunk.invariant.have before have)
