use Rattle.std.proofs.Common.{◌∙◌, ◌≡◌, ◌+◌, ◌*◌, ◌<◌, ◌≤◌, ap, arith, length, subst, sym, ℕ}
use Rattle.bit_rank.specs.Cost.{select_reads}
use Rattle.object_perm.specs.Cost.{at_reads}
use Rattle.track_types.specs.declared.frame.Frame.{Frame}
use Rattle.k2_tree.specs.Morton.{IsInGrid, morton_of}
use Rattle.snapshots.specs.IndexCost.{blocks_reads}
use Rattle.snapshots.specs.TrackTree.{morton_of_block}
use Rattle.snapshots.specs.View.{block_at}
use Rattle.snapshots.specs.declared.anchored.Anchored.{Anchored}
use Rattle.snapshots.proofs.BoundedLemmas.{inside-at}
use Rattle.snapshots.proofs.ByObjectLemmas.{blocks_reads-listed}
use Rattle.snapshots.proofs.FoundLemmas.{AreFound-all, AreFoundBefore-more}
use Rattle.snapshots.proofs.OnesLemmas.{length-first_ones}
use Rattle.snapshots.proofs.PlacesLemmas.{few_places}
use Rattle.snapshots.proofs.finding.find_bounded.Given.{Over}
use Rattle.snapshots.proofs.finding.find_bounded.Goals as goal
use Rattle.snapshots.proofs.finding.find_bounded.Goals.{After-len-place-end}

-- as many places as objects are present
count : (g : Over) (c : After-len-place-end g) → c.len-place-end.result ≡ length c.args.snapshot.now.parts.perm
count g c =
    let parts = c.args.snapshot.now.parts in
    omega (arith, c.len-place-end.ensures, ap length c.in_ok-present.ensures.ok, length-first_ones parts.present (length parts.perm))

-- the reads are within those of all blocks
reads : (g : Over) (c : After-len-place-end g) (place steps more : ℕ) → place < c.len-place-end.result
    → steps ≤ c.args.steps.now + (select_reads * length c.args.snapshot.now.parts.perm + place) → more ≤ steps + at_reads
    → more ≤ c.args.steps.now + blocks_reads c.args.snapshot.now
reads g c place steps more below before read =
    blocks_reads-listed c.args.snapshot.now more c.args.steps.now c.frame.ensures.snapshot
    (omega (arith, before, read, below, count g c))

pub returns-in_err-present-clause-cost : goal.returns-in_err-present-clause-cost
returns-in_err-present-clause-cost g c =
    blocks_reads-listed c.args.snapshot.now _ c.args.steps.now c.frame.ensures.snapshot (omega (arith, c.present.ensures.cost))

pub returns-in_err-found-clause-cost : goal.returns-in_err-found-clause-cost
returns-in_err-found-clause-cost g c =
    blocks_reads-listed c.args.snapshot.now _ c.args.steps.now c.frame.ensures.snapshot (omega (arith, c.present.ensures.cost))

pub overflow_cast-place-end : goal.overflow_cast-place-end
overflow_cast-place-end g c =
    omega (
      arith,
      count g (goal.at.overflow_cast-place-end g c).After-len-place-end,
      few_places c.args.snapshot.now c.frame.ensures.snapshot,
    )

pub block_bounded-rank-requires-clause-within : goal.block_bounded-rank-requires-clause-within
block_bounded-rank-requires-clause-within g c =
    omega (
      arith,
      c.loop-place-test.true,
      count g (goal.at.block_bounded-rank-requires-clause-within g c).After-len-place-end,
    )

pub morton-requires-clause-inside : goal.morton-requires-clause-inside
morton-requires-clause-inside g c =
    let view = c.args.snapshot.now in
    subst (λ (f : Frame). IsInGrid f.height f.base c.block_bounded-rank.result.1.cell) (sym c.frame.ensures.value)
    (subst (λ (b : Anchored). IsInGrid view.frame.height view.frame.base b.cell) (sym c.block_bounded-rank.ensures.value)
    (inside-at view c.frame.ensures.snapshot c.loop-place.place (omega (
      arith,
      c.loop-place-test.true,
      count g (goal.at.morton-requires-clause-inside g c).After-len-place-end,
    ))))

pub returns-in_err-push-clause-cost : goal.returns-in_err-push-clause-cost
returns-in_err-push-clause-cost g c =
    reads g (goal.at.returns-in_err-push-clause-cost g c).After-len-place-end c.loop-place.place c.loop-place.steps _
    c.loop-place-test.true c.loop-place.invariant.reads c.block_bounded-rank.ensures.cost

pub loop-place-init : goal.loop-place-init
loop-place-init g c = record {
  found = record {
    blocks_are = c.in_ok-found.ensures.by_leaf;
    codes_are = c.in_ok-found.ensures.codes;
    ranks_are = c.in_ok-found.ensures.ranks;
  };
  reads = omega (arith, c.present.ensures.cost);
}

pub loop-place-preserved : goal.loop-place-preserved
loop-place-preserved g c =
    let view = c.args.snapshot.now in
    let place : ℕ = c.loop-place.place in
    let at = (goal.at.loop-place-preserved g c).After-len-place-end in
    let before = c.loop-place.invariant in
    let read : c.morton.result ≡ morton_of_block view.frame (block_at view place) =
    c.morton.ensures ∙ ap (λ (f : Frame). morton_of f.height f.base c.block_bounded-rank.result.1.cell) c.frame.ensures.value
    ∙ ap (morton_of_block view.frame) c.block_bounded-rank.ensures.value in
    record {
      found = AreFoundBefore-more view place c.loop-place.found before.found c.push.new.self c.block_bounded-rank.result.0
          c.morton.result c.block_bounded-rank.result.1 (omega (arith, c.loop-place-test.true, count g at))
          c.block_bounded-rank.ensures.rank c.block_bounded-rank.ensures.value read c.in_ok-push.ensures.by_leaf
          c.in_ok-push.ensures.codes c.in_ok-push.ensures.ranks;
      reads = omega (arith, before.reads, c.block_bounded-rank.ensures.cost);
    }

-- all places were gone over
all : (g : Over) (c : After-len-place-end g) (place : ℕ) → c.len-place-end.result ≤ place → place ≤ c.len-place-end.result
    → place ≡ length c.args.snapshot.now.parts.perm
all g c place end within = omega (arith, end, within, count g c)

pub returns-clause-found : goal.returns-clause-found
returns-clause-found g c =
    AreFound-all c.args.snapshot.now c.loop-place.place c.loop-place.found c.loop-place.invariant.found c.frame.ensures.snapshot
    (all g (goal.at.returns-clause-found g c).After-len-place-end c.loop-place.place c.loop-place-test.false
    c.loop-place.auto.place-end)

pub returns-clause-cost : goal.returns-clause-cost
returns-clause-cost g c =
    let last = all g (goal.at.returns-clause-cost g c).After-len-place-end c.loop-place.place c.loop-place-test.false
    c.loop-place.auto.place-end in
    blocks_reads-listed c.args.snapshot.now _ c.args.steps.now c.frame.ensures.snapshot
    (omega (arith, c.loop-place.invariant.reads, last))
