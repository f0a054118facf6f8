use Rattle.std.proofs.Common.{◌≡◌, ◌∙◌, ◌+◌, ◌*◌, ◌<◌, ◌≤◌, Some, ap, arith, get_or, length, rules, sym, ℕ}
use Rattle.std.proofs.lemmas.List.{get_or_default, length-map}
use Rattle.std.proofs.lemmas.Option.{slice_get-get_or}
use Rattle.bit_rank.proofs.RankLemmas.{rank_of-le-place, rank_of-zero}
use Rattle.k2_tree.specs.Morton.{morton_of}
use Rattle.k2_tree.specs.TreeSquares.{squares_of}
use Rattle.snapshots.specs.IndexCost.{blocks_reads}
use Rattle.snapshots.specs.TrackTree.{morton_of_block}
use Rattle.snapshots.proofs.ByObjectLemmas.{blocks_reads-listed}
use Rattle.snapshots.proofs.KeptLemmas.{code-at}
use Rattle.snapshots.proofs.FoundLemmas.{AreFound-all, AreFoundBefore-more}
use Rattle.snapshots.proofs.OnesLemmas.{length-first_ones}
use Rattle.std.specs.Prelude.{if◌then◌else◌}
use Rattle.bit_rank.specs.Cost.{select_reads, window_reads}
use Rattle.object_perm.specs.Cost.{at_reads}
use Rattle.k2_tree.specs.Tree.{Tree, codes_of}
use Rattle.snapshots.specs.View.{block_at, leaf_at, tree_in}
use Rattle.snapshots.proofs.BlockLemmas.{leaf_known}
use Rattle.snapshots.proofs.PlacesLemmas.{few_places}
use Rattle.snapshots.proofs.finding.find_blocks.Given.{Over}
use Rattle.snapshots.proofs.finding.find_blocks.Goals as goal
use Rattle.snapshots.proofs.finding.find_blocks.Goals.{After-len-place-end, then-is_last, else-is_last}

-- as many places as objects are present
count : (g : Over) (c : After-len-place-end g) → c.len-place-end.result ≡ length c.args.snapshot.now.parts.perm
count g c =
    let parts = c.args.snapshot.now.parts in
    omega (arith, c.len-place-end.ensures, ap length c.in_ok-present.ensures.ok, length-first_ones parts.present (length parts.perm))

-- the tree's cells
cells : (g : Over) (c : After-len-place-end g) → c.in_ok-listing.listing.cells.items ≡ (tree_in c.args.snapshot.now).cells
cells g c = c.in_ok-listing.ensures.cells ∙ ap (λ (t : Tree). t.cells) c.tree.ensures.value

codes : (g : Over) (c : After-len-place-end g) → c.in_ok-listing.listing.codes.items ≡ codes_of (tree_in c.args.snapshot.now)
codes g c = c.in_ok-listing.ensures.codes ∙ ap codes_of c.tree.ensures.value

pub overflow_cast-place-end : goal.overflow_cast-place-end
overflow_cast-place-end g c = omega (arith, count g (goal.at.overflow_cast-place-end g c).After-len-place-end, few_places c.args.snapshot.now c.tree.ensures.snapshot)

-- a place is one of the period's, and its leaf one of the tree's
here : (g : Over) (c : After-len-place-end g) (place : ℕ) → place < c.len-place-end.result
    → place < length c.args.snapshot.now.parts.perm
here g c place below = omega (arith, below, count g c)

leaf_within : (g : Over) (c : After-len-place-end g) (place leaf : ℕ) → place < c.len-place-end.result
    → leaf ≡ leaf_at c.args.snapshot.now place → leaf < length (tree_in c.args.snapshot.now).cells
leaf_within g c place leaf below is =
    omega (arith, is, leaf_known c.args.snapshot.now place c.tree.ensures.snapshot (here g c place below))

pub index-requires : goal.index-requires
index-requires g c =
    let at = goal.at.index-requires g c in
    let within : c.loop-place.leaf < length c.in_ok-listing.listing.cells.items =
    omega (arith, leaf_within g at.After-len-place-end c.loop-place.place c.loop-place.leaf c.loop-place-test.true c.loop-place.invariant.leaf, ap length (cells g at.After-len-place-end)) in
    search (rules, within)

pub block_among-rank-requires-clause-within : goal.block_among-rank-requires-clause-within
block_among-rank-requires-clause-within g c = here g (goal.at.block_among-rank-requires-clause-within g c).After-len-place-end c.loop-place.place c.loop-place-test.true

pub block_among-rank-requires-clause-cell : goal.block_among-rank-requires-clause-cell
block_among-rank-requires-clause-cell g c =
    let view = c.args.snapshot.now in
    let at = goal.at.block_among-rank-requires-clause-cell g c in
    let read : c.index.result.now ≡ get_or (tree_in view).cells (leaf_at view c.loop-place.place) c.index.result.now =
    c.index.ensures ∙ ap (λ xs. get_or xs c.loop-place.leaf c.index.result.now) (cells g at.After-len-place-end)
    ∙ ap (λ i. get_or (tree_in view).cells i c.index.result.now) c.loop-place.invariant.leaf in
    slice_get-get_or (tree_in view).cells (leaf_at view c.loop-place.place) c.index.result.now
    (omega (arith, leaf_within g at.After-len-place-end c.loop-place.place c.loop-place.leaf c.loop-place-test.true c.loop-place.invariant.leaf, c.loop-place.invariant.leaf))
    ∙ ap Some (sym read)

pub index-requires-in-loop-place : goal.index-requires-in-loop-place
index-requires-in-loop-place g c =
    let at = goal.at.index-requires-in-loop-place g c in
    let within : c.loop-place.leaf < length c.in_ok-listing.listing.codes.items =
    omega (
      arith,
      leaf_within g at.After-len-place-end c.loop-place.place c.loop-place.leaf c.loop-place-test.true c.loop-place.invariant.leaf,
      ap length (codes g at.After-len-place-end),
      length-map (tree_in c.args.snapshot.now).cells
          (morton_of c.args.snapshot.now.frame.height c.args.snapshot.now.frame.base),
    ) in
    search (rules, within)

pub is_last-requires-clause-within : goal.is_last-requires-clause-within
is_last-requires-clause-within g c = here g (goal.at.is_last-requires-clause-within g c).After-len-place-end c.loop-place.place c.loop-place-test.true

pub overflow_add-leaf : goal.overflow_add-leaf
overflow_add-leaf g c =
    let view = c.args.snapshot.now in
    omega (
      arith,
      c.loop-place.invariant.leaf,
      rank_of-le-place view.parts.lasts c.loop-place.place,
      here g (goal.at.overflow_add-leaf g c).After-len-place-end c.loop-place.place c.loop-place-test.true,
      few_places view c.tree.ensures.snapshot,
    )

-- the reads so far are within those of all blocks
reads : (g : Over) (c : After-len-place-end g) (place steps more : ℕ) → place < c.len-place-end.result
    → steps ≤ c.args.steps.now + (window_reads * length (squares_of (tree_in c.args.snapshot.now))
    + select_reads * length c.args.snapshot.now.parts.perm + 2 * place) → more ≤ steps + at_reads
    → more ≤ c.args.steps.now + blocks_reads c.args.snapshot.now
reads g c place steps more below before read =
    blocks_reads-listed c.args.snapshot.now more c.args.steps.now c.tree.ensures.snapshot
    (omega (arith, before, read, here g c place below))

pub returns-in_err-push-clause-cost : goal.returns-in_err-push-clause-cost
returns-in_err-push-clause-cost g c =
    reads g (goal.at.returns-in_err-push-clause-cost g c).After-len-place-end c.loop-place.place c.loop-place.steps _
    c.loop-place-test.true c.loop-place.invariant.reads c.block_among-rank.ensures.cost

pub loop-place-init : goal.loop-place-init
loop-place-init g c = record {
  leaf = sym (rank_of-zero c.args.snapshot.now.parts.lasts);
  found = record {
    blocks_are = c.in_ok-found.ensures.by_leaf;
    codes_are = c.in_ok-found.ensures.codes;
    ranks_are = c.in_ok-found.ensures.ranks;
  };
  reads = omega (
    arith,
    c.in_ok-listing.ensures.cost,
    c.in_ok-present.ensures.cost,
    ap (λ t. length (squares_of t)) c.tree.ensures.value,
  );
}

pub loop-place-preserved : goal.loop-place-preserved
loop-place-preserved g c =
    let view = c.args.snapshot.now in
    let place : ℕ = c.loop-place.place in
    let at = goal.at.loop-place-preserved g c in
    let before = c.loop-place.invariant in
    let code : ℕ = c.index-in-loop-place.result.now in
    let read : code ≡ morton_of_block view.frame (block_at view place) =
    c.index-in-loop-place.ensures ∙ ap (λ xs. get_or xs c.loop-place.leaf code) (codes g at.After-len-place-end)
    ∙ ap (λ i. get_or (codes_of (tree_in view)) i code) before.leaf
    ∙ get_or_default (codes_of (tree_in view)) (leaf_at view place) code 0
    (omega (
      arith,
      leaf_within g at.After-len-place-end c.loop-place.place c.loop-place.leaf c.loop-place-test.true c.loop-place.invariant.leaf,
      before.leaf,
      length-map (tree_in view).cells (morton_of view.frame.height view.frame.base),
    ))
    ∙ sym (code-at view c.tree.ensures.snapshot place (here g at.After-len-place-end place c.loop-place-test.true)) in
    record {
      leaf = elim c.if-is_last.branch [
        | then-is_last w ↦
            w.leaf-is ∙ ap (λ n. n + 1) before.leaf
            ∙ sym (c.is_last.ensures.next ∙ ap (λ b. leaf_at view place + (if b then 1 else 0)) w.if-is_last.true)
        | else-is_last w ↦
            let same : leaf_at view place + 0 ≡ leaf_at view place = omega arith in
            w.leaf-is ∙ before.leaf
            ∙ sym (c.is_last.ensures.next ∙ ap (λ b. leaf_at view place + (if b then 1 else 0)) w.if-is_last.false ∙ same)
      ];
      found = AreFoundBefore-more view place c.loop-place.found before.found c.push.new.self c.block_among-rank.result.0 code
          c.block_among-rank.result.1 (here g at.After-len-place-end place c.loop-place-test.true) c.block_among-rank.ensures.rank
          c.block_among-rank.ensures.value read c.in_ok-push.ensures.by_leaf c.in_ok-push.ensures.codes c.in_ok-push.ensures.ranks;
      reads = omega (arith, before.reads, c.block_among-rank.ensures.cost, c.is_last.ensures.cost);
    }

-- all places were gone over
all : (g : Over) (c : After-len-place-end g) (place : ℕ) → c.len-place-end.result ≤ place → place ≤ c.len-place-end.result
    → place ≡ length c.args.snapshot.now.parts.perm
all g c place end within = omega (arith, end, within, count g c)

pub returns-clause-found : goal.returns-clause-found
returns-clause-found g c =
    AreFound-all c.args.snapshot.now c.loop-place.place c.loop-place.found c.loop-place.invariant.found c.tree.ensures.snapshot
    (all g (goal.at.returns-clause-found g c).After-len-place-end c.loop-place.place c.loop-place-test.false
    c.loop-place.auto.place-end)

pub returns-clause-cost : goal.returns-clause-cost
returns-clause-cost g c =
    let last = all g (goal.at.returns-clause-cost g c).After-len-place-end c.loop-place.place c.loop-place-test.false
    c.loop-place.auto.place-end in
    blocks_reads-listed c.args.snapshot.now _ c.args.steps.now c.tree.ensures.snapshot
    (omega (arith, c.loop-place.invariant.reads, last))

pub returns-in_err-listing-clause-cost : goal.returns-in_err-listing-clause-cost
returns-in_err-listing-clause-cost g c =
    blocks_reads-listed c.args.snapshot.now _ c.args.steps.now c.tree.ensures.snapshot
    (omega (arith, c.listing.ensures.cost, ap (λ t. length (squares_of t)) c.tree.ensures.value))

pub returns-in_err-present-clause-cost : goal.returns-in_err-present-clause-cost
returns-in_err-present-clause-cost g c =
    blocks_reads-listed c.args.snapshot.now _ c.args.steps.now c.tree.ensures.snapshot (omega (
      arith,
      c.listing.ensures.cost,
      c.present.ensures.cost,
      ap (λ t. length (squares_of t)) c.tree.ensures.value,
    ))

pub returns-in_err-found-clause-cost : goal.returns-in_err-found-clause-cost
returns-in_err-found-clause-cost g c =
    blocks_reads-listed c.args.snapshot.now _ c.args.steps.now c.tree.ensures.snapshot (omega (
      arith,
      c.listing.ensures.cost,
      c.present.ensures.cost,
      ap (λ t. length (squares_of t)) c.tree.ensures.value,
    ))
