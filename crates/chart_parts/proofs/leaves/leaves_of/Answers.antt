use Rattle.std.proofs.Common.{◌∙◌, length, refl, rules}
use Rattle.std.proofs.lemmas.List.FromFn.{length-map-range_with_len}
use Rattle.std.proofs.lemmas.List.Sorted.{answers_always, length_permutation}
use Rattle.chart_parts.specs.Leaf.{number_of}
use Rattle.chart_parts.specs.PeriodWith.{block_leaf}
use Rattle.chart_parts.proofs.LeafOrderLemmas.{leaves_from, rising-order, sorted_leaves}
use Rattle.chart_parts.proofs.leaves.leaves_of.Goals as goal

pub returns-then-rises : goal.returns-then-rises
returns-then-rises c =
    let frame = c.args.frame in
    let heads = c.args.heads.now in
    let its = rw c.in_ok-by_object.ensures at c.in_ok-leaves.ensures in
    record {
      ok = rising-order frame heads c.requires.few c.in_ok-leaves.leaves.items its.among its.same
          (rw c.as_slice.ensures.value at (c.if-rises.ensures refl));
      few = its.same ∙ length-map-range_with_len (block_leaf frame heads) 0 (length heads);
    }

pub returns : goal.returns
returns c =
    let frame = c.args.frame in
    let heads = c.args.heads.now in
    let sorted = c.sort_unstable_by_key.new.self.items in
    let up = c.sort_unstable_by_key.ensures.sorted number_of (answers_always _ _ _ (λ f a r g h. search rules)) in
    let moved = rw c.in_ok-leaves-2.ensures at c.sort_unstable_by_key.ensures.permutation in
    record {
      ok = sorted_leaves frame heads c.requires.few sorted moved up;
      few =
          length_permutation (leaves_from frame heads) sorted moved
          ∙ length-map-range_with_len (block_leaf frame heads) 0 (length heads);
    }
