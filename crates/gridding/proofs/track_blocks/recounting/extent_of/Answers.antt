use Rattle.std.proofs.Common.{◌∙◌}
use Rattle.gridding.proofs.MergeLemmas.{no_run}
use Rattle.gridding.proofs.RecountingLemmas.{extent-run}
use Rattle.gridding.proofs.track_blocks.recounting.extent_of.Goals as goal

pub loop-object-preserved : goal.loop-object-preserved
loop-object-preserved c = record {
  exact =
      rw c.loop-object.invariant.exact at c.extent_with-extent.ensures.exact
      ∙ extent-run c.args.origin c.args.runs.now c.loop-object.object-index no_run c.loop-object-test.true;
  near = c.extent_with-extent.ensures.near;
}
