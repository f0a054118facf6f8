use Rattle.std.proofs.Common.{◌∙◌}
use Rattle.gridding.proofs.MergeLemmas.{no_place}
use Rattle.gridding.proofs.RecountingLemmas.{IsExtentWithin-widened, extent-place, within_word}
use Rattle.gridding.proofs.track_blocks.recounting.extent_with.Goals as goal

pub loop-place-preserved : goal.loop-place-preserved
loop-place-preserved c =
    let word = within_word c.row.result.instant c.row.ensures.instant in
    record {
      exact =
          rw (word, c.row.ensures.row, c.loop-place.invariant.exact) at c.widened-extent.ensures
          ∙ extent-place c.args.origin c.args.extent c.args.object c.args.places.now c.loop-place.place-index no_place
          c.loop-place-test.true;
      near =
          rw (c.widened-extent.ensures, word)
          (IsExtentWithin-widened c.loop-place.extent c.row.result.instant c.loop-place.invariant.near c.row.ensures.instant);
    }
