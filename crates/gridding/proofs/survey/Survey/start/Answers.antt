use Rattle.std.proofs.Common.{refl}
use Rattle.track_types.specs.Quantities.{distinct}
use Rattle.gridding.proofs.survey.Survey.start.Goals as goal

pub returns : goal.returns
unfolding distinct
returns c = record {
  objects = λ up few. refl;
  last = refl;
  extents = c.empty.ensures;
}
