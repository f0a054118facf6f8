use Rattle.std.proofs.Common.{◌≡◌, false, take}
use Rattle.std.specs.List.{list_any}
use Rattle.track_types.specs.Region.{intersects_shape}
use Rattle.track_types.proofs.region.any_intersects.Given as goal

abbrev pub invariant-loop-shape : goal.invariant-loop-shape
invariant-loop-shape l = list_any (λ shape. intersects_shape shape l.area) (take l.shape-index l.shapes) ≡ false
