use Rattle.std.proofs.Common.{◌-◌, All}
use Rattle.std.specs.List.{range_with_len}
use Rattle.track_types.specs.Near.{IsBoxWithin}
use Rattle.k2_tree.specs.Areas.{IsBoxInside}
use Rattle.track_types.specs.declared.cell.Cell.{Cell}
use Rattle.box_tree.specs.Boxes.{IsFrom}
use Rattle.box_tree.specs.Places.{box_at}
use Rattle.box_tree.proofs.building.round.Given as goal

abbrev pub invariant-loop-place : goal.invariant-loop-place
invariant-loop-place l = record {
  covers : All (λ place. IsBoxInside (box_at l.boxes place) l.area) (range_with_len l.low (l.place - l.low));
  within : IsBoxWithin l.area;
  from : (base : Cell) → All (IsFrom base) l.boxes → IsFrom base l.area;
}
