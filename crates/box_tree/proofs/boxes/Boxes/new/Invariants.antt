use Rattle.std.proofs.Common.{◌≡◌, take, length}
use Rattle.box_tree.specs.Boxes.{boxes_of}
use Rattle.box_tree.proofs.boxes.Boxes.new.Given as goal

abbrev pub invariant-loop-area : goal.invariant-loop-area
invariant-loop-area l = record {
  made : boxes_of l.base l.corners.items l.reaches.items ≡ take l.area-index l.list;
  same : length l.reaches.items ≡ length l.corners.items;
}
