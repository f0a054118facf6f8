use Rattle.std.proofs.Common.{◌≡◌, map, take}
use Rattle.box_tree.specs.Places.{box_at}
use Rattle.snapshots.proofs.keeping.picked.Given as goal

abbrev pub invariant-loop-place : goal.invariant-loop-place
invariant-loop-place l = l.boxes.items ≡ map (box_at l.fn.areas) (take l.place-index l.fn.places)
