use Rattle.std.proofs.Common.{◌<◌, ◌≤◌, All}
use Rattle.box_tree.specs.Places.{Ascends}
use Rattle.part_tests.proofs.boxes.some_codes.Given as goal

abbrev pub invariant-made : goal.invariant-made
invariant-made l = record {
  ascend : Ascends 0 l.codes.items;
  last : All (λ c. c ≤ l.code) l.codes.items;
  inside : All (λ c. c < l.limit) l.codes.items;
}
