use Rattle.std.proofs.Common.{◌<◌, ◌≤◌, ◌^◌, length, All}
use Rattle.std.specs.List.Sorted.{IsStrictlyIncreasing}
use Rattle.part_tests.proofs.trees.random.random_codes.Given as goal

abbrev pub invariant-loop-code : goal.invariant-loop-code
invariant-loop-code l = record {
  few : length l.codes.items ≤ 2 ^ 16;
  below : All (λ code. code < l.code) l.codes.items;
  ascending : IsStrictlyIncreasing l.codes.items;
}
