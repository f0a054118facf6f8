use Rattle.std.proofs.Common.{◌≡◌, ◌++◌, take}
use Rattle.object_perm.specs.Marks.{marks_of, targets_of}
use Rattle.object_perm.proofs.group.pack_group.Given as goal

abbrev pub invariant-loop-bit : goal.invariant-loop-bit
invariant-loop-bit l = record {
  marks : l.marks ≡ marks_of (take l.bit l.places);
  targets : l.targets.items ≡ l.fn.targets.items ++ targets_of (take l.bit l.places);
}
