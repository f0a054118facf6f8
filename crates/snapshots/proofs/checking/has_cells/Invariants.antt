use Rattle.std.proofs.Common.{◌≡◌, ◌-◌, false, eqb, get_or, take}
use Rattle.std.specs.Prelude.{◌||◌}
use Rattle.packed_bits.specs.Bits.{ones_of}
use Rattle.snapshots.proofs.checking.has_cells.Given as goal

abbrev pub invariant-loop-place : goal.invariant-loop-place
invariant-loop-place l = record {
  count : l.cells ≡ ones_of (take l.place l.lasts);
  last : l.is_last ≡ (eqb l.place 0 || get_or l.lasts (l.place - 1) false);
}
