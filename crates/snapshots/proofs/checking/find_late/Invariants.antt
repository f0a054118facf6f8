use Rattle.std.proofs.Common.{◌≡◌, ℕ, ◌<◌, false, leb, get_or}
use Rattle.snapshots.proofs.checking.find_late.Given as goal

abbrev pub invariant-loop-place : goal.invariant-loop-place
invariant-loop-place l = (j : ℕ) → j < l.place → leb l.instants (get_or l.offsets j 0) ≡ false
