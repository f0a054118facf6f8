use Rattle.std.proofs.Common.{◌≡◌, ℕ, ◌<◌, ◌≤◌, false}
use Rattle.snapshots.specs.Flaws.{is_disordered}
use Rattle.snapshots.proofs.checking.find_disorder.Given as goal

abbrev pub invariant-loop-place : goal.invariant-loop-place
invariant-loop-place l = (j : ℕ) → 1 ≤ j → j < l.place → is_disordered l.lasts l.perm j ≡ false
