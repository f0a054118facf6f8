use Rattle.std.proofs.Common.{◌≡◌, ℕ, ◌<◌, ◌≤◌, length}
use Rattle.std.specs.Prelude.{slice_index}
use Rattle.rule_order.proofs.settling.renumbered.Given as goal

abbrev pub invariant-loop-place : goal.invariant-loop-place
invariant-loop-place l = record {
  len : length l.renumbered.items ≡ length l.initial.renumbered.items;
  done : (k : ℕ) → k < l.place → slice_index l.renumbered.items k ≡ slice_index l.places (slice_index l.initial.renumbered.items k);
  left : (k : ℕ) → l.place ≤ k → slice_index l.renumbered.items k ≡ slice_index l.initial.renumbered.items k;
}
