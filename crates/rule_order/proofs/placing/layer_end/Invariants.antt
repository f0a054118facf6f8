use Rattle.std.proofs.Common.{◌≡◌, ℕ, ◌-◌, ◌<◌, ◌≤◌, length}
use Rattle.std.specs.Prelude.{slice_index_or}
use Rattle.rule_order.proofs.placing.layer_end.Given as goal

abbrev pub invariant-loop-end : goal.invariant-loop-end
invariant-loop-end l = record {
  above : l.from < l.end;
  within : l.end ≤ length l.queue;
  layer : l.layer ≡ (slice_index_or l.queue l.from (0, 0)).0;
  alike : (i : ℕ) → l.from ≤ i → i < l.end → (slice_index_or l.queue i (0, 0)).0 ≡ l.layer;
}

abbrev pub decreases-loop-end : goal.decreases-loop-end
decreases-loop-end l = length l.queue - l.end
