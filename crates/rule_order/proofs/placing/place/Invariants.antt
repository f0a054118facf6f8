use Rattle.std.proofs.Common.{◌≡◌, ℕ, ◌+◌, ◌<◌, length}
use Rattle.std.specs.Prelude.{slice_index}
use Rattle.rule_order.specs.Queue.{AreNumbered, symbol_at}
use Rattle.rule_order.proofs.placing.place.Given as goal

abbrev pub invariant-loop-key : goal.invariant-loop-key
invariant-loop-key l = record {
  next : l.next ≡ l.first + l.key-index;
  len : length l.places.items ≡ length l.initial.places.items;
  kept : (number : ℕ → ℕ) → AreNumbered number l.first l.keys →
      (symbol : ℕ) → slice_index l.initial.places.items symbol ≡ number symbol → slice_index l.places.items symbol ≡ number symbol;
  placed : (number : ℕ → ℕ) → AreNumbered number l.first l.keys →
      (i : ℕ) → i < l.key-index → slice_index l.places.items (symbol_at l.keys i) ≡ number (symbol_at l.keys i);
}
