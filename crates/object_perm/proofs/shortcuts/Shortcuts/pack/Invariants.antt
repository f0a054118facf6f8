use Rattle.std.proofs.Common.{◌≡◌, ℕ, ◌+◌, ◌*◌, ◌<◌, ◌≤◌, length, drop, get_or, None}
use Rattle.std.specs.Slice.Iter.{chunks_rest, chunks_size}
use Rattle.object_perm.specs.Marks.{shortcut_at, HasEach}
use Rattle.object_perm.proofs.shortcuts.Shortcuts.pack.Given as goal

abbrev pub invariant-loop-chunk : goal.invariant-loop-chunk
invariant-loop-chunk l = record {
  can : goal.iterator-loop-chunk.can_next l.chunk-iterator;
  finite : goal.iterator-loop-chunk.is_finite l.chunk-iterator;
  size : chunks_size l.chunk-iterator ≡ 32;
  rest : chunks_rest l.chunk-iterator ≡ drop (32 * length l.groups.items) l.places;
  few : length l.targets.items + length (chunks_rest l.chunk-iterator) ≤ length l.places;
  held : (place : ℕ) → place < 32 * length l.groups.items →
      shortcut_at l.groups.items l.targets.items place ≡ get_or l.places place None;
  each : HasEach l.groups.items l.targets.items;
}
