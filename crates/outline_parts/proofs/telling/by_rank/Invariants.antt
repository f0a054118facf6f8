use Rattle.std.proofs.Common.{◌≡◌, ℕ, ◌<◌, length}
use Rattle.std.specs.Prelude.{slice_index}
use Rattle.bit_rank.specs.Bits.{rank_of}
use Rattle.outline_parts.proofs.telling.by_rank.Given as goal

abbrev pub invariant-loop-place : goal.invariant-loop-place
invariant-loop-place l = record {
  long : length l.codes.items ≡ length l.perm;
  leaf : l.leaf ≡ rank_of l.lasts l.place;
  each : (place : ℕ) → place < l.place → slice_index l.codes.items (slice_index l.perm place) ≡ slice_index l.leaves (rank_of l.lasts place);
}
