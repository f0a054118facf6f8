use Rattle.std.proofs.Common.{◌≡◌, ◌+◌, map, take}
use Rattle.std.specs.Prelude.{sum}
use Rattle.std.specs.List.{range_with_len}
use Rattle.snapshots.proofs.checking.starts_of.Given as goal

abbrev pub invariant-loop-len : goal.invariant-loop-len
invariant-loop-len l = record {
  begin : l.starts.items ≡ map (λ rank. l.start + sum (take rank l.lengths)) (range_with_len 0 l.len-index);
  next : l.next ≡ l.start + sum (take l.len-index l.lengths);
}
