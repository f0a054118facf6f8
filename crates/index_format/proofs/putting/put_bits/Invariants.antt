use Rattle.std.proofs.Common.{◌≡◌, ◌*◌, ◌++◌, length, min}
use Rattle.index_format.specs.Spelling.{bytes_filled, bytes_for}
use Rattle.index_format.proofs.putting.put_bits.Given as goal

abbrev pub invariant-loop-i : goal.invariant-loop-i
invariant-loop-i l = l.out.items ≡ l.initial.out.items ++ bytes_filled (min (8 * l.i) (bytes_for (length l.bits))) l.bits
