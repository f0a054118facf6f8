use Rattle.std.proofs.Common.{take}
use Rattle.index_format.specs.Packing.{IsPacking}
use Rattle.index_format.specs.Spelling.{bits_with}
use Rattle.index_format.proofs.packing.put_packed.Given as goal

abbrev pub invariant-loop-number : goal.invariant-loop-number
invariant-loop-number l =
    IsPacking l.initial.out.items (bits_with l.width (take l.number-index l.numbers)) l.out.items l.word.bits l.word.len
