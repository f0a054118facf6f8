use Rattle.std.proofs.Common.{refl, arith}
use Rattle.std.proofs.lemmas.Int.{ints}
use Rattle.rule_store.specs.Boxes.{bounding_box_of}
use Rattle.rule_store.proofs.PackLemmas.{same_entry, same_hull}
use Rattle.rule_store.proofs.packed_entry.PackedEntry.unpack.Goals as goal

pub returns-clause-value : goal.returns-clause-value
returns-clause-value c = λ values packed.
    same_entry _ c.args.symbol values refl packed.duration (omega (arith, ints)) (omega (arith, ints))
    (same_hull c.args.self.hull c.unpack.result (bounding_box_of values) c.unpack.ensures.value packed.hull)
