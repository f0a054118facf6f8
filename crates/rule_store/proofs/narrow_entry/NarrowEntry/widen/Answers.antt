use Rattle.std.proofs.Common.{arith}
use Rattle.std.proofs.lemmas.Int.{ints}
use Rattle.rule_store.specs.Stored.{wide_entry}
use Rattle.rule_store.proofs.EntriesLemmas.{same_packed}
use Rattle.rule_store.proofs.narrow_entry.NarrowEntry.widen.Goals as goal

pub returns : goal.returns
returns c =
    same_packed _ (wide_entry c.args.self) (omega arith) (omega arith)
    (omega (arith, ints)) (omega (arith, ints))
    (omega (arith, ints)) (omega (arith, ints))
    (omega (arith, ints)) (omega (arith, ints))
