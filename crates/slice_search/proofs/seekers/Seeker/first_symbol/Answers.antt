use Rattle.std.proofs.Common.{◌≡◌, sym, ◌∙◌, arith}
use Rattle.std.proofs.lemmas.Int.{ints}
use Rattle.rule_store.specs.Log.{log_of}
use Rattle.log_cursor.proofs.StopLemmas.{word}
use Rattle.slice_search.proofs.HitLemmas.{first_in-found}
use Rattle.rule_store.specs.Needs.{places_of}
use Rattle.snapshots.specs.Parts.{snapshot_in}
use Rattle.slice_search.specs.Needs.{period_rule}
use Rattle.slice_search.proofs.NeedsLemmas.{symbols-within}
use Rattle.slice_search.proofs.seekers.Seeker.first_symbol.Goals as goal

pub returns-clause-value : goal.returns-clause-value
returns-clause-value g c =
    let sought = c.args.sought.now in
    let placed = c.new-placed.ensures in
    let kept : word sought.from ≡ sought.from = omega (arith, ints) in
    (rw kept at c.first_symbol.ensures.value)
    ∙ sym (first_in-found sought.stores.now sought.period sought.from c.args.block.now (log_of c.new-placed.result.log)
    c.new-placed.result.start placed.log placed.start)

pub first_symbol-requires : goal.first_symbol-requires
first_symbol-requires g c =
    let sought = c.args.sought.now in
    let view = snapshot_in sought.stores.now sought.period in
    record {
      may = λ read needed. c.requires.may read (symbols-within view c.args.block.now c.requires.block
          (places_of c.new-placed.result.log) c.new-placed.ensures.places
          (period_rule sought.stores.now sought.period sought.from sought.from sought.test.now.region) read needed);
    }
