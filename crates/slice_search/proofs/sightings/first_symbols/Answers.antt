use Rattle.std.proofs.Common.{◌<◌, ◌++◌, ◌∷◌, [], length, map, take, ap, sym, ◌∙◌, arith}
use Rattle.std.proofs.lemmas.List.{map_more}
use Rattle.std.proofs.lemmas.List.Sums.{sum_by_more}
use Rattle.log_cursor.specs.Descent.{first_reads}
use Rattle.slice_search.specs.Seekers.{first_in, first_reads_in}
use Rattle.slice_search.proofs.HitLemmas.{no_block}
use Rattle.slice_search.proofs.sightings.first_symbols.Goals as goal

pub first_symbol-requires-clause-block : goal.first_symbol-requires-clause-block
first_symbol-requires-clause-block g c = c.requires.blocks c.loop-i.i no_block (omega (arith, c.loop-i-test.true))

pub loop-i-preserved : goal.loop-i-preserved
loop-i-preserved g c =
    let sought = c.args.sought.now in
    let symbol = first_in sought.stores.now sought.period sought.from in
    let its = c.loop-i.invariant in
    let within : c.loop-i.i < length c.args.group.now = omega (arith, c.loop-i-test.true) in
    let one = c.first_symbol.ensures in
    record {
      count = omega (arith, c.push.ensures.len, its.count, ap length c.push.ensures.items);
      value = c.push.ensures.items ∙ ap (λ s. s ++ c.first_symbol.result ∷ []) its.value
          ∙ ap (λ s. map symbol (take c.loop-i.i c.args.group.now) ++ s ∷ []) one.value
          ∙ sym (map_more symbol c.args.group.now c.loop-i.i no_block within);
      reads = omega (
        arith,
        its.reads,
        one.cost,
        ap first_reads one.value,
        sum_by_more (first_reads_in sought.stores.now sought.period sought.from) c.args.group.now c.loop-i.i no_block within,
      );
    }
