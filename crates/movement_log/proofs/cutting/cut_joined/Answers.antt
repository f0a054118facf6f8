use Rattle.std.proofs.Common.{ℕ, List, length, map, arith, sym, ◌∙◌, ap}
use Rattle.std.specs.List.{flat_map, sum}
use Rattle.std.proofs.lemmas.List.Sums.{sum-map}
use Rattle.movement_log.specs.Blocks.{anchor_in, log_length_of}
use Rattle.movement_log.specs.Logs.{ascending_of, terminal_of, values_after}
use Rattle.movement_log.specs.declared.blocks.Block.{Block}
use Rattle.movement_log.proofs.CutLemmas.{length-values, logs_are, sum_by-blocks}
use Rattle.movement_log.proofs.cutting.cut_joined.Goals as goal

pub total-requires : goal.total-requires
total-requires c =
    let chart = c.args.chart.now in
    let blocks = c.in_ok-blocks.blocks.items in
    let lengths = c.deref-3.ensures.value ∙ c.in_ok-lengths.ensures
    ∙ ap (map (λ block. log_length_of chart (anchor_in chart.rows block))) c.deref.ensures.value in
    omega (
      arith,
      ap sum lengths,
      sum-map (λ (block : Block). log_length_of chart (anchor_in chart.rows block)) blocks,
      sum_by-blocks chart blocks c.in_ok-blocks.ensures.ok,
      c.in_ok-blocks.ensures.few,
    )

pub terminals_of-requires-clause-few : goal.terminals_of-requires-clause-few
terminals_of-requires-clause-few c =
    let chart = c.args.chart.now in
    let blocks = c.in_ok-blocks.blocks.items in
    let values = c.deref-4.ensures.value ∙ c.in_ok-values.ensures
    ∙ ap (flat_map (λ block. values_after chart (anchor_in chart.rows block))) c.deref-2.ensures.value in
    omega (
      arith,
      ap length values,
      length-values chart blocks c.in_ok-blocks.ensures.ok,
      ap length c.deref-5.ensures.value,
      c.in_ok-alphabet.ensures.few,
      c.in_ok-blocks.ensures.few,
    )

pub returns : goal.returns
returns c =
    let chart = c.args.chart.now in
    let blocks = c.in_ok-blocks.blocks.items in
    let values : List ℕ = c.in_ok-values.values.items in
    let values_is = c.in_ok-values.ensures
    ∙ ap (flat_map (λ block. values_after chart (anchor_in chart.rows block))) c.deref-2.ensures.value in
    let alphabet = c.new.ensures ∙ c.in_ok-alphabet.ensures.ok ∙ ap ascending_of c.deref-4.ensures.value in
    let heads = c.new-2.ensures ∙ c.in_ok-heads_of.ensures ∙ ap (map (λ block. block.head)) c.deref-7.ensures.value in
    let letters = c.deref-5.ensures.value ∙ sym c.new.ensures in
    let terminals = c.new-3.ensures ∙ c.in_ok-terminals.ensures
    ∙ ap (λ all. map (terminal_of all) c.deref-6.result.now) letters
    ∙ ap (map (terminal_of c.new.result)) c.deref-6.ensures.value in
    let lengths = c.new-4.ensures ∙ c.in_ok-lengths.ensures
    ∙ ap (map (λ block. log_length_of chart (anchor_in chart.rows block))) c.deref.ensures.value in
    record {
      ok = logs_are chart blocks c.in_ok-blocks.ensures.ok values c.new.result c.new-2.result c.new-3.result c.new-4.result
          values_is alphabet heads terminals lengths;
    }
