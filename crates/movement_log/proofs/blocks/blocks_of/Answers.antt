use Rattle.std.proofs.Common.{rules, arith}
use Rattle.std.proofs.lemmas.List.Sorted.{IsNonDecreasingBy-from_sort_by_key, answers_always}
use Rattle.movement_log.specs.Blocks.{log_length_of}
use Rattle.movement_log.proofs.PeriodLemmas.{block_period, sorted_blocks, sum_by-block_anchors}
use Rattle.movement_log.proofs.blocks.blocks_of.Goals as goal

pub returns-clause-ok : goal.returns-clause-ok
returns-clause-ok c =
    let chart = c.args.chart.now in
    let key = λ (block : _). block_period chart c.in_ok-blocks.ensures.chart.period.some block in
    let up = IsNonDecreasingBy-from_sort_by_key key _ c.in_ok-sort_by_key.ensures.sorted (λ a r q k. search rules) in
    let stable = c.in_ok-sort_by_key.ensures.stable key (answers_always _ _ _ (λ f a r g h. search rules)) in
    sorted_blocks chart c.in_ok-blocks.ensures.chart.period.some c.in_ok-blocks.blocks.items c.sort_by_key.new.self.items
    c.in_ok-blocks.ensures.ok c.in_ok-sort_by_key.ensures.permutation up stable

pub returns-clause-few : goal.returns-clause-few
returns-clause-few c =
    let chart = c.args.chart.now in
    let is = c.in_ok-blocks.ensures.chart in
    omega (arith, sum_by-block_anchors chart is.period.some (log_length_of chart), is.symbols)
