use Rattle.std.proofs.Common.{◌≡◌, ◌+◌, ◌-◌, ◌<◌, length, arith, sym, ◌∙◌, ap, eq-eqb}
use Rattle.std.specs.Prelude.{not}
use Rattle.track_types.proofs.QuantityLemmas.{first_of-below}
use Rattle.track_types.specs.Quantities.{first_of, is_anchor, is_same_block}
use Rattle.movement_log.specs.Blocks.{no_row, row_at}
use Rattle.movement_log.proofs.AnchorLemmas.{is_anchor-first, is_anchor-next}
use Rattle.std.proofs.lemmas.Int.{ints}
use Rattle.movement_log.proofs.RowLemmas.{instant_rises}
use Rattle.movement_log.proofs.blocks.is_anchor.Goals as goal

pub returns-then-at-eq0 : goal.returns-then-at-eq0
returns-then-at-eq0 c =
    let rows = c.args.chart.now.rows in
    let first = first_of rows in
    let period = c.args.chart.now.period in
    let chart = c.rows-rows.ensures.chart in
    eq-eqb c.args.at 0 c.if-at-eq0.true ∙ sym (ap (λ i. is_anchor first period rows (row_at rows i)) c.if-at-eq0.true
    ∙ is_anchor-first first period rows chart.ascending (omega (arith, c.requires.within)))

pub is_same_block-requires : goal.is_same_block-requires
is_same_block-requires c =
    let rows = c.args.chart.now.rows in
    let at = c.args.at in
    let chart = c.rows-rows.ensures.chart in
    let some : 0 < at = omega (arith, c.if-at-eq0.false) in
    let rise = instant_rises rows chart.ascending (at - 1) at (omega arith) c.requires.within in
    let begins = first_of-below rows (at - 1) no_row (omega (arith, c.requires.within)) in
    rw c.rows-rows.ensures.value record {
      period = chart.period.some;
      end = c.requires.end some;
      later = λ same. let less = rise same in grind (arith, ints);
    }

pub returns-else-at-eq0 : goal.returns-else-at-eq0
returns-else-at-eq0 c =
    let rows = c.args.chart.now.rows in
    let first = first_of rows in
    let period = c.args.chart.now.period in
    let chart = c.rows-rows.ensures.chart in
    let next : c.args.at - 1 + 1 ≡ c.args.at = omega (arith, c.if-at-eq0.false) in
    let below : c.args.at - 1 + 1 < length rows = omega (arith, c.requires.within, next) in
    let anchor = is_anchor-next first period rows chart.ascending (c.args.at - 1) below chart.period.some
    (λ k within. first_of-below rows k no_row within) in
    let here = ap (λ i. is_anchor first period rows (row_at rows i)) (sym next) in
    let there = ap (λ i. not (is_same_block first period (row_at rows (c.args.at - 1)) (row_at rows i))) next in
    let read = rw c.rows-rows.ensures.value at c.is_same_block.ensures in
    ap not read ∙ sym (here ∙ anchor ∙ there)
