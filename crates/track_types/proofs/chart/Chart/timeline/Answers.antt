use Rattle.std.proofs.Common.{arith}
use Rattle.std.proofs.lemmas.Int.{ints}
use Rattle.track_types.proofs.ChartLemmas.{last_from-span_of}
use Rattle.track_types.proofs.chart.Chart.timeline.Goals as goal

pub invariant_of-result : goal.invariant_of-result
invariant_of-result c =
    let is = c.self.invariant.0 in
    let time = c.self.invariant.1.time in
    let low = time.near_least.low in
    let high = time.near_greatest.high in
    let ends = last_from-span_of c.self.inside.rows.items is.some in
    let first = time.least in
    let last = time.greatest in
    let short = is.span in
    record {
      long = omega arith;
      short = omega (arith, ints, c.width-span.ensures, short, first, last);
      some = omega (arith, is.period.some);
      limit = is.period.limit;
      begins = omega (arith, ints, low, first);
      ends = omega (arith, ints, c.width-span.ensures, first, last, ends, high);
    }
