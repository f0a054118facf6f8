use Rattle.std.proofs.Common.{◌≡◌, None, false, rules, arith, w64}
use Rattle.std.specs.Prelude.{FitsSigned}
use Rattle.std.proofs.lemmas.Bool.Decides.{nat_tests}
use Rattle.std.proofs.lemmas.Int.{ints, to_z-of_z}
use Rattle.std.proofs.lemmas.Result.{IfOk-weaker}
use Rattle.track_types.proofs.ChartLemmas.{last_from-span_of}
use Rattle.track_types.proofs.QuantityLemmas.{elapsed-span, first_of-below}
use Rattle.track_types.specs.Quantities.{object_count, span_of}
use Rattle.track_types.specs.declared.limit.LimitKind.TheVariants.{Symbols}
use Rattle.gridding.specs.GridLimit.{first_past, is_past}
use Rattle.gridding.proofs.LimitLemmas.{IsJudged, none_past, refused, symbols_past}
use Rattle.gridding.proofs.limits.check_limits.Goals as goal

pub invariant_of-timeline : goal.invariant_of-timeline
invariant_of-timeline c =
    let time = c.requires.survey.extents.time in
    let fits : FitsSigned w64 c.args.survey.extents.time.least = search rules in
    let same = to_z-of_z w64 c.args.survey.extents.time.least fits in
    let span = c.span-span.ensures c.args.rows.now c.requires.survey.extents in
    let last = last_from-span_of c.args.rows.now c.requires.some in
    let low = time.near_least.low in
    let high = time.near_greatest.high in
    record {
      long = omega (arith, span);
      short = grind (arith, nat_tests, c.in_ok-within-2.ensures.ok);
      some = omega (arith, c.requires.period.some);
      limit = c.requires.period.limit;
      begins = omega (arith, ints, same, low);
      ends = omega (arith, ints, same, span, time.least, time.greatest, last, high);
    }

pub symbol_count-symbols-requires-clause-in_span : goal.symbol_count-symbols-requires-clause-in_span
symbol_count-symbols-requires-clause-in_span c =
    let rows = c.args.rows.now in
    let are = c.requires.survey.extents in
    let fits : FitsSigned w64 c.args.survey.extents.time.least = search rules in
    λ k d below. rw (to_z-of_z w64 _ fits, are.time.least, c.span-span.ensures rows are)
    (record { after_first = first_of-below rows k d below; before_end = elapsed-span rows k d below })

-- no quantity but the terminals passes its limit, and these are counted
judged : (c : goal.After-within-5) → IsJudged c.args.rows.now c.args.period c.symbol_count-symbols.result
judged c =
    let rows = c.args.rows.now in
    let are = c.requires.survey.extents in
    let fits : FitsSigned w64 c.args.survey.extents.time.least = search rules in
    let count : c.args.survey.objects ≡ object_count rows = c.requires.survey.objects in
    let span : c.span-span.result ≡ span_of rows = c.span-span.ensures rows are in
    record {
      objects = rw count at c.in_ok-within.ensures.ok;
      span = rw span at c.in_ok-within-2.ensures.ok;
      extent = rw (c.width.ensures rows are) at c.in_ok-within-3.ensures.ok;
      blocks = rw (count, c.from-periods.ensures, c.periods.ensures, span) at c.in_ok-within-4.ensures.ok;
      symbols = rw (to_z-of_z w64 _ fits, are.time.least, span) at c.symbol_count-symbols.ensures;
    }

pub returns-clause-ok : goal.returns-clause-ok
returns-clause-ok c =
    IfOk-weaker c.within-5.result (λ _. is_past (Symbols, c.symbol_count-symbols.result) ≡ false)
    (λ _. first_past c.args.rows.now c.args.period ≡ None) (λ _. none_past (judged c)) c.within-5.ensures.ok

pub returns-clause-limit : goal.returns-clause-limit
returns-clause-limit c =
    refused c.within-5.result (first_past c.args.rows.now c.args.period) Symbols c.symbol_count-symbols.result
    (symbols_past (judged c)) c.within-5.ensures.err
