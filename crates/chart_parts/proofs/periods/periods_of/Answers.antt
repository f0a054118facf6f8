use Rattle.std.proofs.Common.{◌≡◌, ◌∷◌, ◌++◌, [], ◌∙◌, ap, arith, sym}
use Rattle.std.specs.List.{zip}
use Rattle.std.proofs.lemmas.List.{length-drop}
use Rattle.std.proofs.lemmas.List.FromFn.{map-range_with_len_more}
use Rattle.chart_parts.specs.PeriodWith.{period_of_blocks}
use Rattle.chart_parts.proofs.PeriodLemmas.{behind_next, behind_none, heads-next, indexes_in, lengths-next, placed_in}
use Rattle.chart_parts.proofs.periods.periods_of.Goals as goal

pub loop-number-init : goal.loop-number-init
loop-number-init c = record {
  within = omega arith;
  behind = behind_none (zip c.args.heads.now c.args.lengths.now) c.requires.blocks.by_period;
  periods = c.in_ok-periods.ensures.items;
}

pub period_with-requires-clause-placed : goal.period_with-requires-clause-placed
period_with-requires-clause-placed c =
    let blocks = zip c.args.heads.now c.args.lengths.now in
    rw (heads-next c.args.heads.now c.args.lengths.now c.requires.same c.loop-number.number c.loop-number.start
    c.loop-number.invariant.behind c.run_of.result c.run_of.ensures.exact)
    (placed_in c.args.frame c.args.objects blocks c.requires.blocks c.loop-number.number
    (omega (arith, rw (c.timeline.ensures.span, c.timeline.ensures.period) at c.periods-count.ensures)))

pub period_with-requires-clause-objects : goal.period_with-requires-clause-objects
period_with-requires-clause-objects c =
    let blocks = zip c.args.heads.now c.args.lengths.now in
    rw (heads-next c.args.heads.now c.args.lengths.now c.requires.same c.loop-number.number c.loop-number.start
    c.loop-number.invariant.behind c.run_of.result c.run_of.ensures.exact)
    (indexes_in c.args.frame c.args.objects blocks c.requires.blocks c.loop-number.number)

pub loop-number-preserved : goal.loop-number-preserved
unfolding period_of_blocks
loop-number-preserved c =
    let heads = c.args.heads.now in
    let lengths = c.args.lengths.now in
    let blocks = zip heads lengths in
    let number = c.loop-number.number in
    let start = c.loop-number.start in
    let behind = c.loop-number.invariant.behind in
    let mine = heads-next heads lengths c.requires.same number start behind c.run_of.result c.run_of.ensures.exact in
    let theirs = lengths-next heads lengths c.requires.same number start behind c.run_of.result c.run_of.ensures.exact in
    let period : c.in_ok-period_with.field-0 ≡ period_of_blocks c.args.frame c.args.objects blocks number =
    rw (mine, theirs) at c.in_ok-period_with.ensures in
    record {
      within = omega (arith, c.run_of.ensures.within, length-drop start heads);
      behind = behind_next heads lengths c.requires.same number start behind c.run_of.result c.run_of.ensures.exact;
      periods =
          c.in_ok-push.ensures.items ∙ ap (λ one. c.loop-number.periods.items ++ one ∷ []) period
          ∙ ap (λ all. all ++ period_of_blocks c.args.frame c.args.objects blocks number ∷ [])
          c.loop-number.invariant.periods
          ∙ sym (map-range_with_len_more (period_of_blocks c.args.frame c.args.objects blocks) 0 number number
          (omega arith));
    }
