use Rattle.std.proofs.Common.{◌≡◌, ℕ, ◌+◌, ◌-◌, ◌*◌, ◌<◌, false, length, arith, inl, inr, sym, subst, ◌∙◌, ap}
use Rattle.std.proofs.lemmas.Bool.{cases_lt}
use Rattle.track_types.specs.Chart.{ChartView, IsChart}
use Rattle.track_types.specs.Quantities.{first_of, is_anchor}
use Rattle.track_types.proofs.QuantityLemmas.{first_of-below}
use Rattle.movement_log.specs.Blocks.{no_row, object_place, period_end_of, place_of_object, row_at}
use Rattle.movement_log.specs.Logs.{head_of}
use Rattle.movement_log.proofs.AnchorLemmas.{is_anchor-first, period_kept}
use Rattle.movement_log.proofs.BlockLemmas.{AreFirst, first_all, first_kept, first_more, first_none, rows-in_span}
use Rattle.movement_log.proofs.ObjectLemmas.{object_place-first}
use Rattle.movement_log.proofs.blocks.blocks_by_object.Goals as goal
use Rattle.movement_log.proofs.blocks.blocks_by_object.Goals.{then-is_anchor+in_ok-push, else-is_anchor}

-- the period of a row that is no anchor ends where that of the row before does
kept : {chart : ChartView} → IsChart chart → (at : ℕ) → at < length chart.rows → (end : ℕ) →
    (0 < at → end ≡ period_end_of chart (row_at chart.rows (at - 1))) →
    is_anchor (first_of chart.rows) chart.period chart.rows (row_at chart.rows at) ≡ false →
    end ≡ period_end_of chart (row_at chart.rows at)
kept {chart = chart} holds at within end before is = elim (cases_lt 0 at) [
  | inl later ↦
      let same = period_kept (first_of chart.rows) chart.period chart.rows holds.ascending holds.period.some
      (λ k below. first_of-below chart.rows k no_row below) at later within is in
      before later ∙ ap (λ number. (number + 1) * chart.period) same
  | inr not ↦
      let none : at ≡ 0 = omega arith in
      let anchor = is_anchor-first (first_of chart.rows) chart.period chart.rows holds.ascending holds.some in
      let here = rw none at is in absurd (cc)
]

pub loop-at-init : goal.loop-at-init
loop-at-init c =
    let chart = c.args.chart.now in
    record {
      blocks = subst (AreFirst chart 0) (sym c.new-blocks.ensures.items) (first_none chart);
      index = sym (object_place-first chart.rows c.rows-rows.ensures.chart.ascending);
      end = λ some. absurd (omega arith);
    }

pub head_of-head-requires : goal.head_of-head-requires
head_of-head-requires c =
    let rows = c.args.chart.now.rows in
    let within = rw c.rows-rows.ensures.value at c.loop-at-test.true in
    record {
      index = c.object_index-index.ensures ∙ ap (λ all. place_of_object all (row_at c.rows-rows.result.now c.loop-at.at).object) c.rows-rows.ensures.value;
      inside = rw c.rows-rows.ensures.value (rows-in_span rows c.loop-at.at no_row within);
    }

pub loop-at-preserved : goal.loop-at-preserved
loop-at-preserved c =
    let chart = c.args.chart.now in
    let rows = chart.rows in
    let at = c.loop-at.at in
    let within = rw c.rows-rows.ensures.value at c.loop-at-test.true in
    let back : at + 1 - 1 ≡ at = omega arith in
    let index : c.object_index-index.result ≡ object_place rows at =
    c.object_index-index.ensures ∙ ap (λ all. object_place all at) c.rows-rows.ensures.value in
    record {
      index = index ∙ ap (object_place rows) (sym back);
      end = λ some. rw back (elim c.if-is_anchor.branch [
        | then-is_anchor+in_ok-push w ↦
            let head : w.head_of-head.result ≡ head_of chart (row_at rows at) =
            w.head_of-head.ensures ∙ ap (λ all. head_of chart (row_at all at)) c.rows-rows.ensures.value in
            w.period_end-is ∙ w.end_of_period-period_end.ensures ∙ ap (λ head. (head.period + 1) * chart.period) head
        | else-is_anchor w ↦
            let is = sym c.is_anchor.ensures ∙ w.if-is_anchor.false in
            w.period_end-is ∙ kept c.rows-rows.ensures.chart at within c.loop-at.period_end c.loop-at.invariant.end is
      ]);
      blocks = elim c.if-is_anchor.branch [
        | then-is_anchor+in_ok-push w ↦
            let is = sym c.is_anchor.ensures ∙ w.if-is_anchor.true in
            let head : w.head_of-head.result ≡ head_of chart (row_at rows at) =
            w.head_of-head.ensures ∙ ap (λ all. head_of chart (row_at all at)) c.rows-rows.ensures.value in
            let more = first_more chart at within c.loop-at.blocks.items c.loop-at.invariant.blocks w.head_of-head.result head is in
            subst (AreFirst chart (at + 1)) (sym (ap (λ blocks. blocks.items) w.blocks-is ∙ w.in_ok-push.ensures.items)) more
        | else-is_anchor w ↦
            let is = sym c.is_anchor.ensures ∙ w.if-is_anchor.false in
            subst (λ blocks. AreFirst chart (at + 1) blocks.items) (sym w.blocks-is)
            (first_kept chart at within c.loop-at.blocks.items c.loop-at.invariant.blocks is)
      ];
    }

pub returns-clause-ok : goal.returns-clause-ok
returns-clause-ok c =
    let chart = c.args.chart.now in
    let past = rw c.rows-rows.ensures.value at c.loop-at-test.false in
    first_all chart c.loop-at.at c.loop-at.blocks.items past c.loop-at.invariant.blocks
