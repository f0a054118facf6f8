use Rattle.std.proofs.Common.{◌≡◌, ◌∙◌, ℕ, List, ◌++◌, ◌<◌, ap, arith, length, refl, subst, sym}
use Rattle.std.specs.Prelude.{sum}
use Rattle.std.specs.List.{flat_map, range_with_len}
use Rattle.track_types.specs.Frame.{periods_of}
use Rattle.track_types.specs.declared.period_parts.PeriodParts.{PeriodParts}
use Rattle.snapshots.specs.Parts.{snapshot_in, start_in}
use Rattle.snapshots.specs.Sound.{IsSnapshot}
use Rattle.snapshots.proofs.ReachLemmas.{IsSnapshot-valid}
use Rattle.outline_parts.specs.Told.{period_view, placed_blocks_of, told_placed}
use Rattle.outline_parts.specs.declared.opening.PlacedBlock.{PlacedBlock}
use Rattle.list_laws.proofs.RangeLemmas.{flat_map-range_next}
use Rattle.outline_parts.proofs.ObjectLemmas.{period-read, start-behind, view-same}
use Rattle.outline_parts.proofs.telling.told_blocks.Goals as goal

pub loop-number-init : goal.loop-number-init
unfolding start_in
loop-number-init c = record { start = refl; placed = c.new-placed.ensures.items }

pub push_period-requires : goal.push_period-requires
push_period-requires c =
    let parts = c.args.parts.now in
    let number = c.loop-number.number in
    let read = c.as_slice-periods.ensures in
    let below : number < periods_of parts.frame = omega (arith, c.loop-number-test.true, ap length read, c.requires.shaped.periods) in
    let period = period-read parts.periods c.as_slice-periods.result.now c.index-periods-number.result number read c.loop-number-test.true
    c.index-periods-number.is in
    let same = view-same parts number c.loop-number.start c.index-periods-number.result c.requires below c.loop-number.invariant.start period in
    subst IsSnapshot (sym same) (IsSnapshot-valid parts c.requires number below)

pub loop-number-preserved : goal.loop-number-preserved
loop-number-preserved c =
    let parts = c.args.parts.now in
    let number = c.loop-number.number in
    let read = c.as_slice-periods.ensures in
    let below : number < periods_of parts.frame = omega (arith, c.loop-number-test.true, ap length read, c.requires.shaped.periods) in
    let period = period-read parts.periods c.as_slice-periods.result.now c.index-periods-number.result number read c.loop-number-test.true
    c.index-periods-number.is in
    let same = view-same parts number c.loop-number.start c.index-periods-number.result c.requires below c.loop-number.invariant.start period in
    let blocks : ℕ → List PlacedBlock = λ k. placed_blocks_of (snapshot_in parts k) in
    let lengths = ap (λ (p : PeriodParts). sum p.lengths) period in
    record {
      start = omega (
        arith,
        c.in_ok-start.ensures.end,
        c.loop-number.invariant.start,
        lengths,
        start-behind parts number (omega (arith, c.loop-number-test.true, ap length read)),
      );
      placed =
          c.in_ok-start.ensures.ok
          ∙ ap (λ front. front ++ placed_blocks_of (period_view parts.frame number c.loop-number.start c.index-periods-number.result))
          c.loop-number.invariant.placed
          ∙ ap (λ view. flat_map blocks (range_with_len 0 number) ++ placed_blocks_of view) same
          ∙ sym (flat_map-range_next blocks number);
    }

pub returns : goal.returns
unfolding told_placed
returns c =
    let parts = c.args.parts.now in
    let read = c.as_slice-periods.ensures in
    let all : c.loop-number.number ≡ periods_of parts.frame =
    omega (arith, c.loop-number-test.false, c.loop-number.auto.number-end, ap length read, c.requires.shaped.periods) in
    c.loop-number.invariant.placed
    ∙ ap (λ n. flat_map (λ k. placed_blocks_of (snapshot_in parts k)) (range_with_len 0 n)) all
