-- The periods of an index, checked one after the other.
use Rattle.std.proofs.Common.{◌≡◌, ℕ, ◌+◌, ◌^◌, ◌<◌, ◌≤◌, List, [], ◌∷◌, ◌++◌, length, map, take, get_or, None, inl, inr, ap, sym, subst, ◌∙◌, arith}
use Rattle.std.specs.Prelude.{sum}
use Rattle.std.specs.List.{range_with_len, sum_by}
use Rattle.std.proofs.Math.Nat.{div-le_self}
use Rattle.std.proofs.lemmas.Bool.{cases_lt}
use Rattle.std.proofs.lemmas.List.{get_or_default}
use Rattle.std.proofs.lemmas.List.Elements.{All-get_or}
use Rattle.std.proofs.lemmas.List.FromFn.{length-map-range_with_len, map-range_with_len_more}
use Rattle.std.proofs.lemmas.List.Sums.{sum_by_more, sum_by_more_le}
use Rattle.list_laws.proofs.FirstLemmas.{first_given-map, first_of_range-all, first_of_range-at, first_of_range-none}
use Rattle.track_types.specs.Flaws.{IsFormatFaultFor}
use Rattle.track_types.specs.Frame.{periods_of}
use Rattle.track_types.specs.PartsForm.{IsShapedPeriod}
use Rattle.track_types.specs.declared.frame.Frame.{Frame}
use Rattle.track_types.specs.declared.limit.TheConstants.{MAX_SPAN, MAX_SYMBOLS}
use Rattle.track_types.specs.declared.period_parts.PeriodParts.{PeriodParts}
use Rattle.snapshots.specs.View.{SnapshotView, view_with}
use Rattle.snapshots.specs.Flaws.{flaw_of, IsShapedView}
use Rattle.snapshots.specs.Parts.{no_period, period_at, symbols_of}
use Rattle.snapshots.proofs.ReachLemmas.{IsShapedView-view}
use Rattle.track_types.specs.declared.format_fault.FormatFault.{FormatFault}
use Rattle.track_types.specs.declared.format_fault.FormatFault.TheVariants as fault
use Rattle.track_index.specs.CheckFlaws.{snapshot_with, snapshots_flaw, snapshots_with, AreShapedPeriods}

-- what is known once the first periods were checked: where the next logs begin, their snapshots, and that none has a
-- flaw
pub record AreChecked (frame : Frame) (objects : ℕ) (periods : List PeriodParts) (count start : ℕ)
    (snaps : List SnapshotView) : Type 0 where
  pub begins : start ≡ sum_by symbols_of (take count periods)
  pub snaps_are : snaps ≡ map (snapshot_with frame objects periods) (range_with_len 0 count)
  pub none : (number : ℕ) → number < count → flaw_of (snapshot_with frame objects periods number) ≡ None

-- the snapshot of a shaped period is shaped
pub IsShapedView-at : (frame : Frame) (objects : ℕ) (periods : List PeriodParts) (number : ℕ)
    → AreShapedPeriods frame objects periods → number < length periods
    → IsShapedView (snapshot_with frame objects periods number)
IsShapedView-at frame objects periods number shaped within =
    let its = All-get_or (IsShapedPeriod objects) periods number no_period within shaped.each in
    let most = sum_by_more_le symbols_of periods number no_period within in
    let limit : sum_by symbols_of periods ≤ MAX_SYMBOLS = shaped.total in
    IsShapedView-view frame number objects (sum_by symbols_of (take number periods)) (period_at periods number)
    shaped.header (omega (arith, within, shaped.many)) shaped.some shaped.few its (omega (arith, most, limit))

module _ (frame : Frame) (objects : ℕ) (periods : List PeriodParts) where
  -- where the snapshots have no flaw, each has none
  flawless-at : snapshots_flaw (snapshots_with frame objects periods) ≡ None → (number : ℕ)
      → number < periods_of frame → flaw_of (snapshot_with frame objects periods number) ≡ None
  unfolding snapshots_flaw
  flawless-at none number within =
      first_of_range-all _ 0 (periods_of frame)
      (sym (first_given-map flaw_of (snapshot_with frame objects periods) (range_with_len 0 (periods_of frame))) ∙ none)
      number (omega arith) (omega arith)

  module _ (count start : ℕ) (snaps : List SnapshotView) (are : AreChecked frame objects periods count start snaps) where
    -- as many snapshots as periods
    pub length-snaps : length snaps ≡ count
    length-snaps =
        ap length are.snaps_are ∙ length-map-range_with_len (snapshot_with frame objects periods) 0 count

    -- the next period
    module _ (shaped : AreShapedPeriods frame objects periods) (period : PeriodParts) (within : count < length periods)
        (read : period ≡ get_or periods count period) where
      -- it is the one at its place
      period-is : period ≡ period_at periods count
      period-is = read ∙ get_or_default periods count period no_period within

      -- it is one of the header's
      number-within : count < periods_of frame
      number-within = omega (arith, within, shaped.many)

      -- whose numbers fit 32 bits
      pub number-short : count < 2 ^ 32
      number-short =
          let span : frame.span ≤ MAX_SPAN = shaped.header.short in
          omega (arith, number-within, span, div-le_self frame.span frame.period)

      -- its snapshot
      snapshot-is : view_with frame count objects start period ≡ snapshot_with frame objects periods count
      snapshot-is =
          ap (λ s. view_with frame count objects s period) are.begins
          ∙ ap (view_with frame count objects (sum_by symbols_of (take count periods))) period-is

      -- it has the form of one
      pub IsShapedView-next : IsShapedView (view_with frame count objects start period)
      IsShapedView-next = subst IsShapedView (sym snapshot-is) (IsShapedView-at frame objects periods count shaped within)

      -- it has no flaw where all have none
      pub flawless-next : snapshots_flaw (snapshots_with frame objects periods) ≡ None
          → flaw_of (view_with frame count objects start period) ≡ None
      flawless-next none = ap flaw_of snapshot-is ∙ flawless-at none count number-within

      -- one period more
      pub checked-more : (item : SnapshotView) (next : ℕ) → item ≡ view_with frame count objects start period
          → flaw_of (view_with frame count objects start period) ≡ None → next ≡ start + sum period.lengths
          → AreChecked frame objects periods (count + 1) next (snaps ++ item ∷ [])
      checked-more item next is none adds = record {
        begins =
            let more = sum_by_more symbols_of periods count no_period within in
            omega (arith, adds, more, are.begins, ap symbols_of period-is);
        snaps_are = ap (λ s. snaps ++ s ∷ []) (is ∙ snapshot-is)
            ∙ ap (λ xs. xs ++ snapshot_with frame objects periods count ∷ []) are.snaps_are
            ∙ sym (map-range_with_len_more (snapshot_with frame objects periods) 0 count count (omega arith));
        none = λ number below. elim (cases_lt number count) [
          | inl less ↦ are.none number less
          | inr most ↦
              let same : number ≡ count = omega arith in
              ap (λ n. flaw_of (snapshot_with frame objects periods n)) same ∙ ap flaw_of (sym snapshot-is) ∙ none
        ];
      }

      -- its flaw, after periods that have none, is the first
      pub flaw-next : (found : FormatFault) → IsFormatFaultFor (flaw_of (view_with frame count objects start period)) found
          → IsFormatFaultFor (snapshots_flaw (snapshots_with frame objects periods)) found
      unfolding snapshots_flaw
      flaw-next fault.Memory is = is
      flaw-next (fault.Flaw flaw) is =
          first_given-map flaw_of (snapshot_with frame objects periods) (range_with_len 0 (periods_of frame))
          ∙ first_of_range-at _ 0 (periods_of frame) count flaw (omega arith) (omega (arith, number-within))
          (λ j low below. are.none j below) (ap flaw_of (sym snapshot-is) ∙ is)

  -- all periods were checked
  module _ (start : ℕ) (snaps : List SnapshotView)
      (are : AreChecked frame objects periods (periods_of frame) start snaps) where
    pub snapshots_flaw-none : snapshots_flaw (snapshots_with frame objects periods) ≡ None
    unfolding snapshots_flaw
    snapshots_flaw-none =
        first_given-map flaw_of (snapshot_with frame objects periods) (range_with_len 0 (periods_of frame))
        ∙ first_of_range-none _ 0 (periods_of frame) (λ j low below. are.none j (omega arith))
