-- The periods that a window meets.
use Rattle.std.proofs.Common.{◌≡◌, ℕ, suc, ◌+◌, ◌-◌, ◌*◌, ◌/◌, ◌<◌, ◌≤◌, ℤ}
use Rattle.std.proofs.Common.{pos, ◌+ℤ◌, ◌-ℤ◌, ◌≤ℤ◌, ◌<ℤ◌, true, false, inl, inr, subst, arith}
use Rattle.std.specs.Prelude.{unsigned_abs, None, Some}
use Rattle.std.proofs.Math.Nat.{lt_of_mul-lt-mul_right, mul-le-mul_right}
use Rattle.std.proofs.lemmas.Bool.{cases_Bool}
use Rattle.std.proofs.lemmas.Int.{ints}
use Rattle.track_types.specs.Frame.{instants_in, periods_of, IsFrame}
use Rattle.track_types.specs.Region.{is_between}
use Rattle.track_types.specs.declared.frame.Frame.{Frame}
use Rattle.track_types.proofs.RegionLemmas.{is_between-bounds}
use Rattle.track_types.proofs.TimelineLemmas as timeline
use Rattle.snapshots.specs.IndexCost.{is_met}
use Rattle.snapshots.specs.Parts.{end_in, first_in, is_covered, last_in, period_in}
use Rattle.object_track.specs.Met.{AreMet}

-- where what is between two numbers leads to nothing, no number is
is_between-not : (low high z : ℤ) → (low ≤ℤ z → z ≤ℤ high → ⊥) → is_between low high z ≡ false
is_between-not low high z none = elim (cases_Bool (is_between low high z)) [
  | inl holds ↦ let bounds = is_between-bounds low high z holds in absurd (none bounds.0 bounds.1)
  | inr fails ↦ fails
]

module _ (frame : Frame) (header : IsFrame frame) where
  some : 0 < frame.period
  some = header.periods.some

  -- a period ends before a later one begins
  pub period-before : (i j : ℕ) → i < j → j < periods_of frame
      → i * frame.period + (instants_in frame i - 1) < j * frame.period
  period-before i j less within = timeline.period-before frame.span frame.period some i j less

  -- instants of a period are those of the index
  pub period-inside : (number : ℕ) (instant : ℤ) → number < periods_of frame → first_in frame number ≤ℤ instant
      → instant ≤ℤ end_in frame number → (frame.first ≤ℤ instant) × (instant ≤ℤ last_in frame)
  period-inside = timeline.period-inside frame.span frame.period some frame.first

  -- a window that ends before it begins, or misses the span, meets no period
  pub AreMet-none : (from to : ℤ) → ((z : ℤ) → from ≤ℤ z → z ≤ℤ to → frame.first ≤ℤ z → z ≤ℤ last_in frame → ⊥)
      → AreMet frame from to 0 0
  AreMet-none from to apart = record {
    ordered = omega arith;
    within = omega arith;
    met = λ number low high. absurd (omega arith);
    early = λ number less. absurd (omega arith);
    late = λ number most within instant low high.
        let inside = period-inside number instant within low high in
        is_between-not from to instant (λ above below. apart instant above below inside.0 inside.1);
  }

  -- the instants of the span that are in the window are those from one on, up to another
  module _ (from to : ℤ) (early late : ℕ) (ordered : early ≤ late) (inside : late < frame.span)
      (from_low : from ≤ℤ (frame.first +ℤ pos early)) (high_to : (frame.first +ℤ pos late) ≤ℤ to)
      (none_before : (z : ℤ) → frame.first ≤ℤ z → z <ℤ (frame.first +ℤ pos early) → z <ℤ from)
      (none_behind : (z : ℤ) → (frame.first +ℤ pos late) <ℤ z → z ≤ℤ last_in frame → to <ℤ z) where
    is_met-here : (number : ℕ) → early / frame.period ≤ number → number < late / frame.period + 1
        → is_met frame from to number ≡ true
    is_met-here number low high =
        let start : early < early / frame.period * frame.period + frame.period =
        timeline.quotient-high frame.span frame.period some early (omega (arith, ordered, inside)) in
        let stop = timeline.quotient-low frame.span frame.period some late inside in
        let above : early / frame.period * frame.period ≤ number * frame.period = mul-le-mul_right frame.period low in
        let most : number ≤ late / frame.period = omega (arith, high) in
        let below : number * frame.period ≤ late / frame.period * frame.period = mul-le-mul_right frame.period most in
        let begins : (frame.first +ℤ pos (number * frame.period)) ≤ℤ to = omega (arith, ints, stop, below, high_to) in
        let ends : from ≤ℤ (frame.first +ℤ pos (number * frame.period + (instants_in frame number - 1))) =
        omega (arith, ints, start, above, from_low, ordered, inside) in
        let window : from ≤ℤ to = omega (arith, ints, ordered, from_low, high_to) in
        grind (arith, ints, window, begins, ends)

    -- then the periods of these two instants, and those between them, are met
    pub AreMet-some : AreMet frame from to (early / frame.period) (late / frame.period + 1)
    AreMet-some =
        let start = timeline.quotient-low frame.span frame.period some early (omega (arith, ordered, inside)) in
        let stop : late < late / frame.period * frame.period + frame.period =
        timeline.quotient-high frame.span frame.period some late inside in
        record {
          ordered =
              let less : early / frame.period * frame.period < suc (late / frame.period) * frame.period =
              (let one : suc (late / frame.period) * frame.period ≡ late / frame.period * frame.period + frame.period =
              grind arith in omega (arith, start, stop, ordered, one)) in
              let below =
              lt_of_mul-lt-mul_right frame.period {m = early / frame.period} {n = suc (late / frame.period)} less in
              omega (arith, below);
          within = let less = timeline.quotient-within frame.span frame.period some late inside in omega (arith, less);
          met = is_met-here;
          early = λ number less instant low high.
              let next : suc number * frame.period ≤ early / frame.period * frame.period =
              mul-le-mul_right frame.period less in
              let one : suc number * frame.period ≡ number * frame.period + frame.period = grind arith in
              let before : instant <ℤ from =
              none_before instant (omega (arith, ints, low)) (omega (arith, ints, high, next, one, start, some)) in
              is_between-not from to instant (λ above below. omega (arith, ints, above, before));
          late = λ number most within instant low high.
              let more : suc (late / frame.period) ≤ number = omega (arith, most) in
              let next : suc (late / frame.period) * frame.period ≤ number * frame.period =
              mul-le-mul_right frame.period more in
              let one : suc (late / frame.period) * frame.period ≡ late / frame.period * frame.period + frame.period =
              grind arith in
              let behind : to <ℤ instant =
              none_behind instant (omega (arith, ints, low, next, one, stop))
              (period-inside number instant within low high).1 in
              is_between-not from to instant (λ above below. omega (arith, ints, below, behind));
        }

  -- the period of an instant has it
  pub period_in-some : (instant : ℤ) (number : ℕ) → period_in frame instant ≡ Some number
      → (number < periods_of frame) × (first_in frame number ≤ℤ instant) × (instant ≤ℤ end_in frame number)
  period_in-some instant number is = elim (cases_Bool (is_covered frame instant)) [
    | inl covered ↦
        let bounds = is_between-bounds frame.first (last_in frame) instant covered in
        let elapsed : ℕ = unsigned_abs (instant -ℤ frame.first) in
        let above : frame.first ≤ℤ instant = bounds.0 in
        let below : instant ≤ℤ last_in frame = bounds.1 in
        let long = header.long in
        let back : instant ≡ frame.first +ℤ pos elapsed = omega (arith, ints) in
        let inside : elapsed < frame.span = omega (arith, ints) in
        let found : Some (elapsed / frame.period) ≡ Some number = rw covered at is in
        let same : elapsed / frame.period ≡ number = cc in
        subst (λ n. (n < periods_of frame) × (first_in frame n ≤ℤ instant) × (instant ≤ℤ end_in frame n)) same (
          timeline.quotient-within frame.span frame.period some elapsed inside,
          omega (arith, ints, timeline.quotient-low frame.span frame.period some elapsed inside, back),
          omega (arith, ints, timeline.quotient-end frame.span frame.period some elapsed inside, back),
        )
    | inr outside ↦ let none : None ≡ Some number = rw outside at is in absurd (cc)
  ]

  -- an instant of no period is not one of the index
  pub period_in-none : (instant : ℤ) → period_in frame instant ≡ None
      → is_between frame.first (last_in frame) instant ≡ false
  period_in-none instant is = elim (cases_Bool (is_covered frame instant)) [
    | inl covered ↦
        let found : Some (unsigned_abs (instant -ℤ frame.first) / frame.period) ≡ None = rw covered at is in absurd (cc)
    | inr outside ↦ outside
  ]
