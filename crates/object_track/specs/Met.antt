-- The periods that a window meets.
use Rattle.std.specs.Prelude.{◌≡◌, ℕ, ◌<◌, ◌≤◌, ℤ, ◌≤ℤ◌, true, false}
use Rattle.track_types.specs.Frame.{periods_of}
use Rattle.track_types.specs.Region.{is_between}
use Rattle.track_types.specs.declared.frame.Frame.{Frame}
use Rattle.snapshots.specs.IndexCost.{is_met}
use Rattle.snapshots.specs.Parts.{end_in, first_in}

-- no instant of the period is in the window
abbrev pub IsMissed : Frame → ℤ → ℤ → ℕ → Type 0
IsMissed frame from to number =
    (instant : ℤ) → first_in frame number ≤ℤ instant → instant ≤ℤ end_in frame number
    → is_between from to instant ≡ false

-- the periods from one to before another are met by the window, and no other has an instant in it
pub record AreMet (frame : Frame) (from to : ℤ) (next behind : ℕ) : Type 0 where
  pub ordered : next ≤ behind
  pub within : behind ≤ periods_of frame
  pub met : (number : ℕ) → next ≤ number → number < behind → is_met frame from to number ≡ true
  pub early : (number : ℕ) → number < next → IsMissed frame from to number
  pub late : (number : ℕ) → behind ≤ number → number < periods_of frame → IsMissed frame from to number
