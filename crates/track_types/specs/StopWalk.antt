-- How much is read of a walk over stops until it is left.
use Rattle.std.specs.Prelude.{ℕ, ◌+◌, ◌≤◌, ℤ, Bool, false, if◌then◌else◌, List, find, Option, None, Some}
use Rattle.std.specs.Int.Signed.{le_z}
use Rattle.track_types.specs.declared.stop.Stop.{Stop}

-- whether a stop is there that is at an instant or after it
abbrev pub is_past : ℤ → Option Stop → Bool
is_past instant None = false
is_past instant (Some stop) = le_z instant stop.instant

-- the reads that are still to be made for a stop at an instant or after it: none where one is there
abbrev pub unless_past : ℤ → Option Stop → ℕ → ℕ
unless_past instant drawn reads = if is_past instant drawn then 0 else reads

-- A stop was drawn, or there was none. Two counts bound the reads until a stop at an instant or after it is drawn, or
-- none is left: before and now. Nothing was read beyond the first count, and as long as no such stop was drawn the
-- second is still within it.
abbrev pub IsDrawnInTime : (ℤ → ℕ) → (ℤ → ℕ) → ℕ → ℕ → Option Stop → Type 0
IsDrawnInTime before now begun steps drawn =
    (instant : ℤ) → steps + unless_past instant drawn (now instant) ≤ begun + before instant

-- the first of stops that is at an instant or after it, if there is one
abbrev pub first_past : ℤ → List Stop → Option Stop
first_past instant stops = find (λ stop. le_z instant stop.instant) stops

-- what is read up to something, and all where that is never met
abbrev pub up_to : {X : Type 0} → (X → ℕ) → ℕ → Option X → ℕ
up_to reads all None = all
up_to reads all (Some end) = reads end
