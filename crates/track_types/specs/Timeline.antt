-- The instants of a chart or of an index, from the first on, and the periods that they are cut into.
use Rattle.std.specs.Prelude.{ℕ, ◌+◌, ◌-◌, ◌*◌, ◌/◌, min, ℤ, pos, ◌+ℤ◌, ◌-ℤ◌, unsigned_abs, Bool, if◌then◌else◌, Option, None, Some}
use Rattle.std.specs.Int.{div_ceil}
use Rattle.track_types.specs.Region.{is_between}

-- the last of so many instants
abbrev pub last_from : ℤ → ℕ → ℤ
last_from first span = first +ℤ pos (span - 1)

-- whether an instant is one of so many
abbrev pub is_spanned : ℤ → ℕ → ℤ → Bool
is_spanned first span instant = is_between first (last_from first span) instant

-- how many instants come before one
abbrev pub elapsed_from : ℤ → ℤ → ℕ
elapsed_from first instant = unsigned_abs (instant -ℤ first)

-- how many periods there are; the last one may be shorter
abbrev pub period_total : ℕ → ℕ → ℕ
period_total span period = div_ceil span period

-- the period of an instant, counted from 0
abbrev pub period_from : ℤ → ℕ → ℤ → ℕ
period_from first period instant = elapsed_from first instant / period

-- the period of an instant, if it is one of so many
abbrev pub period_if : ℤ → ℕ → ℕ → ℤ → Option ℕ
period_if first span period instant =
    if is_spanned first span instant then Some (period_from first period instant) else None

-- how many instants a period has
abbrev pub period_size : ℕ → ℕ → ℕ → ℕ
period_size span period number = min period (span - number * period)

-- the first instant of a period
abbrev pub period_start : ℤ → ℕ → ℕ → ℤ
period_start first period number = first +ℤ pos (number * period)

-- the last instant of a period
abbrev pub period_last : ℤ → ℕ → ℕ → ℕ → ℤ
period_last first span period number = first +ℤ pos (number * period + (period_size span period number - 1))

-- how many terminals the log of a block has, by the instant of its anchor: one for each later instant of its period
abbrev pub terminals_from : ℤ → ℕ → ℕ → ℤ → ℕ
terminals_from first span period anchor =
    min ((period_from first period anchor + 1) * period) span - (elapsed_from first anchor + 1)
