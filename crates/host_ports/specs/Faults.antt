-- When a device may fail, and how much a read took.
use Rattle.std.specs.Prelude.{◌≡◌, ℕ, ◌-◌, ◌^◌, ◌<◌, ◌⊎◌, Ok, Err, Result}

-- a count of faults rose, or stands at the greatest number that it can reach
abbrev pub Rose : ℕ → ℕ → Type 0
Rose before after = (before < after) ⊎ (after ≡ 2 ^ 64 - 1)

-- how many bytes a read took: none where it failed
abbrev pub read_count : {E : Type 0} → Result ℕ E → ℕ
read_count (Ok n) = n
read_count (Err fault) = 0
