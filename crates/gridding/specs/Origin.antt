-- Numbers that are counted from an origin.
use Rattle.std.specs.Prelude.{ℕ, ◌^◌, ℤ, pos, neg_ℤ, ◌+ℤ◌, ◌≤ℤ◌, ◌<ℤ◌}

-- a number of an origin is at most 2^41 away from 0
abbrev pub IsOrigin : ℤ → Type 0
IsOrigin number = (neg_ℤ (pos (2 ^ 41)) ≤ℤ number) × (number ≤ℤ pos (2 ^ 41))

-- a number is one of so many from this one on
abbrev pub IsOneOf : ℤ → ℕ → ℤ → Type 0
IsOneOf least count number = (least ≤ℤ number) × (number <ℤ (least +ℤ pos count))
