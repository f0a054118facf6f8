-- Numbers that are counted from another.
use Rattle.std.specs.Prelude.{ℤ, pos, ◌+ℤ◌, ◌≤ℤ◌, ◌-◌, ◌^◌}

-- a number is another, or behind it and less than 2^32 away
pub record IsCounted (from to : ℤ) : Type 0 where
  pub low : from ≤ℤ to
  pub high : to ≤ℤ (from +ℤ pos (2 ^ 32 - 1))
