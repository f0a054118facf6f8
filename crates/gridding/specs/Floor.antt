-- Division that rounds towards minus infinity.
use Rattle.std.specs.Prelude.{ℕ, ◌/◌, ℤ, pos, negsuc, ◌+ℤ◌, ◌*ℤ◌, ◌<ℤ◌, ◌≤ℤ◌}

-- the quotient, rounded towards minus infinity
abbrev pub floor_div : ℤ → ℕ → ℤ
floor_div (pos a) d = pos (a / d)
floor_div (negsuc a) d = negsuc (a / d)

-- the greatest q with q * d at most a
pub record IsFloor (a : ℤ) (d : ℕ) (q : ℤ) : Type 0 where
  pub at_most : (q *ℤ pos d) ≤ℤ a
  pub greatest : a <ℤ ((q +ℤ pos 1) *ℤ pos d)
