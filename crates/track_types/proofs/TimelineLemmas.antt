-- The instants of periods: where each begins and ends, and which of them has an instant.
use Rattle.std.proofs.Common.{◌≡◌, ℕ, suc, ◌+◌, ◌-◌, ◌*◌, ◌/◌, ◌%◌, ◌<◌, ◌≤◌, ℤ, arith}
use Rattle.std.proofs.Common.{◌≤ℤ◌}
use Rattle.std.proofs.Math.Nat.{div-add-mod, lt_of_mul-lt-mul_right, mul-le-mul_right}
use Rattle.std.proofs.lemmas.Grind.{div_ceil_times}
use Rattle.std.proofs.lemmas.Int.{ints}
use Rattle.track_types.specs.Timeline.{last_from, period_last, period_size, period_start, period_total}

module _ (span period : ℕ) (some : 0 < period) where
  -- all periods together have as many instants as there are, or more
  enough : span ≤ period_total span period * period
  enough = (div_ceil_times span period some).0

  -- a period begins before the span ends
  pub period-begins : (number : ℕ) → number < period_total span period → number * period < span
  period-begins number within =
      let all = (div_ceil_times span period some).1 in
      let next : suc number * period ≤ period_total span period * period = mul-le-mul_right period within in
      let one : suc number * period ≡ number * period + period = grind arith in
      omega (arith, all, next, one)

  -- and ends with it or before
  pub period-ends : (number : ℕ) → number < period_total span period
      → number * period + (period_size span period number - 1) < span
  period-ends number within = let begins = period-begins number within in omega (arith, begins)

  -- a period ends before a later one begins
  pub period-before : (i j : ℕ) → i < j → i * period + (period_size span period i - 1) < j * period
  period-before i j less =
      let next : suc i * period ≤ j * period = mul-le-mul_right period less in
      let one : suc i * period ≡ i * period + period = grind arith in
      omega (arith, next, one, some)

  module _ (elapsed : ℕ) (inside : elapsed < span) where
    -- the period of an instant begins at it or before
    pub quotient-low : elapsed / period * period ≤ elapsed
    quotient-low =
        let parted = div-add-mod elapsed period in
        let turned : period * (elapsed / period) ≡ elapsed / period * period = grind arith in
        omega (arith, parted, turned)

    -- ends after it, were it whole
    pub quotient-high : elapsed < elapsed / period * period + period
    quotient-high =
        let parted = div-add-mod elapsed period in
        let turned : period * (elapsed / period) ≡ elapsed / period * period = grind arith in
        let rest : elapsed % period < period = omega (arith, some) in
        omega (arith, parted, turned, rest)

    -- is one of those that there are
    pub quotient-within : elapsed / period < period_total span period
    quotient-within =
        let all = enough in
        let low = quotient-low in
        lt_of_mul-lt-mul_right period {m = elapsed / period} {n = period_total span period}
        (omega (arith, all, low, inside))

    -- and ends at it or after it
    pub quotient-end : elapsed ≤ elapsed / period * period + (period_size span period (elapsed / period) - 1)
    quotient-end = let low = quotient-low in let high = quotient-high in omega (arith, low, high, inside)

  -- the instants of a period are those of the timeline
  pub period-inside : (first : ℤ) (number : ℕ) (instant : ℤ) → number < period_total span period
      → period_start first period number ≤ℤ instant → instant ≤ℤ period_last first span period number
      → (first ≤ℤ instant) × (instant ≤ℤ last_from first span)
  period-inside first number instant within low high =
      let ends = period-ends number within in (omega (arith, ints, low), omega (arith, ints, high, ends))

  -- and those of no later period
  pub period-apart : (first : ℤ) (i j : ℕ) (instant : ℤ) → i < j → instant ≤ℤ period_last first span period i
      → period_start first period j ≤ℤ instant → ⊥
  period-apart first i j instant less high low =
      let before = period-before i j less in omega (arith, ints, high, low, before)
