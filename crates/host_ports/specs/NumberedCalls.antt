-- Calls that are numbered from 1; some of them fail, by their number.
use Rattle.std.specs.Prelude.{ℕ, ◌+◌, ◌-◌, ◌^◌, ◌==◌, min, Bool, if◌then◌else◌, List}
use Rattle.std.specs.List.{list_any}

-- one more, up to 2^64 - 1
abbrev pub one_more : ℕ → ℕ
one_more n = min (n + 1) (2 ^ 64 - 1)

-- one fault more, if there was one
abbrev pub one_more_if : Bool → ℕ → ℕ
one_more_if is_fault faults = if is_fault then one_more faults else faults

-- how many calls were made, the numbers of those that fail, and how many faults were counted
pub record Calls : Type 0 where
  pub made : ℕ
  pub fails : List ℕ
  pub faults : ℕ

-- no call was made yet
abbrev pub no_calls : List ℕ → Calls
no_calls fails = record { made = 0; fails = fails; faults = 0 }

-- whether the number of the next call is among those that fail
abbrev pub fails_next : Calls → Bool
fails_next calls = list_any (λ number. number == one_more calls.made) calls.fails

-- one call more
abbrev pub numbered : Calls → Calls
numbered calls = record calls { made = one_more calls.made }

-- one call more, and one fault more if that call was one
abbrev pub counted : Calls → Bool → Calls
counted calls is_fault = record calls { made = one_more calls.made; faults = one_more_if is_fault calls.faults }
