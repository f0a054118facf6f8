-- How many symbols and rules `seek` reads.
use Rattle.std.specs.Prelude.{ℕ, ◌+◌}

-- `seek` reads each symbol of the log up to the one that has the instant, and one rule at each depth below it
abbrev pub seek_reads : ℕ → ℕ → ℕ
seek_reads len depth = len + depth
