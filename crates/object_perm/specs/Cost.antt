-- How many places and shortcuts each query of a permutation reads at most.
use Rattle.std.specs.Prelude.{ℕ}

-- `at`: one place
abbrev pub at_reads : ℕ
at_reads = 1

-- `inverse`: sixteen places, one shortcut, and sixteen places
abbrev pub inverse_reads : ℕ
inverse_reads = 33
