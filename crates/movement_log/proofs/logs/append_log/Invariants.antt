use Rattle.std.proofs.Common.{◌≡◌, ◌-◌, ◌++◌, ℕ, List, length}
use Rattle.movement_log.proofs.LogLemmas.{IsLog}
use Rattle.movement_log.proofs.logs.append_log.Given as goal

-- what was there before, and the log as far as the row `last`
abbrev pub invariant-loop-last : goal.invariant-loop-last
invariant-loop-last l = record {
  log : List ℕ;
  values : l.values.items ≡ l.fn.values.items ++ log;
  is : IsLog l.rows l.anchor l.len l.last log;
}

abbrev pub decreases-loop-last : goal.decreases-loop-last
decreases-loop-last l = length l.rows - l.last
