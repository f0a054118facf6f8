-- How many symbols and rules each call reads.
use Rattle.std.specs.Prelude.{ℕ}

-- `RuleStore::parts`: one rule
abbrev pub parts_reads : ℕ
parts_reads = 1

-- `LogView::entry`: one stored symbol
abbrev pub entry_reads : ℕ
entry_reads = 1
