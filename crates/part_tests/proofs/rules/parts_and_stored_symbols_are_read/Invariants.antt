use Rattle.part_tests.proofs.rules.parts_and_stored_symbols_are_read.Given as goal

abbrev pub ghosts-read_at-L-Ledger : goal.ghosts-read_at-L-Ledger
ghosts-read_at-L-Ledger g a = record { name = a.blank.name; parts = a.blank.parts }
