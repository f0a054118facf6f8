use Rattle.part_tests.proofs.period_blocks.are_found.Given as goal

abbrev pub ghosts-found_from_last-L-Ledger : goal.ghosts-found_from_last-L-Ledger
ghosts-found_from_last-L-Ledger a = record { name = a.blank.name; parts = a.blank.parts }
