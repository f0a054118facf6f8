use Rattle.base_tests.proofs.lazy_walks.drawn_gives_what_is_left_and_ends.Given as goal

abbrev pub ghosts-numbers_drawn-L-Ledger : goal.ghosts-numbers_drawn-L-Ledger
ghosts-numbers_drawn-L-Ledger g a = record { name = a.blank.name; parts = a.blank.parts }
