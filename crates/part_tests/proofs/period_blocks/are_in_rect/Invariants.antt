use Rattle.part_tests.proofs.period_blocks.are_in_rect.Given as goal

abbrev pub ghosts-drawn_from_rect-L-Ledger : goal.ghosts-drawn_from_rect-L-Ledger
ghosts-drawn_from_rect-L-Ledger a = record { name = a.blank.name; parts = a.blank.parts }
