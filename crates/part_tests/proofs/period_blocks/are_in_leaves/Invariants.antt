use Rattle.part_tests.proofs.period_blocks.are_in_leaves.Given as goal

abbrev pub ghosts-drawn_from_leaves-L-Ledger : goal.ghosts-drawn_from_leaves-L-Ledger
ghosts-drawn_from_leaves-L-Ledger a = record { name = a.blank.name; parts = a.blank.parts }
