use Rattle.part_tests.proofs.trees.walks.three_cells_are_walked_square_by_square.Given as goal

abbrev pub ghosts-are_walked-L-Ledger : goal.ghosts-are_walked-L-Ledger
ghosts-are_walked-L-Ledger g a = record { name = a.blank.name; parts = a.blank.parts }

abbrev pub ghosts-wide_root_walked-L-Ledger : goal.ghosts-wide_root_walked-L-Ledger
ghosts-wide_root_walked-L-Ledger g a = record { name = a.blank.name; parts = a.blank.parts }
