use Rattle.index_tests.proofs.building.remade.Given as goal

abbrev pub ghosts-cell_of_remade-L-Ledger : goal.ghosts-cell_of_remade-L-Ledger
ghosts-cell_of_remade-L-Ledger a = record { name = a.blank.name; parts = a.blank.parts }
