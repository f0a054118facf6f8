use Rattle.part_tests.proofs.ranks.is_scanned.Given as goal

abbrev pub ghosts-agrees : goal.ghosts-agrees
ghosts-agrees a = record { name = a.blank.name; parts = a.blank.parts }
