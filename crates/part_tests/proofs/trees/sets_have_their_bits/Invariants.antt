use Rattle.part_tests.proofs.trees.sets_have_their_bits.Given as goal

abbrev pub ghosts-are_leaves_found : goal.ghosts-are_leaves_found
ghosts-are_leaves_found g a = record { name = a.blank.name; parts = a.blank.parts }
