use Rattle.part_tests.proofs.ranks.the_lowest_bit_is_the_first.Given as goal

abbrev pub ghosts-answers_on_four_bits : goal.ghosts-answers_on_four_bits
ghosts-answers_on_four_bits g a = record { name = a.blank.name; parts = a.blank.parts }
