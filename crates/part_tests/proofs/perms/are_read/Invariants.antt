use Rattle.part_tests.proofs.perms.are_read.Given as goal

abbrev pub ghosts-reads_both_ways : goal.ghosts-reads_both_ways
ghosts-reads_both_ways a = record { name = a.blank.name; parts = a.blank.parts }
