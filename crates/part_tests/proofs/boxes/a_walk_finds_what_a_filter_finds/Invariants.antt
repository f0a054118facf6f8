use Rattle.part_tests.proofs.boxes.a_walk_finds_what_a_filter_finds.Given as goal

abbrev pub ghosts-do_all_agree-L-Ledger : goal.ghosts-do_all_agree-L-Ledger
ghosts-do_all_agree-L-Ledger g a = record { name = a.blank.name; parts = a.blank.parts }
