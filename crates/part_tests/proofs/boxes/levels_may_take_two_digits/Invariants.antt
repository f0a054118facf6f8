use Rattle.part_tests.proofs.boxes.levels_may_take_two_digits.Given as goal

abbrev pub ghosts-do_all_agree-L-Ledger : goal.ghosts-do_all_agree-L-Ledger
ghosts-do_all_agree-L-Ledger g a = record { name = a.blank.name; parts = a.blank.parts }
