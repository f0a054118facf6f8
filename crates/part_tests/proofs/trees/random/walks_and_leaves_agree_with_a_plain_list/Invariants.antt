use Rattle.part_tests.proofs.trees.random.walks_and_leaves_agree_with_a_plain_list.Given as goal

abbrev pub ghosts-does_all_agree-L-Ledger : goal.ghosts-does_all_agree-L-Ledger
ghosts-does_all_agree-L-Ledger g a = record { name = a.blank.name; parts = a.blank.parts }
