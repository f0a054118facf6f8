use Rattle.base_tests.proofs.counters.a_counted_list_gives_its_items_one_read_each.Given as goal

abbrev pub ghosts-read_three : goal.ghosts-read_three
ghosts-read_three g a = record { name = a.blank.name; parts = a.blank.parts }
