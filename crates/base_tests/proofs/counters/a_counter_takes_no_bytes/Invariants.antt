use Rattle.base_tests.proofs.counters.a_counter_takes_no_bytes.Given as goal

abbrev pub ghosts-counted : goal.ghosts-counted
ghosts-counted g a = record { name = a.blank.name; parts = a.blank.parts }
