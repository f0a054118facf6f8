use Rattle.gract_tests.proofs.stage.Stage.run.Given as goal

abbrev pub ghosts-call-L-Ledger : goal.ghosts-call-L-Ledger
ghosts-call-L-Ledger a = record { name = a.blank.name; parts = a.blank.parts }
