use Rattle.gract_cli.proofs.answer.Given as goal

abbrev pub ghosts-run_words-L-Ledger : goal.ghosts-run_words-L-Ledger
ghosts-run_words-L-Ledger g a = record { name = a.blank.name; parts = a.blank.parts }
