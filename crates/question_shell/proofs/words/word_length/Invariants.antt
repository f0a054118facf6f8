use Rattle.std.proofs.Common.{◌≡◌, true, not, take}
use Rattle.std.specs.List.{list_all}
use Rattle.question_shell.specs.Lines.{is_gap}
use Rattle.question_shell.proofs.words.word_length.Given as goal

abbrev pub invariant-loop-length : goal.invariant-loop-length
invariant-loop-length l = list_all (λ byte. not (is_gap byte)) (take l.length l.line) ≡ true
