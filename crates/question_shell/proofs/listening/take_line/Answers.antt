use Rattle.std.proofs.Common.{◌≡◌, refl, sym, arith, Ok, None, Some}
use Rattle.question_shell.specs.Desk.{held_of}
use Rattle.question_shell.specs.Grammar.{question_of}
use Rattle.question_shell.specs.LineKept.{kept_of}
use Rattle.question_shell.specs.Says.{voice}
use Rattle.question_shell.proofs.SaysLemmas.{says-nothing}
use Rattle.question_shell.proofs.listening.take_line.Goals as goal

pub returns-in-Ok-false-clause-told : goal.returns-in-Ok-false-clause-told
returns-in-Ok-false-clause-told g c line is_kept =
    let asked : question_of line ≡ Ok None =
    sym (rw c.in-Ok-false.field-0-test at (c.in-Ok-false.ensures.value line is_kept)) in
    rw asked (record {
      said = says-nothing (voice (g.K.Sink.said c.args.sink.now) c.args.talk.now.text);
      desk = refl {a = held_of c.args.desk.now.view};
      reads = omega arith;
    })

pub returns-in-Ok-false-clause-needs : goal.returns-in-Ok-false-clause-needs
returns-in-Ok-false-clause-needs g c line is_kept =
    let asked : question_of line ≡ Ok None =
    sym (rw c.in-Ok-false.field-0-test at (c.in-Ok-false.ensures.value line is_kept)) in
    rw asked (λ slot read is. is)

pub answer_question-requires-clause-may : goal.answer_question-requires-clause-may
answer_question-requires-clause-may g c =
    let line = c.args.talk.now.line in
    let kept : line ≡ kept_of line = sym c.in-Ok-true.ensures.kept in
    let asked : question_of line ≡ Ok (Some c.read-read.new.question) =
    sym (rw c.in-Ok-true.field-0-test at (c.in-Ok-true.ensures.value line kept)) in
    rw asked at (c.requires.may line kept)
