use Rattle.std.proofs.Common.{rules, ◌≡◌, Ok, to_z, of_z, w64}
use Rattle.track_types.specs.Bounds.{number_within}
use Rattle.question_shell.proofs.GrammarLemmas.{value_of-within}
use Rattle.question_shell.proofs.number_word.read_number.Goals as goal

pub returns-in-Ok-clause-value : goal.returns-in-Ok-clause-value
returns-in-Ok-clause-value c =
    let number = c.in-Ok.number in
    let within : number_within c.args.least c.args.greatest c.args.word.now ≡ Ok number = search rules in
    let kept : to_z w64 (of_z w64 number) ≡ number = search rules in
    rw kept (value_of-within c.args.least c.args.greatest c.args.word.now number within)
