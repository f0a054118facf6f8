use Rattle.std.proofs.Common.{◌≡◌, true, ◌∙◌, sym}
use Rattle.question_shell.specs.Lines.{has_byte}
use Rattle.question_shell.proofs.LineLemmas.{has_byte-nonempty, words_of-take}
use Rattle.question_shell.proofs.words.next_word.Goals as goal

pub returns-clause-some : goal.returns-clause-some
returns-clause-some c =
    let rest = c.skip_gaps-rest.result.now in
    let some : has_byte rest ≡ true = has_byte-nonempty rest (sym c.is_empty.ensures ∙ c.if-is_empty.false) in
    let cut = c.word_length.ensures in
    let first = words_of-take rest c.word_length.result some c.skip_gaps-rest.ensures.word cut.word cut.end in
    rw (c.split_at.ensures.front, c.split_at.ensures.back) (sym c.skip_gaps-rest.ensures.words ∙ first)
