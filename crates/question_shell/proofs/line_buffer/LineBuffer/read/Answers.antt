use Rattle.std.proofs.Common.{◌∙◌, ◌≤◌, ap, arith, length, rules}
use Rattle.question_shell.specs.Grammar.{question_of}
use Rattle.question_shell.proofs.KeptLemmas.{kept-all, question_of-kept}
use Rattle.question_shell.proofs.line_buffer.LineBuffer.read.Goals as goal

pub returns-clause-value : goal.returns-clause-value
returns-clause-value c line is_kept =
    c.read_line.ensures.value
    ∙ (ap question_of (c.as_slice.ensures.value ∙ (c.self.view_is ∙ is_kept)) ∙ question_of-kept line)

pub returns-clause-kept : goal.returns-clause-kept
returns-clause-kept c =
    let few : length c.self.inside.kept.items ≤ 1025 = search rules in
    kept-all c.args.self.now (omega (arith, few, ap length c.self.view_is))
