use Rattle.std.proofs.Common.{arith, length, subst, take_all}
use Rattle.question_shell.specs.Lines.{is_line_feed}
use Rattle.question_shell.proofs.LineLemmas.{IsPiece, piece-take}
use Rattle.question_shell.proofs.line_cut.cut_line.Goals as goal

pub returns-in_err-length-clause-none : goal.returns-in_err-length-clause-none
returns-in_err-length-clause-none c =
    let bytes = c.args.bytes.now in
    let all = piece-take is_line_feed bytes (length bytes) (omega arith)
    (λ k below. c.in_err-length.ensures k (omega arith) below) in
    rw c.from_residual.ensures (subst (IsPiece is_line_feed) (take_all (length bytes) bytes (omega arith)) all)

pub returns-clause-line : goal.returns-clause-line
returns-clause-line c =
    let first = c.in_ok-length.ensures.0 in
    let within = first.high in
    rw c.split_at.ensures.front
    (piece-take is_line_feed c.args.bytes.now c.in_ok-length.length (omega (arith, within))
    (λ k below. first.before k (omega arith) below))
