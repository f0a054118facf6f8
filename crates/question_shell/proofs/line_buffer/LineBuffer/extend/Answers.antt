use Rattle.std.proofs.Common.{◌++◌, ◌∙◌, ◌∷◌, [], ap, append-nil, append_assoc, arith, get_or, sym, take, take_all}
use Rattle.std.proofs.lemmas.List.{take_more}
use Rattle.question_shell.specs.LineKept.{kept_of}
use Rattle.question_shell.proofs.KeptLemmas.{kept-bytes}
use Rattle.question_shell.proofs.line_buffer.LineBuffer.extend.Goals as goal

pub loop-byte-init : goal.loop-byte-init
loop-byte-init c line is_kept = is_kept ∙ ap kept_of (sym (append-nil line))

pub loop-byte-preserved : goal.loop-byte-preserved
loop-byte-preserved c line is_kept =
    let bytes = c.args.bytes.now in
    let i = c.loop-byte.byte-index in
    c.push.ensures (line ++ take i bytes) (c.loop-byte.invariant line is_kept)
    ∙ ap kept_of (append_assoc line (take i bytes) (get_or bytes i 0 ∷ [])
    ∙ ap (λ more. line ++ more) (sym (take_more bytes i 0 c.loop-byte-test.true)))

pub returns-then-len-bytes-gt-LONGEST_LINE : goal.returns-then-len-bytes-gt-LONGEST_LINE
returns-then-len-bytes-gt-LONGEST_LINE c line is_kept =
    c.loop-byte.invariant line is_kept
    ∙ ap (λ more. kept_of (line ++ more)) (take_all c.loop-byte.byte-index c.args.bytes.now c.loop-byte-test.false)

pub returns : goal.returns
returns c line is_kept =
    c.in-Ok.ensures.ok ∙ kept-bytes line c.self.inside.kept.items c.args.bytes.now (c.self.view_is ∙ is_kept)
    (omega (arith, c.len.ensures.value, c.if-len-bytes-gt-LONGEST_LINE.false))
