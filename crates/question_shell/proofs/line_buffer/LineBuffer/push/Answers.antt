use Rattle.std.proofs.Common.{rules, ◌≡◌, ◌∙◌, ◌<◌, ◌≤◌, false, length, refl, sym, true}
use Rattle.question_shell.specs.Lines.{is_gap}
use Rattle.question_shell.proofs.KeptLemmas.{kept-full, kept-room}
use Rattle.question_shell.proofs.line_buffer.LineBuffer.push.Goals as goal

pub returns-then-is_gap_byte : goal.returns-then-is_gap_byte
returns-then-is_gap_byte c line is_kept =
    let kept = c.self.inside.kept.items in
    let last = c.in-Some.last.now in
    let full : 1024 < length kept = c.in-Some.ensures.variant.0 refl in
    let gap : is_gap last ≡ true = sym c.is_gap_byte.ensures ∙ c.if-is_gap_byte.true in
    rw gap at (kept-full line kept last c.args.byte (c.self.view_is ∙ is_kept) full (sym c.in-Some.ensures.value))

pub returns-else-is_gap_byte : goal.returns-else-is_gap_byte
returns-else-is_gap_byte c line is_kept =
    let kept = c.self.inside.kept.items in
    let last = c.in-Some.last.now in
    let full : 1024 < length kept = c.in-Some.ensures.variant.0 refl in
    let inside : is_gap last ≡ false = sym c.is_gap_byte.ensures ∙ c.if-is_gap_byte.false in
    rw inside at (kept-full line kept last c.args.byte (c.self.view_is ∙ is_kept) full (sym c.in-Some.ensures.value))

pub returns-in-None : goal.returns-in-None
returns-in-None c line is_kept =
    let kept = c.self.inside.kept.items in
    let room : length kept ≤ 1024 = search rules in
    c.push.ensures.items ∙ kept-room line kept c.args.byte (c.self.view_is ∙ is_kept) room
