use Rattle.std.proofs.Common.{◌≡◌, ◌-◌, ◌≤◌, ◌∙◌, length, drop, ap, sym, arith, length-append}
use Rattle.std.specs.Fmt.{decimal}
use Rattle.std.proofs.lemmas.Fmt.{length-decimal-le}
use Rattle.std.proofs.lemmas.List.{length-drop}
use Rattle.question_shell.proofs.reply_line.ReplyLine.put_count.Goals as goal

pub write_digits-self-inside-requires : goal.write_digits-self-inside-requires
write_digits-self-inside-requires c =
    let digits : length (decimal c.args.count) ≤ 20 =
    length-decimal-le 20 c.args.count (omega arith) (omega (arith, c.ranges.count.fits)) c.ranges.count.fits in
    let long : length c.args.self.now ≡ 112 - c.self.inside.start =
    sym (ap length c.self.view_is) ∙ (length-drop c.self.inside.start c.self.inside.bytes
    ∙ ap (λ all. all - c.self.inside.start) c.self.invariant.1) in
    (omega (arith, digits, long, c.requires, c.self.invariant.0), omega (arith, c.self.invariant.0, c.self.invariant.1))

pub returns-clause-short : goal.returns-clause-short
returns-clause-short c =
    let digits : length (decimal c.args.count) ≤ 20 =
    length-decimal-le 20 c.args.count (omega arith) (omega (arith, c.ranges.count.fits)) c.ranges.count.fits in
    rw c.write_digits-self-inside.ensures.written
    (omega (
      arith,
      digits,
      length-append (decimal c.args.count) (drop c.self.inside.start c.self.inside.bytes),
      ap length c.self.view_is,
    ))
