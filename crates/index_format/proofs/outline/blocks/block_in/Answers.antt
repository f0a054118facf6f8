use Rattle.std.proofs.Common.{◌≡◌, ◌-◌, length, arith, ap, ◌∙◌, length-append}
use Rattle.std.proofs.lemmas.Result.{err_from_is_err_and}
use Rattle.index_format.specs.BlockSteps.{told_of}
use Rattle.index_format.proofs.BlockLemmas.{block_in-no_anchor, block_in-no_log, block_in-ok}
use Rattle.index_format.proofs.BoundedLemmas.{bounded-more}
use Rattle.index_format.proofs.outline.blocks.block_in.Goals as goal

pub returns-in_err-cell-clause-exact : goal.returns-in_err-cell-clause-exact
returns-in_err-cell-clause-exact c view whole =
    let p = err_from_is_err_and c.from_residual.result c.from_residual.ensures.1 in
    rw (p.1, p.2) (block_in-no_anchor c.args.ground.frame view c.args.index (told_of c.args.progress.now) c.args.at c.args.reader.now
    c.in_err-cell.field-0.0 c.in_err-cell.ensures.exact)

pub returns-in_err-log-clause-exact : goal.returns-in_err-log-clause-exact
returns-in_err-log-clause-exact c view whole =
    let p = err_from_is_err_and c.from_residual-in_err-log.result c.from_residual-in_err-log.ensures.1 in
    rw (p.1, p.2) (block_in-no_log c.args.ground.frame view c.args.index (told_of c.args.progress.now) c.args.at c.args.reader.now
    c.in_ok-cell.cell c.anchor_in.new.reader
    c.in_ok-cell.ensures.exact c.in_err-log.field-0.0 (rw c.min-end.ensures at (c.in_err-log.ensures.exact view whole)))

pub returns-clause-exact : goal.returns-clause-exact
returns-clause-exact c view whole =
    let long = c.len.ensures ∙ c.log_in.new.symbols.ok.0 in
    let before = c.len-before.ensures ∙ c.args.progress.now.symbols.ok.0 in
    rw (c.in_ok-push.ensures.items, c.pack.ensures, long, before, c.min-end.ensures) (block_in-ok c.args.ground.frame view c.args.index
    (told_of c.args.progress.now) c.args.at c.args.reader.now c.in_ok-cell.cell c.anchor_in.new.reader
    c.in_ok-cell.ensures.exact (record { symbols = c.log_in.new.symbols.items; rest = c.in_ok-log.log.at.rest; cell = c.in_ok-log.log.at.cell })
    c.log_in.new.reader (rw c.min-end.ensures at (c.in_ok-log.ensures.exact view whole)))

pub returns-clause-bounds : goal.returns-clause-bounds
returns-clause-bounds c view whole are =
    let read = c.in_ok-log.ensures.read view whole in
    let long : c.len.result - c.len-before.result ≡ length read.own = omega (
      arith,
      c.len.ensures ∙ c.log_in.new.symbols.ok.0,
      c.len-before.ensures ∙ c.args.progress.now.symbols.ok.0,
      ap length read.joined,
      length-append c.args.progress.now.symbols.items read.own,
    ) in
    rw (c.in_ok-push.ensures.items, c.pack.ensures, c.in_ok-push-2.ensures.items, read.joined)
    (bounded-more view c.args.progress.now.blocks.items c.args.progress.now.symbols.items c.args.progress.now.bounds.items _ read.own
    c.pack-2.result are long (c.pack-2.ensures ∙ read.bounded))
