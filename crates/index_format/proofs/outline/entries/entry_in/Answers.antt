use Rattle.std.proofs.Common.{◌≡◌, arith, sym, ap, ◌∙◌}
use Rattle.std.proofs.lemmas.Result.{err_from_is_err_and}
use Rattle.track_types.specs.PartsForm.{width_for}
use Rattle.index_format.specs.OutlineBlocks.{entry_width}
use Rattle.index_format.proofs.EntryLemmas.{entry_in-full, entry_in-untold, entry_in-told, entry_read}
use Rattle.index_format.proofs.outline.entries.entry_in.Goals as goal

pub returns-then-index-ge-MAX_SYMBOLS-clause-exact : goal.returns-then-index-ge-MAX_SYMBOLS-clause-exact
returns-then-index-ge-MAX_SYMBOLS-clause-exact c view whole =
    let many = c.len-index.ensures ∙ c.args.symbols.now.ok.0 in
    rw (c.flaw.ensures, c.of-place.ensures, many) (entry_in-full c.args.ground.frame view c.args.period c.args.log.at c.args.symbols.now.items
    c.args.reader.now (omega (arith, c.if-index-ge-MAX_SYMBOLS.true, many)))

pub returns-in_err-symbol-clause-exact : goal.returns-in_err-symbol-clause-exact
returns-in_err-symbol-clause-exact c view whole =
    let p = err_from_is_err_and c.from_residual.result c.from_residual.ensures.1 in
    let many = c.len-index.ensures ∙ c.args.symbols.now.ok.0 in
    let width : c.args.ground.width ≡ entry_width view = c.args.ground.exact ∙ ap width_for (c.args.ground.all ∙ whole.all) in
    rw (p.1, p.2) (entry_in-untold c.args.ground.frame view c.args.period c.args.log.at c.args.symbols.now.items
    c.args.reader.now (omega (arith, c.if-index-ge-MAX_SYMBOLS.false, many)) c.in_err-symbol.field-0.0
    (rw (c.of-place.ensures, many, width) at c.in_err-symbol.ensures.exact))

pub returns-in_ok-push-in-Ok-clause-exact : goal.returns-in_ok-push-in-Ok-clause-exact
returns-in_ok-push-in-Ok-clause-exact c view whole =
    let many = c.len-index.ensures ∙ c.args.symbols.now.ok.0 in
    let width : c.args.ground.width ≡ entry_width view = c.args.ground.exact ∙ ap width_for (c.args.ground.all ∙ whole.all) in
    rw c.in_ok-push-in-Ok.ensures.items (entry_in-told c.args.ground.frame view c.args.period c.args.log.at c.args.symbols.now.items
    c.args.reader.now (omega (arith, c.if-index-ge-MAX_SYMBOLS.false, many)) c.in_ok-symbol.field-0 c.wide.new.reader
    (rw (c.of-place.ensures, many, width) at c.in_ok-symbol.ensures.exact)
    ∙ ap (entry_read c.args.period c.args.symbols.now.items c.in_ok-symbol.field-0 c.wide.new.reader) (sym (c.in-Ok.ensures.exact view whole)))

pub returns-in-Err-clause-exact : goal.returns-in-Err-clause-exact
returns-in-Err-clause-exact c view whole =
    let many = c.len-index.ensures ∙ c.args.symbols.now.ok.0 in
    let width : c.args.ground.width ≡ entry_width view = c.args.ground.exact ∙ ap width_for (c.args.ground.all ∙ whole.all) in
    rw (c.flaw-in-Err.ensures, c.of-place.ensures, many) (entry_in-told c.args.ground.frame view c.args.period c.args.log.at c.args.symbols.now.items
    c.args.reader.now (omega (arith, c.if-index-ge-MAX_SYMBOLS.false, many)) c.in_ok-symbol.field-0 c.wide.new.reader
    (rw (c.of-place.ensures, many, width) at c.in_ok-symbol.ensures.exact)
    ∙ ap (entry_read c.args.period c.args.symbols.now.items c.in_ok-symbol.field-0 c.wide.new.reader) (sym (c.in-Err.ensures.exact view whole)))

pub returns-in_ok-push-in-Ok-clause-read : goal.returns-in_ok-push-in-Ok-clause-read
returns-in_ok-push-in-Ok-clause-read c view start before whole is =
    rw c.in_ok-push-in-Ok.ensures.items (c.in-Ok.ensures.read view start before c.args.symbols.now.items whole is)
