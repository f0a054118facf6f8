use Rattle.std.proofs.Common.{arith}
use Rattle.std.proofs.lemmas.Result.{err_from_is_err_and}
use Rattle.index_format.specs.BlockSteps.{told_of}
use Rattle.index_format.proofs.BlockLemmas.{object_blocks_in-untold, object_blocks_in-late, object_blocks_in-none, object_blocks_in-no_block, object_blocks_in-no_further, object_blocks_in-ok}
use Rattle.index_format.proofs.outline.blocks.object_blocks_in.Goals as goal

pub returns-in_err-start-clause-exact : goal.returns-in_err-start-clause-exact
returns-in_err-start-clause-exact c view whole =
    let p = err_from_is_err_and c.from_residual.result c.from_residual.ensures.1 in
    rw (p.1, p.2) (object_blocks_in-untold c.args.ground.frame view c.args.index (told_of c.args.progress.now) c.args.reader.now c.in_err-start.field-0.0
    (rw c.of-place.ensures at c.in_err-start.ensures.exact))

pub returns-then-start-from-clause-exact : goal.returns-then-start-from-clause-exact
returns-then-start-from-clause-exact c view whole =
    rw (c.flaw.ensures, c.of-place.ensures) (object_blocks_in-late c.args.ground.frame view c.args.index (told_of c.args.progress.now) c.args.reader.now
    c.in_ok-start.start c.told.new.reader (rw c.of-place.ensures at c.in_ok-start.ensures.exact) (omega (arith, c.if-start-from.true, c.from.ensures)))

pub returns-then-start-from-2-clause-exact : goal.returns-then-start-from-2-clause-exact
returns-then-start-from-2-clause-exact c view whole =
    object_blocks_in-none c.args.ground.frame view c.args.index (told_of c.args.progress.now) c.args.reader.now
    c.in_ok-start.start c.told.new.reader (rw c.of-place.ensures at c.in_ok-start.ensures.exact) (omega (arith, c.if-start-from-2.true, c.from-2.ensures))

pub returns-in_err-block_in-clause-exact : goal.returns-in_err-block_in-clause-exact
returns-in_err-block_in-clause-exact c view whole =
    let p = err_from_is_err_and c.from_residual-in_err-block_in.result c.from_residual-in_err-block_in.ensures.1 in
    let frame = c.args.ground.frame in
    rw (p.1, p.2) (object_blocks_in-no_block frame view c.args.index (told_of c.args.progress.now) c.args.reader.now c.in_ok-start.start c.told.new.reader
    (rw c.of-place.ensures at c.in_ok-start.ensures.exact) (omega (arith, c.if-start-from.false, c.if-start-from-2.false, c.from.ensures, c.from-2.ensures))
    c.in_err-block_in.field-0.0 (c.in_err-block_in.ensures.exact view whole))

pub returns-in_err-further_in-clause-exact : goal.returns-in_err-further_in-clause-exact
returns-in_err-further_in-clause-exact c view whole =
    let p = err_from_is_err_and c.from_residual-in_err-further_in.result c.from_residual-in_err-further_in.ensures.1 in
    let frame = c.args.ground.frame in
    rw (p.1, p.2) (object_blocks_in-no_further frame view c.args.index (told_of c.args.progress.now) c.args.reader.now c.in_ok-start.start c.told.new.reader
    (rw c.of-place.ensures at c.in_ok-start.ensures.exact) (omega (arith, c.if-start-from.false, c.if-start-from-2.false, c.from.ensures, c.from-2.ensures))
    (told_of c.block_in.new.progress) c.block_in.new.reader (c.in_ok-block_in.ensures.exact view whole)
    c.in_err-further_in.field-0.0 (c.in_err-further_in.ensures.exact view whole))

pub returns-clause-exact : goal.returns-clause-exact
returns-clause-exact c view whole =
    let frame = c.args.ground.frame in
    object_blocks_in-ok frame view c.args.index (told_of c.args.progress.now) c.args.reader.now c.in_ok-start.start c.told.new.reader
    (rw c.of-place.ensures at c.in_ok-start.ensures.exact) (omega (arith, c.if-start-from.false, c.if-start-from-2.false, c.from.ensures, c.from-2.ensures))
    (told_of c.block_in.new.progress) c.block_in.new.reader (c.in_ok-block_in.ensures.exact view whole)
    (told_of c.further_in.new.progress, c.further_in.new.reader) (c.in_ok-further_in.ensures.exact view whole)

pub returns-clause-bounds : goal.returns-clause-bounds
returns-clause-bounds c view whole are = c.in_ok-further_in.ensures.bounds view whole (c.in_ok-block_in.ensures.bounds view whole are)
