use Rattle.std.proofs.Common.{◌≡◌, ◌-◌, refl, sym, arith}
use Rattle.std.proofs.lemmas.Result.{err_from_is_err_and}
use Rattle.index_format.specs.BlockSteps.{told_of}
use Rattle.index_format.proofs.BoundedLemmas.{bounded-none}
use Rattle.index_format.proofs.BlockLemmas.{objects-fault, objects-more, objects-done}
use Rattle.index_format.proofs.outline.blocks.blocks_in.Goals as goal

pub returns-in_err-object_blocks_in-clause-exact : goal.returns-in_err-object_blocks_in-clause-exact
returns-in_err-object_blocks_in-clause-exact c view whole =
    let p = err_from_is_err_and c.from_residual.result c.from_residual.ensures.1 in
    rw (p.1, p.2) (objects-fault c.loop-index.invariant.objects c.loop-index-test.true view whole c.in_err-object_blocks_in.field-0.0
    (rw (c.of-ground.ensures.frame, c.of-ground.ensures.table) at c.in_err-object_blocks_in.ensures.exact view whole))

pub loop-index-init : goal.loop-index-init
loop-index-init c =
    let all : c.args.objects - 0 ≡ c.args.objects = omega arith in
    record {
      objects = record { read = λ view whole. rw (all, c.new.ensures.items, c.new-3.ensures.items) refl };
      bounded = λ view whole. rw (c.new.ensures.items, c.new-2.ensures.items, c.new-3.ensures.items) (bounded-none view);
    }

pub loop-index-preserved : goal.loop-index-preserved
loop-index-preserved c = record {
  objects = objects-more c.loop-index.invariant.objects c.loop-index-test.true (told_of c.object_blocks_in.new.progress)
      c.object_blocks_in.new.reader
      (rw (c.of-ground.ensures.frame, c.of-ground.ensures.table) at c.in_ok-object_blocks_in.ensures.exact);
  bounded = λ view whole. (rw c.of-ground.ensures.table at c.in_ok-object_blocks_in.ensures.bounds) view whole
      (c.loop-index.invariant.bounded view whole);
}

pub returns-clause-exact : goal.returns-clause-exact
returns-clause-exact c view whole = (
  told_of c.loop-index.progress,
  objects-done c.loop-index.invariant.objects c.loop-index-test.false view whole,
  sym c.new-4.ensures,
  sym c.new-5.ensures,
)

pub returns-clause-bounds : goal.returns-clause-bounds
returns-clause-bounds c view whole = rw (c.new-4.ensures, c.new-5.ensures) (c.loop-index.invariant.bounded view whole).each
