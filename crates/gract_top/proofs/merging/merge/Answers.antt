use Rattle.std.proofs.Common.{inl, inr}
use Rattle.std.proofs.lemmas.Result.{err_from_is_err_and}
use Rattle.gract_top.proofs.MergingLemmas.{EndsMerge-opened}
use Rattle.gract_top.proofs.StoppingLemmas.{CountsFiles-after}
use Rattle.gract_top.proofs.merging.merge.Goals as goal

pub returns-in_err-second-clause-ends : goal.returns-in_err-second-clause-ends
returns-in_err-second-clause-ends g c =
    let gave = err_from_is_err_and c.from_residual-in_err-second.result c.from_residual-in_err-second.ensures.1 in
    let one = c.in_ok-first.ensures.ok in
    rw (gave.1, gave.2) (record {
      counts = CountsFiles-after _ _ _ _ one.load_faults one.save_faults c.in_err-second.ensures.counts;
      ended = inr (c.in_ok-first.first, _, one, inl c.in_err-second.ensures.err);
    })

pub returns-clause-ends : goal.returns-clause-ends
returns-clause-ends g c =
    let only = c.save_union.ensures.only in
    EndsMerge-opened _ c.in_ok-first.first c.in_ok-second.second c.args.left.now c.args.right.now c.args.out.now _ _ _ _
    c.in_ok-first.ensures.ok c.in_ok-second.ensures.ok only.counts c.save_union.ensures.ended c.save_union.ensures.as_built
    c.save_union.ensures.cost only.loads only.begins
