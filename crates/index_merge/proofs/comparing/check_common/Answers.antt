use Rattle.std.proofs.Common.{◌∙◌, ap, sym}
use Rattle.std.specs.Option.{is_some}
use Rattle.track_index.proofs.ListedLemmas.{is_listed-index_in}
use Rattle.index_merge.proofs.FaultLemmas.{common-here, common-next}
use Rattle.index_merge.proofs.comparing.check_common.Goals as goal

pub returns-then-is_some-clause-err : goal.returns-then-is_some-clause-err
returns-then-is_some-clause-err c =
    common-here c.args.left.now.objects c.args.right.now.objects c.loop-place.place c.object_at-object.result
    c.loop-place.invariant c.object_at-object.ensures.value
    (sym (is_listed-index_in c.args.right.now.objects c.object_at-object.result) ∙ ap is_some (sym c.index_of.ensures.value) ∙ sym c.is_some.ensures ∙ c.if-is_some.true)

pub loop-place-preserved : goal.loop-place-preserved
loop-place-preserved c =
    common-next c.args.left.now.objects c.args.right.now.objects c.loop-place.place c.object_at-object.result
    c.loop-place.invariant c.object_at-object.ensures.value
    (sym (is_listed-index_in c.args.right.now.objects c.object_at-object.result) ∙ ap is_some (sym c.index_of.ensures.value) ∙ sym c.is_some.ensures ∙ c.if-is_some.false)
