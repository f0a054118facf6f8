use Rattle.std.proofs.Common.{◌≡◌, ◌+◌, ◌-◌, ◌^◌, ◌≤◌, arith, refl, sym, ap, ◌∙◌}
use Rattle.std.proofs.lemmas.Result.{err_from_is_err_and}
use Rattle.track_types.specs.declared.flaw.Kind.TheVariants.{Field}
use Rattle.track_types.specs.declared.flaw.Section.TheVariants.{Objects}
use Rattle.index_format.specs.Fields.{flaw_at}
use Rattle.index_format.specs.OutlineLists.{least_after}
use Rattle.index_format.proofs.ItemLemmas.{items_at-more, items_at-fault, items_at-done}
use Rattle.index_format.proofs.OutlineLemmas.{least_after-more, object_in-untold, object_in-large, object_in-ok}
use Rattle.track_types.specs.declared.format_fault.FormatFault.TheVariants as fault
use Rattle.index_format.proofs.outline.ascending.objects_in.Goals as goal

pub returns-in_err-object : goal.returns-in_err-object
returns-in_err-object c =
    let way = c.loop-index.invariant.way in
    let p = err_from_is_err_and c.from_residual.result c.from_residual.ensures.1 in
    rw (p.1, p.2) (items_at-fault way c.in_err-object.field-0.0 c.loop-index-test.true
    (object_in-untold c.loop-index.objects.items c.loop-index.reader c.loop-index.index c.loop-index.least way.long c.loop-index.invariant.next
    c.in_err-object.field-0.0 (rw c.of-place.ensures at c.in_err-object.ensures.exact)))

pub returns-then-object-from : goal.returns-then-object-from
returns-then-object-from c =
    let way = c.loop-index.invariant.way in
    let is : c.flaw.result ≡ flaw_at Objects 0 c.loop-index.index Field = rw (c.flaw.ensures, c.of-place.ensures) refl in
    rw is (items_at-fault way (fault.Flaw (flaw_at Objects 0 c.loop-index.index Field)) c.loop-index-test.true
    (object_in-large c.loop-index.objects.items c.loop-index.reader c.loop-index.index c.loop-index.least way.long c.loop-index.invariant.next
    c.in_ok-object.field-0 c.told.new.reader (rw c.of-place.ensures at c.in_ok-object.ensures.exact)
    (rw c.from.ensures at c.if-object-from.true)))

pub loop-index-preserved : goal.loop-index-preserved
loop-index-preserved c =
    let way = c.loop-index.invariant.way in
    let object = c.loop-index.least + c.in_ok-object.field-0 in
    let items = c.in_ok-push.ensures.items in
    let small : object ≤ 2 ^ 32 - 1 = omega (arith, c.if-object-from.false, c.from.ensures) in
    record {
      way = items_at-more way object c.told.new.reader c.push.new.self.items c.loop-index-test.true
          (object_in-ok c.loop-index.objects.items c.loop-index.reader c.loop-index.index c.loop-index.least way.long c.loop-index.invariant.next
          c.in_ok-object.field-0 c.told.new.reader (rw c.of-place.ensures at c.in_ok-object.ensures.exact) small) items;
      next = sym (ap least_after items ∙ least_after-more c.loop-index.objects.items object);
      few = omega (arith, small);
    }

pub returns : goal.returns
returns c = rw c.new.ensures (items_at-done c.loop-index.invariant.way c.loop-index-test.false)
