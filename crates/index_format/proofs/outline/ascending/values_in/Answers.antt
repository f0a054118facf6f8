use Rattle.std.proofs.Common.{◌≡◌, ◌+◌, ◌*◌, ◌≤◌, arith, refl, sym, ap, ◌∙◌}
use Rattle.std.proofs.lemmas.Result.{err_from_is_err_and}
use Rattle.track_types.specs.declared.flaw.Kind.TheVariants.{Code}
use Rattle.track_types.specs.declared.flaw.Section.TheVariants.{Alphabet}
use Rattle.spiral_code.specs.Spiral.{square}
use Rattle.rule_store.specs.Flaws.{reach_limit}
use Rattle.index_format.specs.Fields.{flaw_at}
use Rattle.index_format.specs.OutlineLists.{least_after}
use Rattle.index_format.proofs.ItemLemmas.{items_at-more, items_at-fault, items_at-done}
use Rattle.index_format.proofs.OutlineLemmas.{least_after-more, value_in-untold, value_in-far, value_in-ok}
use Rattle.track_types.specs.declared.format_fault.FormatFault.TheVariants as fault
use Rattle.index_format.proofs.outline.ascending.values_in.Goals as goal

pub returns-in_err-value : goal.returns-in_err-value
returns-in_err-value c =
    let way = c.loop-index.invariant.way in
    let p = err_from_is_err_and c.from_residual.result c.from_residual.ensures.1 in
    rw (p.1, p.2) (items_at-fault way c.in_err-value.field-0.0 c.loop-index-test.true
    (value_in-untold c.args.height c.loop-index.values.items c.loop-index.reader c.loop-index.index c.loop-index.least way.long c.loop-index.invariant.next
    c.in_err-value.field-0.0 (rw c.of-place.ensures at c.in_err-value.ensures.exact)))

pub returns-then-value-greatest : goal.returns-then-value-greatest
returns-then-value-greatest c =
    let way = c.loop-index.invariant.way in
    let is : c.flaw.result ≡ flaw_at Alphabet 0 c.loop-index.index Code = rw (c.flaw.ensures, c.of-place.ensures) refl in
    rw is (items_at-fault way (fault.Flaw (flaw_at Alphabet 0 c.loop-index.index Code)) c.loop-index-test.true
    (value_in-far c.args.height c.loop-index.values.items c.loop-index.reader c.loop-index.index c.loop-index.least way.long c.loop-index.invariant.next
    c.in_ok-value.field-0 c.told.new.reader (rw c.of-place.ensures at c.in_ok-value.ensures.exact)
    (rw c.greatest_value-greatest.ensures.exact at c.if-value-greatest.true)))

pub loop-index-preserved : goal.loop-index-preserved
loop-index-preserved c =
    let way = c.loop-index.invariant.way in
    let value = c.loop-index.least + c.in_ok-value.field-0 in
    let items = c.in_ok-push.ensures.items in
    let near : value ≤ square (2 * reach_limit c.args.height + 1) = rw c.greatest_value-greatest.ensures.exact at c.if-value-greatest.false in
    record {
      way = items_at-more way value c.told.new.reader c.push.new.self.items c.loop-index-test.true
          (value_in-ok c.args.height c.loop-index.values.items c.loop-index.reader c.loop-index.index c.loop-index.least way.long c.loop-index.invariant.next
          c.in_ok-value.field-0 c.told.new.reader (rw c.of-place.ensures at c.in_ok-value.ensures.exact) near) items;
      next = sym (ap least_after items ∙ least_after-more c.loop-index.values.items value);
      few = omega (arith, c.greatest_value-greatest.ensures.within, c.if-value-greatest.false);
    }

pub returns : goal.returns
returns c = rw c.new.ensures (items_at-done c.loop-index.invariant.way c.loop-index-test.false)
