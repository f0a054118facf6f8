use Rattle.std.proofs.Common.{◌≡◌, ◌∷◌, ◌++◌, [], arith, inl, inr, refl}
use Rattle.std.proofs.lemmas.Result.{err_from_is_err_and}
use Rattle.std.proofs.lemmas.Grind.{common_steps}
use Rattle.std.specs.Int.{w32}
use Rattle.track_types.specs.declared.flaw.Section.TheVariants.{Objects}
use Rattle.track_types.specs.declared.flaw.Kind.TheVariants.{Short, Order}
use Rattle.index_format.specs.Fields.{flaw_at}
use Rattle.index_format.proofs.ItemLemmas.{items_at-done, rising-falls, rising-missing, rising-more}
use Rattle.index_format.proofs.lists.objects_of.Goals as goal
use Rattle.index_format.proofs.lists.objects_of.Goals.{else-index-gt0-via-then-index-gt0+else-value-index, else-index-gt0-via-else-index-gt0}

pub returns-in_err-value : goal.returns-in_err-value
returns-in_err-value c =
    let p = err_from_is_err_and c.from_residual-in_err-value.result c.from_residual-in_err-value.ensures.1 in
    let is : c.flaw.result ≡ flaw_at Objects 0 c.loop-index.index Short = rw (c.flaw.ensures, c.of-place.ensures) refl in
    rw (p.1, p.2) (rising-missing w32 Objects c.loop-index.invariant c.flaw.result is c.loop-index-test.true c.in_err-value.field-0.0
    c.in_err-value.ensures)

pub returns-then-value-index : goal.returns-then-value-index
returns-then-value-index c =
    let is : c.flaw.result ≡ flaw_at Objects 0 c.loop-index.index Short = rw (c.flaw.ensures, c.of-place.ensures) refl in
    let told : c.flaw-then-value-index.result ≡ flaw_at Objects 0 c.loop-index.index Order =
    rw (c.flaw-then-value-index.ensures, c.of-place.ensures) refl in
    rising-falls w32 Objects c.loop-index.invariant c.flaw.result is c.loop-index-test.true c.in_ok-value.value
    c.in_ok-value.after.now c.in_ok-value.ensures c.index.result.now c.flaw-then-value-index.result c.if-index-gt0.true
    c.index.ensures c.if-value-index.true told

pub loop-index-preserved : goal.loop-index-preserved
loop-index-preserved c =
    let is : c.flaw.result ≡ flaw_at Objects 0 c.loop-index.index Short = rw (c.flaw.ensures, c.of-place.ensures) refl in
    let items : c.push.new.self.items ≡ c.loop-index.values.items ++ c.in_ok-value.value ∷ [] = grind (arith, common_steps) in
    rising-more w32 Objects c.loop-index.invariant c.flaw.result is c.loop-index-test.true c.in_ok-value.value
    c.in_ok-value.after.now c.in_ok-value.ensures c.push.new.self.items
    (elim c.else-index-gt0.branch [
      | else-index-gt0-via-then-index-gt0+else-value-index w ↦
          inr (w.index.result.now, w.if-index-gt0.true, w.index.ensures, w.if-value-index.false)
      | else-index-gt0-via-else-index-gt0 w ↦ inl w.if-index-gt0.false
    ])
    items

pub returns : goal.returns
returns c = rw c.new.ensures (items_at-done c.loop-index.invariant c.loop-index-test.false)
