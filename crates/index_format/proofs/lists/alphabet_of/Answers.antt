use Rattle.std.proofs.Common.{◌≡◌, ◌∷◌, ◌++◌, [], arith, inl, inr, refl}
use Rattle.std.proofs.lemmas.Result.{err_from_is_err_and}
use Rattle.std.proofs.lemmas.Grind.{common_steps}
use Rattle.std.specs.Int.{w64}
use Rattle.track_types.specs.declared.flaw.Section.TheVariants.{Alphabet}
use Rattle.track_types.specs.declared.flaw.Kind.TheVariants.{Short, Order}
use Rattle.index_format.specs.Fields.{flaw_at}
use Rattle.index_format.proofs.ItemLemmas.{items_at-done, rising-falls, rising-missing, rising-more}
use Rattle.index_format.proofs.lists.alphabet_of.Goals as goal
use Rattle.index_format.proofs.lists.alphabet_of.Goals.{else-index-gt0-via-then-index-gt0+else-index-value, else-index-gt0-via-else-index-gt0}

pub returns-in_err-value : goal.returns-in_err-value
returns-in_err-value c =
    let p = err_from_is_err_and c.from_residual-in_err-value.result c.from_residual-in_err-value.ensures.1 in
    let is : c.flaw.result ≡ flaw_at Alphabet 0 c.loop-index.index Short = rw (c.flaw.ensures, c.of-place.ensures) refl in
    rw (p.1, p.2) (rising-missing w64 Alphabet c.loop-index.invariant c.flaw.result is c.loop-index-test.true c.in_err-value.field-0.0
    c.in_err-value.ensures)

pub returns-then-index-value : goal.returns-then-index-value
returns-then-index-value c =
    let is : c.flaw.result ≡ flaw_at Alphabet 0 c.loop-index.index Short = rw (c.flaw.ensures, c.of-place.ensures) refl in
    let told : c.flaw-then-index-value.result ≡ flaw_at Alphabet 0 c.loop-index.index Order =
    rw (c.flaw-then-index-value.ensures, c.of-place.ensures) refl in
    rising-falls w64 Alphabet c.loop-index.invariant c.flaw.result is c.loop-index-test.true c.in_ok-value.value
    c.in_ok-value.after.now c.in_ok-value.ensures c.index.result.now c.flaw-then-index-value.result c.if-index-gt0.true
    c.index.ensures c.if-index-value.true told

pub loop-index-preserved : goal.loop-index-preserved
loop-index-preserved c =
    let is : c.flaw.result ≡ flaw_at Alphabet 0 c.loop-index.index Short = rw (c.flaw.ensures, c.of-place.ensures) refl in
    let items : c.push.new.self.items ≡ c.loop-index.values.items ++ c.in_ok-value.value ∷ [] = grind (arith, common_steps) in
    rising-more w64 Alphabet c.loop-index.invariant c.flaw.result is c.loop-index-test.true c.in_ok-value.value
    c.in_ok-value.after.now c.in_ok-value.ensures c.push.new.self.items
    (elim c.else-index-gt0.branch [
      | else-index-gt0-via-then-index-gt0+else-index-value w ↦
          inr (w.index.result.now, w.if-index-gt0.true, w.index.ensures, w.if-index-value.false)
      | else-index-gt0-via-else-index-gt0 w ↦ inl w.if-index-gt0.false
    ])
    items

pub returns : goal.returns
returns c = rw c.new.ensures (items_at-done c.loop-index.invariant c.loop-index-test.false)
