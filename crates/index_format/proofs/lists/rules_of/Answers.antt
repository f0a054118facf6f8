use Rattle.std.proofs.Common.{◌≡◌, ◌∷◌, ◌++◌, [], arith, refl}
use Rattle.std.proofs.lemmas.Result.{err_from_is_err_and}
use Rattle.std.proofs.lemmas.Grind.{common_steps}
use Rattle.track_types.specs.declared.flaw.Section.TheVariants.{Rules}
use Rattle.track_types.specs.declared.flaw.Kind.TheVariants.{Short}
use Rattle.index_format.specs.Fields.{flaw_at}
use Rattle.index_format.proofs.ItemLemmas.{items_at-more, items_at-fault, items_at-done, rule_at-left, rule_at-right, rule_at-ok}
use Rattle.index_format.proofs.lists.rules_of.Goals as goal

pub returns-in_err-left : goal.returns-in_err-left
returns-in_err-left c =
    let p = err_from_is_err_and c.from_residual-in_err-left.result c.from_residual-in_err-left.ensures.1 in
    let is : c.flaw-missing.result ≡ flaw_at Rules 0 c.loop-index.index Short = rw (c.flaw-missing.ensures, c.of-place.ensures) refl in
    let read = rule_at-left c.loop-index.index c.loop-index.rules.items c.loop-index.rest.now c.flaw-missing.result
    c.loop-index.invariant.long is c.in_err-left.field-0.0 c.in_err-left.ensures in
    rw (p.1, p.2) (items_at-fault c.loop-index.invariant c.in_err-left.field-0.0 c.loop-index-test.true read)

pub returns-in_err-right : goal.returns-in_err-right
returns-in_err-right c =
    let p = err_from_is_err_and c.from_residual-in_err-right.result c.from_residual-in_err-right.ensures.1 in
    let is : c.flaw-missing.result ≡ flaw_at Rules 0 c.loop-index.index Short = rw (c.flaw-missing.ensures, c.of-place.ensures) refl in
    let read = rule_at-right c.loop-index.index c.loop-index.rules.items c.loop-index.rest.now c.flaw-missing.result
    c.loop-index.invariant.long is c.in_ok-left.left c.in_ok-left.after.now c.in_err-right.field-0.0
    c.in_ok-left.ensures c.in_err-right.ensures in
    rw (p.1, p.2) (items_at-fault c.loop-index.invariant c.in_err-right.field-0.0 c.loop-index-test.true read)

pub loop-index-preserved : goal.loop-index-preserved
loop-index-preserved c =
    let is : c.flaw-missing.result ≡ flaw_at Rules 0 c.loop-index.index Short = rw (c.flaw-missing.ensures, c.of-place.ensures) refl in
    let read = rule_at-ok c.loop-index.index c.loop-index.rules.items c.loop-index.rest.now c.flaw-missing.result
    c.loop-index.invariant.long is c.in_ok-left.left c.in_ok-left.after.now c.in_ok-right.right
    c.in_ok-right.after.now c.in_ok-left.ensures c.in_ok-right.ensures in
    let items : c.push.new.self.items ≡ c.loop-index.rules.items ++ (c.in_ok-left.left, c.in_ok-right.right) ∷ [] =
    grind (arith, common_steps) in
    items_at-more c.loop-index.invariant (c.in_ok-left.left, c.in_ok-right.right) c.in_ok-right.after.now
    c.push.new.self.items c.loop-index-test.true read items

pub returns : goal.returns
returns c = rw c.new.ensures (items_at-done c.loop-index.invariant c.loop-index-test.false)
