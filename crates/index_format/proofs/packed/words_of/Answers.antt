use Rattle.std.proofs.Common.{◌≡◌, ◌<◌, length, sym, arith}
use Rattle.std.proofs.lemmas.Bool.{eqb-true}
use Rattle.std.proofs.lemmas.Bool.Decides.{nat_tests}
use Rattle.std.proofs.lemmas.Grind.{common_steps}
use Rattle.index_format.proofs.BitLemmas.{IsBytes, IsSpelt-start, IsSpelt-more, IsSpelt-whole, IsSpelt-last}
use Rattle.index_format.proofs.packed.words_of.Goals as goal

pub loop-rest-init : goal.loop-rest-init
loop-rest-init c =
    let fits : IsBytes c.args.bytes.now = λ i. omega (arith, c.type_inv.bytes i) in
    rw c.in_ok-words.ensures.items (IsSpelt-start c.args.bytes.now fits)

pub loop-rest-preserved : goal.loop-rest-preserved
loop-rest-preserved c =
    IsSpelt-more c.loop-rest.invariant c.split_at.result.0.now c.split_at.result.1.now c.push.new.self.items
    c.word_of.result c.loop-rest-test.true c.split_at.ensures.front c.split_at.ensures.back c.word_of.ensures
    (omega (arith, c.word_of.type_inv)) c.in_ok-push.ensures.items

pub returns-then-is_empty : goal.returns-then-is_empty
returns-then-is_empty c =
    let none : length c.loop-rest.rest.now ≡ 0 = eqb-true _ _ (sym c.if-is_empty.ensures) in
    let whole = IsSpelt-whole c.loop-rest.invariant none in
    record { len = whole.0; bits = whole.1 }

pub returns : goal.returns
returns c =
    let some : 0 < length c.loop-rest.rest.now = grind (arith, nat_tests, common_steps) in
    let last = IsSpelt-last c.loop-rest.invariant c.push-2.new.self.items c.last_word_of.result some
    (omega (arith, c.loop-rest-test.false)) c.last_word_of.ensures (omega (arith, c.last_word_of.type_inv))
    c.in_ok-push-2.ensures.items in
    record { len = last.0; bits = last.1 }
