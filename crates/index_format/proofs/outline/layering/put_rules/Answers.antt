use Rattle.std.proofs.Common.{◌+◌, ◌++◌, length, sym, subst, arith}
use Rattle.std.proofs.lemmas.Bool.Decides.{nat_tests}
use Rattle.index_format.specs.OutlineRules.{rules_bits}
use Rattle.index_format.proofs.PutLemmas.{IsCut, IsPutting, putting-starts, putting-cut, putting-done}
use Rattle.index_format.proofs.outline.layering.put_rules.Goals as goal
use Rattle.index_format.proofs.outline.layering.put_rules.Goals.{After-split_at}

-- the next layer
cut : (c : After-split_at) → IsCut c.loop-rest.base c.loop-rest.top c.loop-rest.rest.now c.split_at.result.0.now c.split_at.result.1.now
    c.loop-rest.writer (c.args.writer.now ++ rules_bits c.args.terminals c.args.rules.now)
cut c =
    let test = c.loop-rest-test.ensures in
    putting-cut c.loop-rest.invariant (grind (arith, nat_tests, test)) c.layer_len.result c.layer_len.ensures.exact
    c.split_at.result.0.now c.split_at.result.1.now c.split_at.ensures.front c.split_at.ensures.back

pub loop-rest-init : goal.loop-rest-init
loop-rest-init c = putting-starts c.args.terminals c.args.rules.now c.args.writer.now c.requires.order c.requires.few

pub put_layer-requires-clause-some : goal.put_layer-requires-clause-some
put_layer-requires-clause-some c = (cut (goal.at.put_layer-requires-clause-some c).After-split_at).some

pub put_layer-requires-clause-few : goal.put_layer-requires-clause-few
put_layer-requires-clause-few c = let few = (cut (goal.at.put_layer-requires-clause-few c).After-split_at).few in omega (arith, few)

pub put_layer-requires-clause-layer : goal.put_layer-requires-clause-layer
put_layer-requires-clause-layer c = (c.loop-rest.top, (cut (goal.at.put_layer-requires-clause-layer c).After-split_at).is)

pub loop-rest-smaller : goal.loop-rest-smaller
loop-rest-smaller c = (cut (goal.at.loop-rest-smaller c).After-split_at).shorter

pub loop-rest-preserved : goal.loop-rest-preserved
loop-rest-preserved c =
    let top = c.loop-rest.top + length c.split_at.result.0.now in
    subst (λ bits. IsPutting c.loop-rest.top top c.split_at.result.1.now bits (c.args.writer.now ++ rules_bits c.args.terminals c.args.rules.now))
    (sym c.in_ok-put_layer.ensures) (cut (goal.at.loop-rest-preserved c).After-split_at).after

pub returns : goal.returns
returns c = let test = c.loop-rest-test.ensures in putting-done c.loop-rest.invariant (grind (arith, nat_tests, test))
