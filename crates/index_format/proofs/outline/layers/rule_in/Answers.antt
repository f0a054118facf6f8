use Rattle.std.proofs.Common.{◌≡◌, ◌+◌, refl}
use Rattle.std.proofs.lemmas.Result.{err_from_is_err_and}
use Rattle.track_types.specs.declared.flaw.Kind.TheVariants as kind
use Rattle.track_types.specs.declared.flaw.Section.TheVariants.{Rules}
use Rattle.rule_store.proofs.TableLemmas.{flawed-refused, sound-taken}
use Rattle.index_format.specs.Fields.{flaw_at}
use Rattle.index_format.specs.OutlineRules.{is_flawed_under}
use Rattle.index_format.proofs.LayerLemmas.{layer_rule_in-more, layer_rule_in-right, layer_rule_in-flawed, layer_rule_in-ok}
use Rattle.index_format.proofs.outline.layers.rule_in.Goals as goal

pub returns-in_err-more-clause-exact : goal.returns-in_err-more-clause-exact
returns-in_err-more-clause-exact c view start seen known long last =
    let p = err_from_is_err_and c.from_residual.result c.from_residual.ensures.1 in
    rw (p.1, p.2) (layer_rule_in-more view c.args.base c.args.top start c.args.index seen c.args.reader.now c.args.before long last
    c.in_err-more.field-0.0 (rw c.of-place.ensures at c.in_err-more.ensures.exact))

pub returns-in_err-right-clause-exact : goal.returns-in_err-right-clause-exact
returns-in_err-right-clause-exact c view start seen known long last =
    let p = err_from_is_err_and c.from_residual-in_err-right.result c.from_residual-in_err-right.ensures.1 in
    rw (p.1, p.2) (layer_rule_in-right view c.args.base c.args.top start c.args.index seen c.args.reader.now c.args.before long last
    c.in_ok-more.more c.told.new.reader (rw c.of-place.ensures at c.in_ok-more.ensures.exact)
    c.in_err-right.field-0.0 (rw c.of-place.ensures at c.in_err-right.ensures.exact))

-- a rule that the table refused is flawed
pub returns-then-not-branch-clause-exact : goal.returns-then-not-branch-clause-exact
returns-then-not-branch-clause-exact c view start seen known long last =
    let left = c.least_left.result + c.in_ok-more.more in
    let right = c.least_right.result + c.in_ok-right.right in
    let is : c.flaw.result ≡ flaw_at Rules 0 c.args.index kind.Rule = rw (c.flaw.ensures, c.of-place.ensures) refl in
    rw is (layer_rule_in-flawed view c.args.base c.args.top start c.args.index seen c.args.reader.now c.args.before long last
    c.in_ok-more.more c.told.new.reader (rw c.of-place.ensures at c.in_ok-more.ensures.exact)
    c.in_ok-right.right c.least_left.result c.least_right.result c.told-2.new.reader (rw c.of-place.ensures at c.in_ok-right.ensures.exact)
    c.least_left.ensures.exact c.least_right.ensures.exact
    (flawed-refused (is_flawed_under view c.args.top seen (left, right)) c.in_ok-take_rule.field-0
    (c.in_ok-take_rule.ensures.judged view seen known) c.if-not-branch.true))

pub returns-clause-exact : goal.returns-clause-exact
returns-clause-exact c view start seen known long last =
    let left = c.least_left.result + c.in_ok-more.more in
    let right = c.least_right.result + c.in_ok-right.right in
    layer_rule_in-ok view c.args.base c.args.top start c.args.index seen c.args.reader.now c.args.before long last
    c.in_ok-more.more c.told.new.reader (rw c.of-place.ensures at c.in_ok-more.ensures.exact)
    c.in_ok-right.right c.least_left.result c.least_right.result c.told-2.new.reader (rw c.of-place.ensures at c.in_ok-right.ensures.exact)
    c.least_left.ensures.exact c.least_right.ensures.exact
    (sound-taken (is_flawed_under view c.args.top seen (left, right)) c.in_ok-take_rule.field-0
    (c.in_ok-take_rule.ensures.judged view seen known) c.if-not-branch.false)
