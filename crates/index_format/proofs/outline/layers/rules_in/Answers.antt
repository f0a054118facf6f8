use Rattle.std.proofs.Common.{rules, vec_len, ◌≡◌, suc, ◌+◌, ◌-◌, length, arith, refl, sym, ap, ◌∙◌}
use Rattle.std.proofs.lemmas.Result.{err_from_is_err_and}
use Rattle.track_types.specs.declared.flaw.Kind.TheVariants.{Field}
use Rattle.track_types.specs.declared.flaw.Section.TheVariants.{Layers}
use Rattle.index_format.specs.Fields.{flaw_at}
use Rattle.index_format.specs.OutlineRules.{rules_in}
use Rattle.index_format.proofs.LayerLemmas.{layers_in-untold, layers_in-large, layers_in-fault, layers_in-next, layers_in-ends}
use Rattle.index_format.proofs.outline.layers.rules_in.Goals as goal

pub loop-place-init : goal.loop-place-init
unfolding rules_in
loop-place-init c =
    let none = c.new-rules.ensures.items in
    let long : length c.new-rules.result.items ≡ 0 = ap length none in
    record {
      few = omega (arith, long);
      layers = omega arith;
      symbols = omega (arith, long, c.requires.many);
      table = λ view known. rw none known;
      read = λ view known. let whole : c.args.count - 0 ≡ c.args.count = omega arith in rw (none, whole) refl;
    }

pub returns-in_err-more-clause-exact : goal.returns-in_err-more-clause-exact
returns-in_err-more-clause-exact c view known =
    let it = c.loop-place.invariant in
    let seen = c.loop-place.rules.items in
    let p = err_from_is_err_and c.from_residual.result c.from_residual.ensures.1 in
    let size : vec_len c.loop-place.rules ≡ length seen = search rules in
    rw (p.1, p.2) (layers_in-untold view c.args.count c.loop-place.layer c.loop-place.base (c.args.count - c.loop-place.layer) seen c.loop-place.reader
    (rules_in view c.args.count c.args.reader.now) (omega (arith, it.layers, size, c.len.ensures, c.loop-place-test.true))
    (omega (arith, size, c.len.ensures, c.loop-place-test.true)) (it.read view known)
    c.in_err-more.field-0.0 (rw c.of-place.ensures at c.in_err-more.ensures.exact))

pub returns-then-more-count-clause-exact : goal.returns-then-more-count-clause-exact
returns-then-more-count-clause-exact c view known =
    let it = c.loop-place.invariant in
    let seen = c.loop-place.rules.items in
    let size : vec_len c.loop-place.rules ≡ length seen = search rules in
    let is : c.flaw.result ≡ flaw_at Layers 0 c.loop-place.layer Field = rw (c.flaw.ensures, c.of-place.ensures) refl in
    rw is (layers_in-large view c.args.count c.loop-place.layer c.loop-place.base (c.args.count - c.loop-place.layer) seen c.loop-place.reader
    (rules_in view c.args.count c.args.reader.now) (omega (arith, it.layers, size, c.len.ensures, c.loop-place-test.true))
    (omega (arith, size, c.len.ensures, c.loop-place-test.true)) (it.read view known)
    c.in_ok-more.more c.told.new.reader (rw c.of-place.ensures at c.in_ok-more.ensures.exact)
    (omega (arith, size, c.len-in-loop-place.ensures, c.if-more-count.true)))

pub returns-in_err-layer_in-clause-exact : goal.returns-in_err-layer_in-clause-exact
returns-in_err-layer_in-clause-exact c view known =
    let it = c.loop-place.invariant in
    let seen = c.loop-place.rules.items in
    let p = err_from_is_err_and c.from_residual-in_err-layer_in.result c.from_residual-in_err-layer_in.ensures.1 in
    let size : vec_len c.loop-place.rules ≡ length seen = search rules in
    let known_now = it.table view known in
    rw (p.1, p.2) (layers_in-fault view c.args.count c.loop-place.layer c.loop-place.base (c.args.count - c.loop-place.layer) seen c.loop-place.reader
    (rules_in view c.args.count c.args.reader.now) (omega (arith, it.layers, size, c.len.ensures, c.loop-place-test.true))
    (omega (arith, size, c.len.ensures, c.loop-place-test.true)) (it.read view known)
    c.in_ok-more.more c.told.new.reader (rw c.of-place.ensures at c.in_ok-more.ensures.exact)
    (c.in_ok-more.more + 1) (c.args.values + c.len-in-loop-place-2.result)
    (omega (arith, size, c.len-in-loop-place.ensures, c.if-more-count.false)) (omega arith)
    (omega (arith, size, c.len-in-loop-place-2.ensures, known_now.many, it.symbols))
    c.in_err-layer_in.field-0.0 (c.in_err-layer_in.ensures.exact view known_now))

pub loop-place-preserved : goal.loop-place-preserved
loop-place-preserved c =
    let it = c.loop-place.invariant in
    let seen = c.loop-place.rules.items in
    let size : vec_len c.loop-place.rules ≡ length seen = search rules in
    let many = c.in_ok-layer_in.ensures.many in
    record {
      few = omega (arith, size, many, c.len-in-loop-place.ensures, c.if-more-count.false);
      layers = omega (arith, many, it.layers);
      symbols = omega (arith, many, c.in_ok-layer_in.ensures.symbols, it.symbols);
      table = λ view known. c.in_ok-layer_in.ensures.table view (it.table view known);
      read = λ view known.
          let known_now = it.table view known in
          let left : c.args.count - (c.loop-place.layer + 1) ≡ c.args.count - c.loop-place.layer - 1 = omega arith in
          let next : c.loop-place.layer + 1 ≡ suc c.loop-place.layer = omega arith in
          rw (left, next) (layers_in-next view c.args.count c.loop-place.layer c.loop-place.base (c.args.count - c.loop-place.layer) seen c.loop-place.reader
          (rules_in view c.args.count c.args.reader.now) (omega (arith, it.layers, size, c.len.ensures, c.loop-place-test.true))
          (omega (arith, size, c.len.ensures, c.loop-place-test.true)) (it.read view known)
          c.in_ok-more.more c.told.new.reader (rw c.of-place.ensures at c.in_ok-more.ensures.exact)
          (c.in_ok-more.more + 1) (c.args.values + c.len-in-loop-place-2.result)
          (omega (arith, size, c.len-in-loop-place.ensures, c.if-more-count.false)) (omega arith)
          (omega (arith, size, c.len-in-loop-place-2.ensures, known_now.many, it.symbols))
          c.layer_in.new.rules.items c.layer_in.new.reader (c.in_ok-layer_in.ensures.exact view known_now));
    }

pub returns-clause-exact : goal.returns-clause-exact
returns-clause-exact c view known =
    let it = c.loop-place.invariant in
    let seen = c.loop-place.rules.items in
    let size : vec_len c.loop-place.rules ≡ length seen = search rules in
    rw c.new.ensures (sym (it.read view known) ∙ layers_in-ends view c.args.count c.loop-place.layer c.loop-place.base
    (c.args.count - c.loop-place.layer) seen c.loop-place.reader (omega (arith, it.few, size, c.len.ensures, c.loop-place-test.false)))
