use Rattle.std.proofs.Common.{◌∙◌, ◌+◌, ◌*◌, ◌++◌, ◌∷◌, [], ap, append-nil, arith, drop, sym}
use Rattle.std.proofs.lemmas.List.{append_assoc}
use Rattle.std.specs.List.{range_with_len}
use Rattle.k2_tree.specs.Tree.{where_set}
use Rattle.outline_parts.proofs.DescentLemmas.{judged-all, judged-more, where_set-nil}
use Rattle.outline_parts.proofs.descending.push_children.Goals as goal

pub loop-place-init : goal.loop-place-init
loop-place-init c = record {
  count = 0;
  place = omega arith;
  within = omega (arith, c.end_of-end.ensures, c.requires.within);
  code = omega arith;
  codes = sym (ap (λ more. c.args.codes.now.items ++ more) (where_set-nil (drop c.args.start c.args.bits.now)) ∙ append-nil c.args.codes.now.items);
}

pub loop-place-preserved : goal.loop-place-preserved
loop-place-preserved c =
    let bits = c.args.bits.now in
    let start = c.args.start in
    let base = c.args.fan * c.args.prefix in
    let old = c.args.codes.now.items in
    let inv = c.loop-place.invariant in
    let count = inv.count in
    let bit = c.get.result in
    let within = c.loop-place-test.true in
    let more = judged-more bits start base count bit (omega (arith, within, inv.place, c.end_of-end.ensures)) (rw inv.place at c.get.ensures) in
    record {
      count = count + 1;
      place = omega (arith, inv.place);
      within = omega (arith, within);
      code = omega (arith, inv.code);
      codes =
          c.in_ok-push_if.ensures
          ∙ ap (λ front. front ++ where_set (bit ∷ []) (c.loop-place.code ∷ [])) inv.codes
          ∙ ap (λ code. (old ++ where_set (drop start bits) (range_with_len base count)) ++ where_set (bit ∷ []) (code ∷ [])) inv.code
          ∙ append_assoc old (where_set (drop start bits) (range_with_len base count)) (where_set (bit ∷ []) ((base + count) ∷ []))
          ∙ ap (λ back. old ++ back) (sym more);
    }

pub returns-clause-ok : goal.returns-clause-ok
returns-clause-ok c =
    let inv = c.loop-place.invariant in
    let last = c.loop-place-test.false in
    inv.codes ∙ ap (λ back. c.args.codes.now.items ++ back)
    (judged-all c.args.bits.now c.args.start (c.args.fan * c.args.prefix) inv.count c.args.fan (omega (arith, inv.place, inv.within, last, c.end_of-end.ensures)))
