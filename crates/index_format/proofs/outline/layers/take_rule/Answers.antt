use Rattle.std.proofs.Common.{ℕ, [], ◌∷◌, ◌++◌, ap, sym, ◌∙◌, length, arith}
use Rattle.std.specs.Prelude.{not}
use Rattle.std.proofs.lemmas.List.{length-append}
use Rattle.index_format.specs.OutlineRules.{with_rules}
use Rattle.index_format.proofs.LayerLemmas.{next_rule, flawed_under-both}
use Rattle.index_format.proofs.outline.layers.take_rule.Goals as goal

pub returns-clause-judged : goal.returns-clause-judged
returns-clause-judged c view seen known =
    let rule : ℕ × ℕ = (c.args.left, c.args.right) in
    let under = flawed_under-both view c.args.top c.args.left c.args.right seen (rw c.from.ensures at c.if-left-from.false) (rw c.from-else-left-from.ensures at c.if-right-from.false) in
    c.in_ok-taken.ensures.judged (with_rules view (seen ++ rule ∷ [])) (length seen) (next_rule view seen rule c.args.table.now known)
    ∙ ap not (sym under)

pub returns-clause-table : goal.returns-clause-table
returns-clause-table c is view seen known =
    let rule : ℕ × ℕ = (c.args.left, c.args.right) in
    record {
      known = c.in_ok-taken.ensures.entries is (with_rules view (seen ++ rule ∷ [])) (length seen) (next_rule view seen rule c.args.table.now known);
      many = omega (arith, c.in_ok-taken.ensures.more is, known.many, length-append seen (rule ∷ []));
    }
