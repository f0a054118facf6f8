use Rattle.std.proofs.Common.{◌≡◌, ◌∙◌, ap, arith, get_or, max, sym, take}
use Rattle.std.proofs.lemmas.Bool.Decides.{nat_tests}
use Rattle.std.proofs.lemmas.List.{take_all, take_more}
use Rattle.list_laws.proofs.GreatestLemmas.{fold_max-more}
use Rattle.gridding.specs.GridLimit.{base_of, distance_of}
use Rattle.gridding.proofs.ObjectCountLemmas.{no_row}
use Rattle.gridding.proofs.limits.check_base.Goals as goal

pub loop-row-preserved : goal.loop-row-preserved
loop-row-preserved c =
    let rows = c.args.rows.now in
    let done = c.loop-row.row-index in
    let so_far : c.loop-row.farthest ≡ base_of (take done rows) = c.loop-row.invariant in
    let here : c.distance.result ≡ distance_of (get_or rows done no_row) = c.distance.ensures in
    let greater : c.max-farthest.result ≡ max c.loop-row.farthest c.distance.result = grind (arith, nat_tests, c.max-farthest.ensures) in
    greater ∙ ap (λ n. max n c.distance.result) so_far ∙ ap (max (base_of (take done rows))) here
    ∙ sym (ap base_of (take_more rows done no_row c.loop-row-test.true) ∙ fold_max-more distance_of (take done rows) (get_or rows done no_row) 0)

pub returns-clause-ok : goal.returns-clause-ok
returns-clause-ok c = rw (c.loop-row.invariant, take_all c.loop-row.row-index c.args.rows.now c.loop-row-test.false) at c.within.ensures.ok

pub returns-clause-err : goal.returns-clause-err
returns-clause-err c = rw (c.loop-row.invariant, take_all c.loop-row.row-index c.args.rows.now c.loop-row-test.false) at c.within.ensures.err
