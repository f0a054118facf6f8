use Rattle.std.proofs.Common.{◌≡◌, to_z, of_z, w64, sym, ◌∙◌, arith}
use Rattle.std.proofs.lemmas.Int.{ints}
use Rattle.rule_store.specs.Log.{stop_at}
use Rattle.log_cursor.proofs.SearchLemmas.{anchor-apart, anchor-held}
use Rattle.log_cursor.proofs.searching.anchor_hit.Goals as goal

pub returns-then-not-holds : goal.returns-then-not-holds
returns-then-not-holds g c =
    anchor-apart c.args.from c.args.to c.args.test.now.region (stop_at c.args.start.instant c.args.start.cell)
    (sym c.holds.ensures ∙ c.if-not-holds.true)

pub returns : goal.returns
returns g c =
    let stop = stop_at c.args.start.instant c.args.start.cell in
    let from : to_z w64 (of_z w64 c.args.from) ≡ c.args.from = omega (arith, ints) in
    let to : to_z w64 (of_z w64 c.args.to) ≡ c.args.to = omega (arith, ints) in
    anchor-held c.args.from c.args.to c.args.test.now.region stop c.in_ok-anchor.anchor
    (rw (from, to) at c.in_ok-anchor.ensures.value) (sym c.holds.ensures ∙ c.if-not-holds.false)
