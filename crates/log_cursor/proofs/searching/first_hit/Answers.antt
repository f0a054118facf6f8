use Rattle.std.proofs.Common.{◌≡◌, ◌∙◌, sym, arith}
use Rattle.std.proofs.lemmas.Int.{ints}
use Rattle.log_cursor.proofs.StopLemmas.{word}
use Rattle.log_cursor.proofs.searching.first_hit.Goals as goal

pub first_hit_with-requires-clause-rules : goal.first_hit_with-requires-clause-rules
first_hit_with-requires-clause-rules g c = sym (c.in_ok-pending.ensures.rules ∙ c.rules.ensures)

pub first_hit_with-requires-clause-may : goal.first_hit_with-requires-clause-may
first_hit_with-requires-clause-may g c =
    let from : word c.args.from ≡ c.args.from = omega (arith, ints) in
    let to : word c.args.to ≡ c.args.to = omega (arith, ints) in
    rw (from, to) c.requires.may
