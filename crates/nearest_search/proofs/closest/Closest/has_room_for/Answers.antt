use Rattle.std.proofs.Common.{◌≡◌, sym, subst, arith}
use Rattle.std.specs.Prelude.{nat_le}
use Rattle.nearest_search.specs.Cost.{is_no_farther, last_answer}
use Rattle.nearest_search.specs.Kept.{ClosestView}
use Rattle.nearest_search.proofs.KeptLemmas.{room-last}
use Rattle.nearest_search.proofs.closest.Closest.has_room_for.Goals as goal

pub returns-in-Some : goal.returns-in-Some
returns-in-Some c =
    let entries = c.self.inside.kept.entries in
    sym (subst (λ (v : ClosestView). is_no_farther (last_answer v.wanted v.nears) c.args.dist2 ≡ nat_le c.args.dist2 c.in-Some.last.now.0)
    c.self.view_is
    (room-last c.self.inside.wanted c.args.dist2 entries c.in-Some.last.now c.in-Some.field-0-1.now
    (omega (arith, c.if-len-self.false, c.len.ensures.len)) c.self.invariant.few c.in-Some.ensures.last))
