use Rattle.std.proofs.Common.{Some, None, ap, sym, subst, ◌∙◌}
use Rattle.rule_store.proofs.LogLemmas.{stops_after-none}
use Rattle.rule_store.specs.Log.{stops_after}
use Rattle.encounter.specs.Party.{IsParty, PartyView, past_of}
use Rattle.encounter.specs.Span.{BlockTree}
use Rattle.encounter.proofs.PartyLemmas.{past-later, past-start, past-way, passed, passed-is}
use Rattle.encounter.proofs.party.Party.pass.Goals as goal

pub past-next-requires : goal.past-next-requires
past-next-requires g c = past-start c.self.inside.pending c.self.inside.at c.self.inside.top c.self.invariant

pub invariant_of-self : goal.invariant_of-self
invariant_of-self g c =
    let old = c.self.inside in
    let now = c.next.new.self in
    subst (λ start. IsParty now start None) (sym c.past-next.ensures) (record {
      sound = c.next.ensures.sound;
      way = rw (c.next.ensures.rules, c.in_default.ensures.end ∙ sym c.in_default.ensures.none)
          (past-way old.pending old.at old.top c.self.invariant);
      top_is = tt;
    })

pub returns-in_default-clause-end : goal.returns-in_default-clause-end
returns-in_default-clause-end g c _ =
    let old = c.self.inside in
    let past = past_of old.at old.top in
    ap (λ (s : PartyView). s.later.stops) (sym c.self.view_is)
    ∙ ap (λ (t : BlockTree). t.stops) (past-later old.pending old.at old.top c.self.invariant)
    ∙ ap (stops_after old.pending.rules past.instant past.cell) c.in_default.ensures.none
    ∙ stops_after-none old.pending.rules past.instant past.cell

pub invariant_of-self-2 : goal.invariant_of-self-2
invariant_of-self-2 g c =
    let old = c.self.inside in
    subst (λ start. IsParty c.next.new.self start (Some c.in-Some.entry)) (sym c.past-next.ensures)
    (passed-is old.pending old.at c.next.new.self old.top c.in-Some.entry c.self.invariant c.in-Some.ensures.found
    c.next.ensures.rules c.next.ensures.sound)

pub returns-clause-more : goal.returns-clause-more
returns-clause-more g c _ =
    let old = c.self.inside in
    rw (← c.self.view_is, c.past-next.ensures)
    (passed old.pending old.at c.next.new.self old.top c.in-Some.entry c.self.invariant c.in-Some.ensures.found
    c.next.ensures.rules c.next.ensures.sound)
