use Rattle.std.proofs.Common.{Some, subst}
use Rattle.encounter.specs.Party.{OpensNode, IsParty, party_of}
use Rattle.encounter.proofs.PartyLemmas.{opened-is, opened-to, opens-rule, view-is}
use Rattle.encounter.proofs.party.Party.open.Goals as goal

pub invariant_of-self-2 : goal.invariant_of-self-2
invariant_of-self-2 g c =
    let old = c.self.inside in
    let entry = c.in-Some.entry in
    let is : IsParty old.pending old.at (Some entry) = subst (IsParty old.pending old.at) c.in-Some.is c.self.invariant in
    let view = view-is old.pending old.at old.top (Some entry) c.args.self.now c.in-Some.is c.self.view_is in
    opened-is old.pending c.open.new.self c.next.new.self old.at entry c.in-Some-next.left is
    (opens-rule old.pending old.at entry c.args.self.now view c.requires.rule) c.open.ensures.rules c.open.ensures.symbols
    c.in-Some-next.ensures.found c.next.ensures.rules c.next.ensures.sound

pub returns-clause-opened : goal.returns-clause-opened
returns-clause-opened g c =
    let old = c.self.inside in
    let entry = c.in-Some.entry in
    let is : IsParty old.pending old.at (Some entry) = subst (IsParty old.pending old.at) c.in-Some.is c.self.invariant in
    let view = view-is old.pending old.at old.top (Some entry) c.args.self.now c.in-Some.is c.self.view_is in
    subst (λ party. OpensNode party (party_of c.next.new.self old.at (Some c.in-Some-next.left))) view
    (opened-to old.pending c.open.new.self c.next.new.self old.at entry c.in-Some-next.left is
    (opens-rule old.pending old.at entry c.args.self.now view c.requires.rule) c.open.ensures.rules c.open.ensures.symbols
    c.in-Some-next.ensures.found c.next.ensures.rules c.next.ensures.sound)
