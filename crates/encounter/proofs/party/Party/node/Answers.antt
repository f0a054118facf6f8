use Rattle.std.proofs.Common.{◌≡◌, to_z, of_z, w64, None, Some, subst, ap, ◌∙◌, arith}
use Rattle.std.proofs.lemmas.Int.{ints}
use Rattle.log_cursor.specs.declared.start.Start.{Start}
use Rattle.encounter.specs.Party.{IsParty, PartyView, Tells}
use Rattle.encounter.proofs.PartyLemmas.{around-is, node-area, node-near, node-start, past-start, tells-of, view-is}
use Rattle.encounter.proofs.party.Party.node.Goals as goal

pub after-next-requires : goal.after-next-requires
after-next-requires c =
    let old = c.self.inside in
    past-start old.pending old.at (Some c.in-Some.entry) (subst (IsParty old.pending old.at) c.in-Some.is c.self.invariant)

pub area_of-requires : goal.area_of-requires
area_of-requires c =
    let old = c.self.inside in
    node-near old.pending old.at c.in-Some.entry (subst (IsParty old.pending old.at) c.in-Some.is c.self.invariant)

pub returns-in-None-clause-area : goal.returns-in-None-clause-area
returns-in-None-clause-area c =
    let old = c.self.inside in
    let area = c.around.ensures in
    around-is c.around.result old.at.cell area.x1 area.y1 area.x2 area.y2
    ∙ ap (λ (s : PartyView). s.top.area) (view-is old.pending old.at old.top None c.args.self.now c.in-None.is c.self.view_is)

pub returns-in-None-clause-tells : goal.returns-in-None-clause-tells
returns-in-None-clause-tells c =
    let old = c.self.inside in
    subst Tells c.self.view_is (tells-of old.pending old.at old.top c.self.invariant)

pub returns-in-Some-clause-end : goal.returns-in-Some-clause-end
returns-in-Some-clause-end c =
    let old = c.self.inside in
    let entry = c.in-Some.entry in
    let is : IsParty old.pending old.at (Some entry) = subst (IsParty old.pending old.at) c.in-Some.is c.self.invariant in
    let view = view-is old.pending old.at old.top (Some entry) c.args.self.now c.in-Some.is c.self.view_is in
    let kept : to_z w64 (of_z w64 c.after-next.result.instant) ≡ c.after-next.result.instant = omega (arith, ints) in
    kept ∙ ap (λ (s : Start). s.instant) (c.after-next.ensures ∙ node-start old.pending old.at entry is)
    ∙ ap (λ (s : PartyView). s.top.end) view

pub returns-in-Some-clause-area : goal.returns-in-Some-clause-area
returns-in-Some-clause-area c =
    let old = c.self.inside in
    let entry = c.in-Some.entry in
    let is : IsParty old.pending old.at (Some entry) = subst (IsParty old.pending old.at) c.in-Some.is c.self.invariant in
    let view = view-is old.pending old.at old.top (Some entry) c.args.self.now c.in-Some.is c.self.view_is in
    c.area_of.ensures.value ∙ node-area old.pending old.at entry is ∙ ap (λ (s : PartyView). s.top.area) view

pub returns-in-Some-clause-cell : goal.returns-in-Some-clause-cell
returns-in-Some-clause-cell c =
    let old = c.self.inside in
    let entry = c.in-Some.entry in
    let is : IsParty old.pending old.at (Some entry) = subst (IsParty old.pending old.at) c.in-Some.is c.self.invariant in
    let view = view-is old.pending old.at old.top (Some entry) c.args.self.now c.in-Some.is c.self.view_is in
    ap (λ (s : Start). s.cell) (c.after-next.ensures ∙ node-start old.pending old.at entry is)
    ∙ ap (λ (s : PartyView). s.cell) view

pub returns-in-Some-clause-tells : goal.returns-in-Some-clause-tells
returns-in-Some-clause-tells c =
    let old = c.self.inside in
    subst Tells c.self.view_is (tells-of old.pending old.at old.top c.self.invariant)
