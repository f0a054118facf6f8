use Rattle.std.proofs.lemmas.Grind.{common_steps, elements}
use Rattle.std.proofs.Common.{◌≡◌, ◌<◌, ◌+◌, [], length, subst, arith, rules}
use Rattle.rule_store.specs.Log.{log_of}
use Rattle.log_cursor.specs.Pending.{IsTaken, pending_of}
use Rattle.log_cursor.proofs.StackLemmas.{IsTaken-read, IsTaken-top, no_part, no_part_left}
use Rattle.log_cursor.proofs.pending.Pending.next.Goals as goal

pub returns-in-Some-clause-found : goal.returns-in-Some-clause-found
returns-in-Some-clause-found g c =
    let pending = c.self.inside in
    subst (λ before. IsTaken before (pending_of pending.view pending.next c.pop.new.self.items) c.entry.result)
    c.self.view_is
    (IsTaken-top pending.view pending.next c.entry.result pending.stack.items c.pop.new.self.items c.in-Some.symbol
    c.in-Some.ensures.items c.self.invariant.stack_is (rw c.rules-rules.ensures at c.entry.ensures.value))

pub returns-clause-found : goal.returns-clause-found
returns-clause-found g c =
    let pending = c.self.inside in
    let none : pending.stack.items ≡ [] = no_part pending.stack.items c.in_default.ensures.variant in
    let still : c.pop.new.self.items ≡ [] = no_part_left pending.stack.items c.pop.new.self.items none c.in_default.ensures.rest in
    let within : pending.next < length (log_of pending.view) = omega (arith, c.len.ensures, c.if-self-len.false) in
    subst (λ before. IsTaken before (pending_of pending.view (pending.next + 1) c.pop.new.self.items) c.entry-entry.result)
    c.self.view_is
    (IsTaken-read pending.view pending.next c.entry-entry.result pending.stack.items c.pop.new.self.items none still
    within c.entry-entry.ensures.value c.entry-entry.ensures.within)

pub pop-requires : goal.pop-requires
pop-requires g c = search rules

pub entry-requires : goal.entry-requires
entry-requires g c = grind (arith, elements)

pub invariant_of-self : goal.invariant_of-self
invariant_of-self g c = grind (arith, common_steps)

pub returns-in-Some-clause-rules : goal.returns-in-Some-clause-rules
returns-in-Some-clause-rules g c = search rules

pub returns-in-Some-clause-places : goal.returns-in-Some-clause-places
returns-in-Some-clause-places g c = search rules

pub returns-in-Some-clause-sound : goal.returns-in-Some-clause-sound
returns-in-Some-clause-sound g c = search rules

pub returns-in-Some-clause-cost : goal.returns-in-Some-clause-cost
returns-in-Some-clause-cost g c = grind (arith, common_steps)

pub invariant_of-self-then-self-len : goal.invariant_of-self-then-self-len
invariant_of-self-then-self-len g c = search rules

pub returns-then-self-len-clause-rules : goal.returns-then-self-len-clause-rules
returns-then-self-len-clause-rules g c = search rules

pub returns-then-self-len-clause-places : goal.returns-then-self-len-clause-places
returns-then-self-len-clause-places g c = search rules

pub returns-then-self-len-clause-none : goal.returns-then-self-len-clause-none
returns-then-self-len-clause-none g c = grind (arith, common_steps)

pub returns-then-self-len-clause-end : goal.returns-then-self-len-clause-end
returns-then-self-len-clause-end g c = grind (arith, common_steps)

pub returns-then-self-len-clause-sound : goal.returns-then-self-len-clause-sound
returns-then-self-len-clause-sound g c = search rules

pub returns-then-self-len-clause-cost : goal.returns-then-self-len-clause-cost
returns-then-self-len-clause-cost g c = grind (arith, common_steps)

pub entry-entry-requires-clause-within : goal.entry-entry-requires-clause-within
entry-entry-requires-clause-within g c = grind (arith, common_steps)

pub entry-entry-requires-clause-may : goal.entry-entry-requires-clause-may
entry-entry-requires-clause-may g c = grind (arith, common_steps)

pub overflow_add-self : goal.overflow_add-self
overflow_add-self g c = search rules

pub invariant_of-self-2 : goal.invariant_of-self-2
invariant_of-self-2 g c = search rules

pub returns-clause-rules : goal.returns-clause-rules
returns-clause-rules g c = search rules

pub returns-clause-places : goal.returns-clause-places
returns-clause-places g c = search rules

pub returns-clause-sound : goal.returns-clause-sound
returns-clause-sound g c = search rules

pub returns-clause-cost : goal.returns-clause-cost
returns-clause-cost g c = grind (arith, elements)
