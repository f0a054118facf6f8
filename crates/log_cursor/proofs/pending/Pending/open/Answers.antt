use Rattle.std.proofs.Common.{◌≡◌, ◌+◌, ◌∷◌, [], ap, ◌∙◌, arith, length, refl}
use Rattle.std.proofs.lemmas.List.{length-append}
use Rattle.rule_store.specs.Flaws.{left_of, right_of}
use Rattle.log_cursor.specs.Pending.{log_from}
use Rattle.log_cursor.proofs.StackLemmas.{IsOpening, opened_stack, opened_stack-fits, opened_stack-roomy, own_symbol, reverse-opened}
use Rattle.log_cursor.proofs.pending.Pending.open.Goals as goal
use Rattle.log_cursor.proofs.pending.Pending.open.Goals.{After-push_reserved, After-push_reserved-2}
use Rattle.log_cursor.proofs.pending.Pending.open.Given.{Over}

-- what is known of the rule, in the words of the fields
opening : (g : Over) (c : After-push_reserved g) → IsOpening c.self.inside.view.rules.now c.self.inside.stack.items c.args.rule
opening g c = record {
  is_rule = rw (← c.self.view_is) at c.requires.rule;
  roomy = rw (← c.self.view_is) at c.requires.roomy;
  left_below = rw c.rules.ensures at c.parts.ensures.left_below;
  right_below = rw c.rules.ensures at c.parts.ensures.right_below;
}

-- the stack after both pushes
stack_is : (g : Over) (c : After-push_reserved-2 g) → c.push_reserved-2.new.self.items
    ≡ opened_stack c.self.inside.view.rules.now c.self.inside.stack.items c.args.rule
stack_is g c =
    let rules = c.self.inside.view.rules.now in
    let left = own_symbol rules (left_of rules c.args.rule) c.parts.result.0 (rw c.rules.ensures at c.parts.ensures.left) in
    let right = own_symbol rules (right_of rules c.args.rule) c.parts.result.1 (rw c.rules.ensures at c.parts.ensures.right) in
    rw (c.push_reserved-2.ensures.items, c.push_reserved.ensures.items, left, right) refl

pub push_reserved-requires-2 : goal.push_reserved-requires-2
push_reserved-requires-2 g c =
    let fits = opened_stack-fits (opening g (goal.at.push_reserved-requires-2 g c).After-push_reserved) in
    let one : length c.push_reserved.new.self.items ≡ length c.self.inside.stack.items + 1 =
    ap length c.push_reserved.ensures.items ∙ length-append c.self.inside.stack.items (c.parts.result.1.symbol ∷ []) in
    (omega arith, omega (arith, fits, one, c.push_reserved.ensures.capacity, c.self.invariant.room))

pub invariant_of-self : goal.invariant_of-self
invariant_of-self g c =
    let its = opening g (goal.at.invariant_of-self g c).After-push_reserved in
    record {
      sound = c.self.invariant.sound;
      within = c.self.invariant.within;
      stack_is = rw (stack_is g c) (opened_stack-roomy its c.self.invariant.stack_is);
      room = omega (
        arith,
        c.push_reserved.ensures.capacity,
        c.push_reserved-2.ensures.capacity,
        c.self.invariant.room,
      );
    }

pub returns-clause-symbols : goal.returns-clause-symbols
returns-clause-symbols g c =
    let pending = c.self.inside in
    rw (← c.self.view_is, stack_is g c) (reverse-opened pending.view.rules.now pending.stack.items c.args.rule
    (log_from pending.view pending.next))
