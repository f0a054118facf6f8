use Rattle.std.proofs.Common.{arith, subst, sym}
use Rattle.rule_order.specs.Queue.{ArePlaced, AreQueued}
use Rattle.rule_order.proofs.StepLemmas.{all-placed, terminals-placed}
use Rattle.rule_order.proofs.grammar.Grammar.new_symbols.Goals as goal

pub loop-from-init : goal.loop-from-init
loop-from-init c =
    let alphabet = c.args.self.now.alphabet in
    let rules = c.args.self.now.rules.now in
    let stands : AreQueued alphabet rules c.in_ok-queue.queue.items = record {
      moved = c.in_ok-queue.ensures.moved;
      sorted = c.in_ok-queue.ensures.sorted;
    } in
    record {
      parted = record { within = omega arith; lower = λ i j before behind within. absurd (omega arith) };
      done = subst (ArePlaced alphabet rules c.in_ok-queue.queue.items 0) (sym c.in_ok-places.ensures)
          (terminals-placed alphabet rules c.requires.below c.in_ok-queue.queue.items stands);
    }

pub returns : goal.returns
returns c =
    let alphabet = c.args.self.now.alphabet in
    let rules = c.args.self.now.rules.now in
    let stands : AreQueued alphabet rules c.in_ok-queue.queue.items = record {
      moved = c.in_ok-queue.ensures.moved;
      sorted = c.in_ok-queue.ensures.sorted;
    } in
    all-placed alphabet rules c.requires.below c.in_ok-queue.queue.items stands c.loop-from.from c.loop-from.places.items
    (omega (arith, c.loop-from-test.false, c.len.ensures)) c.loop-from.invariant.done
