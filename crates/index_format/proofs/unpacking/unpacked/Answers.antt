use Rattle.std.proofs.lemmas.Grind.{common_steps}
use Rattle.std.proofs.Common.{◌*◌, ◌%◌, ◌++◌, ◌∷◌, [], ap, ◌∙◌, arith}
use Rattle.std.proofs.lemmas.Nat.{one_shl}
use Rattle.index_format.proofs.PackingLemmas.{IsReady, unpacking-more, unpacking-starts, window_fits, word_above}
use Rattle.index_format.proofs.unpacking.unpacked.Goals as goal
use Rattle.index_format.proofs.unpacking.unpacked.Goals.{then-filled-width, else-filled-width}

pub loop-number-init : goal.loop-number-init
loop-number-init c =
    unpacking-starts c.args.width c.args.bits.now c.in_ok-numbers.numbers.items c.in_ok-numbers.ensures.items

pub overflow_add-waiting : goal.overflow_add-waiting
overflow_add-waiting c =
    let seen = c.loop-number in
    let place = c.args.width * seen._number in
    let sum = word_above c.args.bits.now place seen.waiting seen.filled c.from.result seen.words seen.invariant.left
    (c.from.ensures ∙ c.word.ensures) seen.invariant.place seen.invariant.low in
    omega (arith, sum, window_fits c.args.bits.now place seen.filled seen.invariant.low)

-- with a word more where there were too few, the next number's bits wait
pub loop-number-preserved : goal.loop-number-preserved
loop-number-preserved c =
    let seen = c.loop-number in
    let bits = c.args.bits.now in
    let ready : IsReady c.args.width seen._number bits c.if-filled-width.waiting c.if-filled-width.filled c.if-filled-width.words =
    elim c.if-filled-width.branch [
      | then-filled-width w ↦
          let sum = word_above bits (c.args.width * seen._number) seen.waiting seen.filled w.from.result seen.words
          seen.invariant.left (w.from.ensures ∙ w.word.ensures) seen.invariant.place seen.invariant.low in
          rw (w.waiting-is, w.filled-is, w.words-is) (record {
            left = sum;
            place = omega (arith, seen.invariant.place);
            enough = omega (arith, c.requires.narrow);
            low = omega (arith, w.if-filled-width.true);
          })
      | else-filled-width w ↦
          rw (w.waiting-is, w.filled-is, w.words-is) (record {
            left = seen.invariant.left;
            place = seen.invariant.place;
            enough = omega (arith, w.if-filled-width.false);
            low = omega (arith, seen.invariant.low);
          })
    ] in
    let items = c.in_ok-push.ensures.items
    ∙ ap (λ n. seen.numbers.items ++ c.if-filled-width.waiting % n ∷ [])
    (one_shl c.args.width 128 (omega (arith, c.requires.narrow))) in
    unpacking-more c.args.width seen._number bits seen.numbers.items c.push.new.self.items
    c.if-filled-width.waiting c.if-filled-width.filled c.if-filled-width.words seen.invariant.seen ready items

pub overflow_add-words : goal.overflow_add-words
overflow_add-words c = grind (arith, common_steps)
