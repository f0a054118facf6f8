use Rattle.std.proofs.Common.{◌+◌, ◌++◌, ap, sym, ◌∙◌, arith, append_assoc}
use Rattle.packed_bits.specs.Words.{bits_of, low_bits}
use Rattle.k2_tree.proofs.GroupBitsLemmas.{has_room, low_bits-above, words-more}
use Rattle.k2_tree.proofs.group_bits.GroupBits.push.Goals as goal

pub overflow_add-self : goal.overflow_add-self
overflow_add-self c =
    let inside = c.self.inside in
    let has = has_room inside.words.items inside.filled inside.last c.args.fan c.args.group c.args.self.now c.self.view_is
    c.self.invariant c.requires.fits c.if-self-eq64.false c.requires.small in
    omega (arith, has.fits)

pub invariant_of-self-else-self-eq64 : goal.invariant_of-self-else-self-eq64
invariant_of-self-else-self-eq64 c =
    let inside = c.self.inside in
    let has = has_room inside.words.items inside.filled inside.last c.args.fan c.args.group c.args.self.now c.self.view_is
    c.self.invariant c.requires.fits c.if-self-eq64.false c.requires.small in
    record { within = has.room; small = has.small }

pub returns-in_ok-push : goal.returns-in_ok-push
returns-in_ok-push c =
    let inside = c.self.inside in
    let group = low_bits c.args.fan c.args.group in
    record {
      ok = ap (λ words. bits_of words ++ group) c.in_ok-push.ensures.items
          ∙ ap (λ bits. bits ++ group) (words-more inside.words.items inside.last inside.filled c.if-self-eq64.true ∙ c.self.view_is);
    }

pub returns-else-self-eq64 : goal.returns-else-self-eq64
returns-else-self-eq64 c =
    let inside = c.self.inside in
    let bits = bits_of inside.words.items in
    let group = low_bits c.args.fan c.args.group in
    let has = has_room inside.words.items inside.filled inside.last c.args.fan c.args.group c.args.self.now c.self.view_is
    c.self.invariant c.requires.fits c.if-self-eq64.false c.requires.small in
    record {
      ok = ap (λ n. bits ++ low_bits (inside.filled + c.args.fan) (inside.last + n)) has.whole
          ∙ ap (λ rest. bits ++ rest) (low_bits-above inside.filled c.args.fan inside.last c.args.group c.self.invariant.small)
          ∙ sym (append_assoc bits (low_bits inside.filled inside.last) group)
          ∙ ap (λ front. front ++ group) c.self.view_is;
    }
