use Rattle.std.proofs.Common.{◌≡◌, ◌+◌, ◌*◌, length, ap, ◌∙◌, arith}
use Rattle.k2_tree.proofs.GroupBitsLemmas.{packed-whole, packed-more}
use Rattle.k2_tree.proofs.group_bits.listed.Goals as goal
use Rattle.k2_tree.proofs.group_bits.listed.Goals.{then-filled-gt0+in_ok-push, else-filled-gt0}

pub new-requires : goal.new-requires
new-requires c =
    let words = c.args.words.items in
    let all = c.if-filled-gt0.words.items in
    let len : 64 * c.len.result + c.args.filled ≡ 64 * length words + c.args.filled = omega (arith, c.len.ensures, c.args.words.ok) in
    rw len (elim c.if-filled-gt0.branch [
      | then-filled-gt0+in_ok-push w ↦
          (packed-more words all c.args.last c.args.filled c.requires.last (omega (arith, w.if-filled-gt0.true))
          (ap (λ vec. vec.items) w.words-is ∙ w.in_ok-push.ensures.items)).0
      | else-filled-gt0 w ↦
          (packed-whole words all c.args.last c.args.filled (omega (arith, w.if-filled-gt0.false)) (ap (λ vec. vec.items) w.words-is)).0
    ])

pub returns : goal.returns
returns c =
    let words = c.args.words.items in
    let all = c.if-filled-gt0.words.items in
    let len : 64 * c.len.result + c.args.filled ≡ 64 * length words + c.args.filled = omega (arith, c.len.ensures, c.args.words.ok) in
    record {
      ok = c.new.ensures.value ∙ rw len (elim c.if-filled-gt0.branch [
        | then-filled-gt0+in_ok-push w ↦
            (packed-more words all c.args.last c.args.filled c.requires.last (omega (arith, w.if-filled-gt0.true))
            (ap (λ vec. vec.items) w.words-is ∙ w.in_ok-push.ensures.items)).1
        | else-filled-gt0 w ↦
            (packed-whole words all c.args.last c.args.filled (omega (arith, w.if-filled-gt0.false)) (ap (λ vec. vec.items) w.words-is)).1
      ]);
    }
