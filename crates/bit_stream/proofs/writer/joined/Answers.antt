use Rattle.std.proofs.Common.{◌≡◌, ◌+◌, ◌*◌, ◌%◌, ◌^◌, ◌<◌, ◌++◌, sym, ap, ◌∙◌, subst, arith}
use Rattle.std.proofs.lemmas.Nat.{one_shl, shl_whole, mod_below, pow_pos}
use Rattle.packed_bits.specs.Words.{low_bits}
use Rattle.bit_stream.proofs.WriterLemmas.{low_bits-join, low_bits-rest, join-small}
use Rattle.bit_stream.proofs.writer.joined.Goals as goal

module _ (c : goal.After-from-2) where
  low_is : c.from.result ≡ c.args.value % 2 ^ c.args.width
  low_is = c.from.ensures ∙ ap (λ n. c.args.value % n) (one_shl c.args.width 64 (omega (arith, c.requires.narrow)))

  small : c.args.value % 2 ^ c.args.width < 2 ^ c.args.width
  small = mod_below c.args.value (2 ^ c.args.width) (pow_pos c.args.width)

  whole : c.from.result * 2 ^ c.args.filled % 2 ^ 128 + c.from-2.result
      ≡ c.args.value % 2 ^ c.args.width * 2 ^ c.args.filled + c.args.waiting
  whole = rw (low_is, c.from-2.ensures) (ap (λ n. n + c.args.waiting)
      (shl_whole (c.args.value % 2 ^ c.args.width) c.args.width c.args.filled 128 small
      (omega (arith, c.requires.narrow, c.requires.waits.low))))

pub returns-clause-exact : goal.returns-clause-exact
returns-clause-exact c =
    ap (low_bits (c.args.filled + c.args.width)) (whole c)
    ∙ low_bits-join c.args.filled c.args.width c.args.waiting (c.args.value % 2 ^ c.args.width) c.requires.waits.small
    ∙ ap (λ bits. low_bits c.args.filled c.args.waiting ++ bits) (low_bits-rest c.args.width c.args.value)

pub returns-clause-small : goal.returns-clause-small
returns-clause-small c = subst (λ n. n < 2 ^ (c.args.filled + c.args.width)) (sym (whole c))
    (join-small c.args.width (c.args.value % 2 ^ c.args.width) c.args.waiting c.args.filled (small c) c.requires.waits.small)
