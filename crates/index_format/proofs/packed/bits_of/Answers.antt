use Rattle.std.proofs.Common.{◌≡◌, ◌≤◌, length, take, drop, Ok, false, sym, ap, ◌∙◌, arith}
use Rattle.packed_bits.specs.Words.{bits_of, IsPacked}
use Rattle.index_format.specs.Spelling.{bytes_for, bits_in}
use Rattle.index_format.specs.Fields.{has_spare, bits_at}
use Rattle.std.proofs.lemmas.Grind.{common_steps}
use Rattle.index_format.proofs.BitLemmas.{IsPacked-bytes, take-bits_of-bytes, bits_at-ok}
use Rattle.index_format.proofs.packed.bits_of.Goals as goal
use Rattle.index_format.proofs.packed.bits_of.Goals.{In_ok-words_of}

module _ (c : In_ok-words_of) where
  count_is : c.div_ceil-len.result ≡ bytes_for c.args.count
  count_is = grind (arith, common_steps)

  long : length c.split_at.result.0.now ≡ bytes_for c.args.count
  long = c.split_at.ensures.front_len ∙ count_is

  full : has_spare c.args.count c.split_at.result.0.now ≡ false
  full = sym c.has_spare.ensures.exact ∙ c.if-has_spare.false

  pub packed : IsPacked c.in_ok-words_of.field-0.items c.args.count
  packed = IsPacked-bytes c.in_ok-words_of.field-0.items c.split_at.result.0.now c.args.count long
      c.in_ok-words_of.ensures.len c.in_ok-words_of.ensures.bits full

  pub read : bits_at c.args.place.section c.args.place.period c.args.count c.args.bytes.now
      ≡ Ok (take c.args.count (bits_of c.in_ok-words_of.field-0.items), c.split_at.result.1.now)
  read =
      let front : c.split_at.result.0.now ≡ take (bytes_for c.args.count) c.args.bytes.now =
      c.split_at.ensures.front ∙ ap (λ n. take n c.args.bytes.now) count_is in
      let back : c.split_at.result.1.now ≡ drop (bytes_for c.args.count) c.args.bytes.now =
      c.split_at.ensures.back ∙ ap (λ n. drop n c.args.bytes.now) count_is in
      let same = take-bits_of-bytes c.in_ok-words_of.field-0.items c.split_at.result.0.now c.args.count long
      c.in_ok-words_of.ensures.len c.in_ok-words_of.ensures.bits in
      let enough : bytes_for c.args.count ≤ length c.args.bytes.now = omega (arith, c.if-bytes-len.false, count_is) in
      rw back (bits_at-ok c.args.place.section c.args.place.period c.args.count c.args.bytes.now
      c.in_ok-words_of.field-0.items enough (ap (has_spare c.args.count) (sym front) ∙ full)
      (same ∙ ap (λ bytes. take c.args.count (bits_in bytes)) front))

pub new-requires : goal.new-requires
new-requires c = packed c

pub returns : goal.returns
returns c = rw c.new.ensures.value (read (goal.at.returns c).In_ok-words_of)
