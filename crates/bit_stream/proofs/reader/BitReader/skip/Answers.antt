use Rattle.std.proofs.Common.{◌≡◌, ℕ, ◌+◌, ◌%◌, ◌≤◌, Bool, List, length, drop, sym, subst, ap, ◌∙◌, arith}
use Rattle.bit_stream.specs.Bytes.{IsInside}
use Rattle.bit_stream.proofs.ReaderLemmas.{left_in, skip-within, skip-left, skip-inside}
use Rattle.bit_stream.proofs.reader.BitReader.skip.Goals as goal

-- the bits to be read are there
there : (count : ℕ) (bits now : List Bool) → bits ≡ now → count ≤ length now → count ≤ length bits
there count bits now is enough = omega (arith, ap length is)

pub split_at-requires : goal.split_at-requires
split_at-requires c = skip-within c.self.inside.used c.self.inside.bytes.now c.self.invariant c.args.count
    (there c.args.count _ _ c.self.view_is c.requires.there)

pub invariant_of-self : goal.invariant_of-self
invariant_of-self c = subst (IsInside ((c.self.inside.used + c.args.count) % 8)) (sym c.split_at.ensures.back)
    (skip-inside c.self.inside.used c.self.inside.bytes.now c.self.invariant c.args.count
    (there c.args.count _ _ c.self.view_is c.requires.there))

pub returns : goal.returns
returns c =
    ap (left_in ((c.self.inside.used + c.args.count) % 8)) c.split_at.ensures.back
    ∙ skip-left c.self.inside.used c.self.inside.bytes.now c.self.invariant c.args.count
    (there c.args.count _ _ c.self.view_is c.requires.there)
    ∙ ap (drop c.args.count) c.self.view_is
