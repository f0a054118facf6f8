use Rattle.std.proofs.Common.{◌≡◌, ◌+◌, ◌-◌, ◌*◌, ◌%◌, ◌^◌, ◌<◌, ◌≤◌, ◌++◌, ap, ◌∙◌, arith, lit<}
use Rattle.std.specs.Int.{w64, to_le_bytes}
use Rattle.std.proofs.Math.Nat.{pow-le-pow_right}
use Rattle.std.proofs.lemmas.Nat.{div_below, pow-add, pow_pos, shl_whole}
use Rattle.index_format.proofs.PackingLemmas.{joined_small, packing-fits, packing-spills}
use Rattle.index_format.proofs.packing.PartialWord.then.Goals as goal
use Rattle.index_format.proofs.packing.PartialWord.then.Goals.{After-from-2}

module _ (c : After-from-2) where
  -- what waits with the number above it
  joined : c.from.result * 2 ^ c.args.self.len % 340282366920938463463374607431768211456 + c.from-2.result
      ≡ c.args.number * 2 ^ c.args.self.len + c.args.self.bits
  joined =
      rw (c.from.ensures, c.from-2.ensures) (ap (λ k. k + c.args.self.bits)
      (shl_whole c.args.number c.args.width c.args.self.len 128 c.requires.small
      (omega (arith, c.requires.narrow, c.args.self.low))))

  below : c.args.number * 2 ^ c.args.self.len + c.args.self.bits < 2 ^ (c.args.self.len + c.args.width)
  below = joined_small c.args.width c.args.number c.args.self.bits c.args.self.len c.requires.small c.args.self.small

pub overflow_cast-result : goal.overflow_cast-result
overflow_cast-result c =
    let at = (goal.at.overflow_cast-result c).After-from-2 in
    let len = c.args.self.len + c.args.width in
    let most : 2 ^ len ≤ 2 ^ 63 =
    pow-le-pow_right {n = 2} (lit< tt) {i = len} {j = 63} (omega (arith, c.if-len-lt64.true)) in
    omega (arith, joined at, below at, most)

pub invariant_of-result : goal.invariant_of-result
invariant_of-result c =
    let at = (goal.at.invariant_of-result c).After-from-2 in
    record { low = c.if-len-lt64.true; small = rw (joined at) (below at) }

pub returns-then-len-lt64 : goal.returns-then-len-lt64
returns-then-len-lt64 c = λ before bits packing.
    let at = (goal.at.returns-then-len-lt64 c).After-from-2 in
    rw (joined at) (packing-fits packing c.args.width c.args.number c.requires.small c.if-len-lt64.true)

pub invariant_of-result-2 : goal.invariant_of-result-2
invariant_of-result-2 c =
    let at = (goal.at.invariant_of-result-2 c).After-from-2 in
    let len = c.args.self.len + c.args.width in
    let whole : len ≡ len - 64 + 64 = omega (arith, c.if-len-lt64.false) in
    let bound : c.args.number * 2 ^ c.args.self.len + c.args.self.bits < 2 ^ (len - 64) * 2 ^ 64 =
    omega (arith, below at, ap (λ k. 2 ^ k) whole, pow-add 2 (len - 64) 64) in
    record {
      low = omega (arith, c.args.self.low, c.requires.narrow);
      small = rw (joined at) (div_below (c.args.number * 2 ^ c.args.self.len + c.args.self.bits) (2 ^ 64)
          (2 ^ (len - 64)) (pow_pos 64) bound);
    }

pub returns : goal.returns
returns c = λ before bits packing.
    let at = (goal.at.returns c).After-from-2 in
    let out = c.args.out.now.items in
    let full : 64 ≤ c.args.self.len + c.args.width = omega (arith, c.if-len-lt64.false) in
    let new_is = c.in_ok-extend_from_slice.ensures.items
    ∙ ap (λ bytes. out ++ bytes) c.to_le_bytes.ensures
    ∙ ap (λ v. out ++ to_le_bytes w64 (v % 2 ^ 64)) (joined at) in
    rw (joined at) (packing-spills packing c.args.width c.args.number c.requires.small
    c.extend_from_slice.new.self.items full (omega (arith, c.requires.narrow)) new_is)
