use Rattle.std.proofs.Common.{arith}
use Rattle.std.proofs.lemmas.Grind.{common_steps}
use Rattle.std.proofs.Common.{◌≡◌, refl, sym, take, append_assoc}
use Rattle.std.proofs.lemmas.List.{take_all}
use Rattle.index_format.specs.Spelling.{bytes_of_parts, parts_bytes}
use Rattle.index_format.proofs.encoding.encode.Goals as goal

pub returns : goal.returns
unfolding bytes_of_parts parts_bytes
returns c =
    let whole : take c.loop-period.period-index c.args.parts.now.periods ≡ c.args.parts.now.periods =
    take_all c.loop-period.period-index c.args.parts.now.periods
    (rw (sym c.as_slice-period-items.ensures) c.loop-period-test.false) in
    record {
      ok = rw (
        c.in_ok-put_log.ensures,
        c.loop-period.invariant,
        whole,
        c.in_ok-put_rules.ensures,
        c.as_slice-3.ensures,
        c.in_ok-put_longs.ensures,
        c.as_slice-2.ensures,
        c.in_ok-put_shorts.ensures,
        c.as_slice.ensures,
        c.in_ok-put_header.ensures,
        c.header_of.ensures,
        c.in_ok-out.ensures.items,
      ) (simp append_assoc refl);
    }

pub loop-period-preserved : goal.loop-period-preserved
loop-period-preserved c = grind (arith, common_steps)
