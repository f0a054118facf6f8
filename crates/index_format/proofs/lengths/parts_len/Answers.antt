use Rattle.std.proofs.Common.{◌≡◌, length, take, sym, ap, arith}
use Rattle.std.proofs.lemmas.List.{take_all}
use Rattle.track_types.specs.PartsForm.{symbol_width}
use Rattle.track_types.specs.Spelling.{spelling_of}
use Rattle.index_format.proofs.LengthLaws.{header_length-parts, length-bytes_of_parts, length-log_bytes}
use Rattle.index_format.proofs.lengths.parts_len.Goals as goal

pub returns : goal.returns
returns c =
    let whole : take c.loop-period.period-index c.args.parts.now.periods ≡ c.args.parts.now.periods =
    take_all c.loop-period.period-index c.args.parts.now.periods
    (rw (sym c.as_slice-period-items.ensures) c.loop-period-test.false) in
    let sum = rw whole at c.loop-period.invariant.exact in
    omega (
      arith,
      length-bytes_of_parts c.args.parts.now,
      length-log_bytes (spelling_of c.args.parts.now.frame.version) (symbol_width c.args.parts.now) c.args.parts.now.symbols,
      header_length-parts (spelling_of c.args.parts.now.frame.version) c.requires.old,
      sum,
      ap length c.as_slice-objects.ensures,
      ap length c.as_slice.ensures,
      ap length c.as_slice-2.ensures,
      c.log_len.ensures.exact,
    )
