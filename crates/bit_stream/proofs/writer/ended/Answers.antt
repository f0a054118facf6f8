use Rattle.std.proofs.Common.{rules, ◌≡◌, ◌++◌, take, length, inl, inr, sym, ap, ◌∙◌, arith}
use Rattle.std.proofs.lemmas.Bool.{cases_lt}
use Rattle.std.proofs.lemmas.List.{get_or_past}
use Rattle.std.proofs.lemmas.Grind.{common_steps}
use Rattle.std.specs.Int.{w64, to_le_bytes}
use Rattle.bit_stream.specs.Bytes.{bytes_for}
use Rattle.bit_stream.proofs.BytesLemmas.{IsBytes}
use Rattle.bit_stream.proofs.WriterLemmas.{bit_bytes-append, bit_bytes-waiting}
use Rattle.packed_bits.specs.Words.{low_bits}
use Rattle.bit_stream.proofs.writer.ended.Goals as goal

pub returns : goal.returns
returns c =
    let bytes = c.args.bytes.items in
    let filled = c.args.filled in
    let waiting = c.args.waiting in
    let count : c.div_ceil.result ≡ bytes_for filled = grind (arith, common_steps) in
    let fits : IsBytes bytes = λ i. elim (cases_lt i (length bytes)) [
      | inl below ↦ search rules
      | inr past ↦ rw (get_or_past bytes i 0 past) (omega arith)
    ] in
    c.in_ok-extend_from_slice.ensures.items
    ∙ ap (λ word. bytes ++ take c.div_ceil.result word) c.to_le_bytes-word.ensures
    ∙ ap (λ n. bytes ++ take n (to_le_bytes w64 waiting)) count
    ∙ ap (λ rest. bytes ++ rest) (bit_bytes-waiting filled waiting c.requires.low c.requires.small)
    ∙ sym (bit_bytes-append bytes (low_bits filled waiting) fits)
