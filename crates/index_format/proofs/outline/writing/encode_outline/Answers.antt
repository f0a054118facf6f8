use Rattle.std.proofs.Common.{◌≡◌, ◌++◌, length, ap, ◌∙◌, arith}
use Rattle.bit_stream.proofs.WriterLemmas.{bit_bytes-append}
use Rattle.index_format.specs.OutlineFile.{outline_bits, outline_bytes, outline_header}
use Rattle.index_format.specs.Spelling.{bit_bytes, bits_in, header_bytes}
use Rattle.index_format.proofs.ByteLemmas.{IsBytes-header}
use Rattle.index_format.proofs.SizeLaws.{outline_bytes-within}
use Rattle.index_format.proofs.outline.writing.encode_outline.Goals as goal

pub returns-clause-ok : goal.returns-clause-ok
unfolding outline_bytes
returns-clause-ok c =
    let outline = c.args.outline.now in
    let head = header_bytes (outline_header outline) in
    let out : c.put_header.new.out.items ≡ head =
    c.in_ok-put_header.ensures ∙ ap (λ items. items ++ header_bytes c.outline_header.result) c.new-out.ensures.items ∙ ap header_bytes c.outline_header.ensures in
    let bits : c.put_lists.new.writer ≡ bits_in head ++ outline_bits outline =
    c.in_ok-put_lists.ensures ∙ ap (λ begun. begun ++ outline_bits outline) (c.after-writer.ensures ∙ ap bits_in out) in
    c.in_ok-into_bytes.ensures.ok ∙ ap bit_bytes bits
    ∙ bit_bytes-append head (outline_bits outline) (IsBytes-header (outline_header outline) (omega (arith, c.requires.header.newest)))

pub returns-clause-short : goal.returns-clause-short
returns-clause-short c = omega (arith, ap length (returns-clause-ok c), outline_bytes-within c.args.outline.now c.requires)
