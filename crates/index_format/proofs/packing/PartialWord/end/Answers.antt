use Rattle.std.proofs.Common.{◌≡◌, ◌++◌, take, ap, ◌∙◌, arith}
use Rattle.std.specs.Int.{w64, to_le_bytes}
use Rattle.std.proofs.lemmas.Grind.{common_steps}
use Rattle.index_format.specs.Spelling.{bytes_for}
use Rattle.index_format.proofs.PackingLemmas.{packing-ends}
use Rattle.index_format.proofs.packing.PartialWord.end.Goals as goal

pub returns : goal.returns
returns c = λ before bits packing.
    let out = c.args.out.now.items in
    let count : c.div_ceil.result ≡ bytes_for c.args.self.len = grind (arith, common_steps) in
    c.in_ok-extend_from_slice.ensures.items
    ∙ ap (λ bytes. out ++ take c.div_ceil.result bytes) c.to_le_bytes-word.ensures
    ∙ ap (λ n. out ++ take n (to_le_bytes w64 c.args.self.bits)) count
    ∙ packing-ends packing
