use Rattle.std.proofs.Common.{◌≡◌, ◌<◌, length, get_or, refl, ap, arith}
use Rattle.std.proofs.lemmas.Grind.{get_or_default_zero}
use Rattle.rule_store.proofs.FlawLemmas.{value-short}
use Rattle.index_format.specs.OutlineFile.{frame_rules}
use Rattle.index_format.proofs.AscentLemmas.{small_values}
use Rattle.index_format.proofs.OutlineBlockLaws.{outline-placed}
use Rattle.index_format.proofs.outline.writing.put_lists.Goals as goal

pub put_values-requires-clause-small : goal.put_values-requires-clause-small
put_values-requires-clause-small c k d some =
    let outline = c.args.outline.now in
    let height = outline.frame.height in
    let values = c.as_slice-values.result.now in
    let few : k < length outline.alphabet = omega (arith, some, ap length c.as_slice-values.ensures) in
    let near = value-short height outline.alphabet k c.requires.outline.near_values few in
    let is : get_or values k d ≡ get_or outline.alphabet k 0 =
    rw (get_or_default_zero values k d some, c.as_slice-values.ensures) refl in
    omega (arith, is, near, small_values height c.requires.outline.header.limit)

pub put_blocks-requires-clause-placed : goal.put_blocks-requires-clause-placed
put_blocks-requires-clause-placed c =
    let outline = c.args.outline.now in
    let view = frame_rules outline.frame outline.alphabet outline.rules in
    let each = outline-placed outline c.requires.outline in
    (view, c.requires.table, rw (c.as_slice.ensures, c.as_slice-2.ensures) each)
