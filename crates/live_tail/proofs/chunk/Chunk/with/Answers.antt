use Rattle.std.proofs.Common.{◌≡◌, to_z, of_z, w64, refl, rules}
use Rattle.live_tail.proofs.chunk.Chunk.with.Goals as goal

pub returns : goal.returns
returns c =
    let kept : to_z w64 (of_z w64 c.args.row.now.instant) ≡ c.args.row.now.instant = search rules in
    rw (c.widened.ensures, c.joined.ensures, c.of.ensures, kept) refl
