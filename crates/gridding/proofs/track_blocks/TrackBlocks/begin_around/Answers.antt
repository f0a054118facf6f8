use Rattle.std.proofs.Common.{◌≡◌, length, refl, arith}
use Rattle.std.proofs.lemmas.Bool.Decides.{nat_tests}
use Rattle.gridding.proofs.BlockLemmas.{blocks_begun}
use Rattle.gridding.proofs.track_blocks.TrackBlocks.begin_around.Goals as goal

pub returns-then-is_empty-clause-kept : goal.returns-then-is_empty-clause-kept
returns-then-is_empty-clause-kept c = λ rows blocks.
    let none : length c.args.self.now.blocks.items ≡ 0 = grind (arith, nat_tests, c.if-is_empty.true, c.is_empty.ensures) in
    blocks_begun rows c.args.self.now _ blocks none refl refl refl refl
