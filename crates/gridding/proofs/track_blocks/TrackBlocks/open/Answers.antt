use Rattle.std.proofs.Common.{refl, replicate, rules}
use Rattle.gridding.proofs.BlockLemmas.{blocks_opened}
use Rattle.gridding.specs.declared.track_blocks.TheConstants.{ROWS}
use Rattle.gridding.proofs.track_blocks.TrackBlocks.open.Goals as goal

pub returns-clause-opened : goal.returns-clause-opened
returns-clause-opened c = λ rows blocks full.
    blocks_opened rows c.args.self.now _ c.args.object c.args.place blocks refl c.len-last.result (replicate ROWS c.args.place) refl
    (search rules) (search rules) (search rules) (search rules) c.in_ok-insert.ensures.updates full
