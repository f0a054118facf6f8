use Rattle.std.proofs.Common.{◌∙◌, sym}
use Rattle.spiral_code.proofs.CodeRingLemmas.{ring_of_code-root}
use Rattle.spiral_code.proofs.SpiralLemmas.{ring_of-move_of}
use Rattle.spiral_code.proofs.rings.ring.Goals as goal

pub returns-clause-exact : goal.returns-clause-exact
returns-clause-exact c =
    let code = c.args.code in
    let root = c.root in
    sym (ring_of-move_of code ∙ ring_of_code-root code root.result root.ensures.square_le root.ensures.next_square_gt)
