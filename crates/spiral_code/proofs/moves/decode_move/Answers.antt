use Rattle.std.proofs.Common.{ap, sym, ◌∙◌}
use Rattle.spiral_code.specs.Spiral.{code_of, move_of}
use Rattle.spiral_code.proofs.SpiralLemmas.{code_of-zero, move_of-zero, code_of-move_of}
use Rattle.spiral_code.proofs.moves.decode_move.Goals as goal

pub returns-then-code-eq0-clause-exact : goal.returns-then-code-eq0-clause-exact
returns-then-code-eq0-clause-exact c = sym (ap move_of c.if-code-eq0.true ∙ move_of-zero)

pub returns-then-code-eq0-clause-back : goal.returns-then-code-eq0-clause-back
returns-then-code-eq0-clause-back c = code_of-zero ∙ sym c.if-code-eq0.true

pub returns-clause-back : goal.returns-clause-back
returns-clause-back c =
    ap (λ m. code_of m.0 m.1) (c.movement.ensures ∙ c.from_code.ensures) ∙ code_of-move_of c.args.code
