use Rattle.std.proofs.Common.{ℕ, ◌+◌, ◌*◌, ◌<◌, max, arith, ap, sym, ◌∙◌}
use Rattle.std.specs.Int.{div_ceil}
use Rattle.log_bounds.specs.Bounds.{hull_speed}
use Rattle.log_bounds.proofs.SpeedLemmas.{is_raised}
use Rattle.log_bounds.proofs.bounds.raised.Goals as goal

pub returns : goal.returns
returns c =
    let far = c.far_of-far.result in
    let instants : ℕ = c.args.before + 1 in
    let long : c.args.speed * instants < far =
    omega (arith, c.saturating_mul.ensures, c.if-far-saturating_mul.false, c.far_of-far.type_inv) in
    c.div_ceil.ensures ∙ sym (is_raised c.args.speed far instants (omega arith) long)
    ∙ ap (λ f. max c.args.speed (div_ceil f instants)) c.far_of-far.ensures
    ∙ ap (λ h. max c.args.speed (hull_speed c.args.from c.args.cell c.args.before h)) (sym c.in-Some.is)
