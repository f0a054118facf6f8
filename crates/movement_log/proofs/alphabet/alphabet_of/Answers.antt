use Rattle.std.proofs.Common.{◌≡◌, ◌+◌, ◌∷◌, [], List, ℕ, length, get_or, take, arith, ap, subst, sym, ◌∙◌}
use Rattle.std.specs.List.Sorted.{IsStrictlyIncreasing}
use Rattle.std.proofs.lemmas.List.{take_all, take_more}
use Rattle.movement_log.specs.Logs.{ascending_of}
use Rattle.movement_log.proofs.AlphabetLemmas.{ascending_of-after, ascending_of-twice, length-ascending_of, IsStrictlyIncreasing-ascending_of}
use Rattle.movement_log.proofs.alphabet.alphabet_of.Goals as goal
use Rattle.movement_log.proofs.alphabet.alphabet_of.Goals.{then-len-room, else-len-room}

pub loop-value-preserved : goal.loop-value-preserved
loop-value-preserved c =
    let values : List ℕ = c.args.values.now in
    let i : ℕ = c.loop-value.value-index in
    let more : ascending_of c.push.new.self.items ≡ ascending_of (take (i + 1) values) =
    ap ascending_of c.in_ok-push.ensures.items
    ∙ ascending_of-after c.loop-value.kept.items (take i values) (get_or values i 0 ∷ []) c.loop-value.invariant
    ∙ ap ascending_of (sym (take_more values i 0 c.loop-value-test.true)) in
    elim c.if-len-room.branch [
      | then-len-room w ↦ ap (λ (v : _). ascending_of v.items) w.kept-is ∙ ap ascending_of w.keep_each_once.ensures ∙ ascending_of-twice _ ∙ more
      | else-len-room w ↦ ap (λ (v : _). ascending_of v.items) w.kept-is ∙ more
    ]

pub returns-clause-ok : goal.returns-clause-ok
returns-clause-ok c =
    let values : List ℕ = c.args.values.now in
    let whole : take c.loop-value.value-index values ≡ values =
    take_all c.loop-value.value-index values (omega (arith, c.loop-value-test.false)) in
    c.keep_each_once-2.ensures ∙ c.loop-value.invariant ∙ ap ascending_of whole

pub returns-clause-few : goal.returns-clause-few
returns-clause-few c = omega (arith, ap length (returns-clause-ok c), length-ascending_of c.args.values.now)

pub returns-clause-ascending : goal.returns-clause-ascending
returns-clause-ascending c =
    subst IsStrictlyIncreasing (sym c.keep_each_once-2.ensures) (IsStrictlyIncreasing-ascending_of c.loop-value.kept.items)
