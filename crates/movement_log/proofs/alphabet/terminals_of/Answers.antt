use Rattle.std.proofs.Common.{◌≡◌, ◌++◌, [], ◌∷◌, get_or, sym, ◌∙◌, ap}
use Rattle.std.proofs.lemmas.List.{map_more}
use Rattle.movement_log.specs.Logs.{terminal_of}
use Rattle.movement_log.proofs.alphabet.terminals_of.Goals as goal

pub loop-value-preserved : goal.loop-value-preserved
loop-value-preserved c =
    let place = terminal_of c.args.alphabet.now in
    let more = map_more place c.args.values.now c.loop-value.value-index 0 c.loop-value-test.true in
    let now : c.push.new.self.items ≡ c.loop-value.terminals.items ++ place (get_or c.args.values.now c.loop-value.value-index 0) ∷ [] =
    c.in_ok-push.ensures.items ∙ ap (λ v. c.loop-value.terminals.items ++ v ∷ []) c.terminal_of.ensures in
    now ∙ ap (λ front. front ++ place (get_or c.args.values.now c.loop-value.value-index 0) ∷ []) c.loop-value.invariant ∙ sym more
