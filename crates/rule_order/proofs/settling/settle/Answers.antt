use Rattle.std.proofs.Common.{All, ◌≡◌, ◌<◌, ap, arith, map, subst, sym, ◌∙◌}
use Rattle.std.specs.Prelude.{slice_index}
use Rattle.std.specs.List.{range_with_len}
use Rattle.rule_order.specs.Layers.{symbol_count}
use Rattle.rule_order.specs.Order.{new_symbol}
use Rattle.rule_order.proofs.ScatterLemmas.{length-places, renumbered-all}
use Rattle.rule_order.proofs.settling.settle.Goals as goal
use Rattle.rule_order.proofs.settling.settle.Goals.{After-as_slice-3}

-- the table has all new numbers
told : (c : After-as_slice-3) →
    c.as_slice-3.result.now ≡ map (new_symbol c.args.alphabet c.args.rules) (range_with_len 0 (symbol_count c.args.alphabet c.args.rules))
told c =
    c.as_slice-3.ensures.value ∙ c.in_ok-places.ensures
    ∙ ap (λ rules. map (new_symbol c.args.alphabet rules) (range_with_len 0 (symbol_count c.args.alphabet rules))) c.as_slice.ensures

pub renumbered-renumbered-requires : goal.renumbered-renumbered-requires
renumbered-renumbered-requires c = λ k d short.
    let is = told (goal.at.renumbered-renumbered-requires c).After-as_slice-3 in
    let long = length-places c.args.alphabet c.args.rules c.as_slice-3.result.now is in
    let known = subst (All (λ symbol. symbol < symbol_count c.args.alphabet c.args.rules)) (sym c.into_vec.ensures) c.requires.known in
    omega (arith, known k d short, long)

pub returns-clause-symbols : goal.returns-clause-symbols
returns-clause-symbols c =
    let is = told (goal.at.returns-clause-symbols c).After-as_slice-3 in
    c.new-2.ensures ∙ c.renumbered-renumbered.ensures
    ∙ ap (map (slice_index c.as_slice-3.result.now)) c.into_vec.ensures
    ∙ renumbered-all c.args.alphabet c.args.rules c.as_slice-3.result.now is c.args.symbols c.requires.known
