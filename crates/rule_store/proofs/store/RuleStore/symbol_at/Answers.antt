use Rattle.std.proofs.Common.{◌≡◌, ap, get_or}
use Rattle.std.proofs.lemmas.Option.{get_or_from_slice_get}
use Rattle.rule_store.specs.Flaws.{AreRules}
use Rattle.rule_store.specs.View.{symbols_in}
use Rattle.rule_store.proofs.FlawLemmas.{no_flaws, symbol-known}
use Rattle.rule_store.proofs.store.RuleStore.symbol_at.Goals as goal

pub returns-clause-within : goal.returns-clause-within
returns-clause-within g c =
    let view = c.args.self.now in
    let rules : AreRules view = rw c.self.view_is at c.self.invariant.rules in
    let read : get_or view.symbols c.args.place 0 ≡ c.at.result =
    get_or_from_slice_get view.symbols c.args.place c.at.result 0
    (rw (ap (λ v. v.symbols) c.self.view_is) at c.at.ensures.value) in
    rw read at (symbol-known (symbols_in view) view.symbols c.args.place
    (no_flaws view rules.flawless).symbols c.requires.within)
