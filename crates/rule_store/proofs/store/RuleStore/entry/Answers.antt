use Rattle.rule_store.specs.Entry.{entry_of}
use Rattle.rule_store.specs.Expansion.{values_of}
use Rattle.rule_store.proofs.store.RuleStore.entry.Goals as goal

pub returns-clause-value : goal.returns-clause-value
unfolding entry_of
returns-clause-value c =
    c.unpack.ensures.value (values_of c.args.self.now c.args.symbol) c.packed.ensures.entry.values
