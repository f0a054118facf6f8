use Rattle.std.proofs.Common.{sym, ◌∙◌, ap}
use Rattle.std.specs.Option.{option_copied}
use Rattle.repair_grammar.specs.Pairs.{count_in_entry}
use Rattle.repair_grammar.proofs.PairLemmas.{count-none, count-some}
use Rattle.repair_grammar.proofs.pairs.Pairs.count.Goals as goal

pub returns-in-None : goal.returns-in-None
returns-in-None c = sym (ap count_in_entry (sym c.get.ensures.value ∙ ap option_copied c.in-None.is) ∙ count-none)

pub returns-in-Some : goal.returns-in-Some
returns-in-Some c = sym (ap count_in_entry (sym c.get.ensures.value ∙ ap option_copied c.in-Some.is)
    ∙ count-some c.in-Some.seen.now)
