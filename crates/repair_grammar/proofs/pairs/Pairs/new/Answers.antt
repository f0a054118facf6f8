use Rattle.std.proofs.Common.{refl}
use Rattle.repair_grammar.specs.Pairs.{count_in_entry}
use Rattle.repair_grammar.proofs.pairs.Pairs.new.Goals as goal

pub returns : goal.returns
unfolding count_in_entry
returns c = λ pair. rw c.new.ensures.empty refl
