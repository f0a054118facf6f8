use Rattle.std.proofs.Common.{rules}
use Rattle.encounter.proofs.nearness.gap.Goals as goal

pub returns-then-high-first-clause-value : goal.returns-then-high-first-clause-value
returns-then-high-first-clause-value c = search rules

pub returns-then-last-low-clause-value : goal.returns-then-last-low-clause-value
returns-then-last-low-clause-value c = search rules

pub returns-else-last-low-clause-value : goal.returns-else-last-low-clause-value
returns-else-last-low-clause-value c = search rules
