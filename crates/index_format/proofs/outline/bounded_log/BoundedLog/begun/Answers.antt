use Rattle.std.proofs.Common.{refl}
use Rattle.index_format.proofs.BoundedLemmas.{behind-none, packable-none}
use Rattle.index_format.proofs.outline.bounded_log.BoundedLog.begun.Goals as goal

pub invariant_of-result-clause-small : goal.invariant_of-result-clause-small
invariant_of-result-clause-small c =
    packable-none c.args.start.cell c.of.result c.requires c.of.ensures.from c.of.ensures.speed c.of.ensures.area

pub returns-clause-read : goal.returns-clause-read
returns-clause-read c view before = behind-none view c.args.start before _ refl refl c.of.ensures.from c.of.ensures.speed c.of.ensures.area
