use Rattle.std.proofs.Common.{◌∙◌, eqb}
use Rattle.std.proofs.lemmas.List.Filters.{dedup_is}
use Rattle.movement_log.proofs.AlphabetLemmas.{ascending_of-dedup}
use Rattle.movement_log.proofs.alphabet.keep_each_once.Goals as goal

pub returns : goal.returns
returns c =
    let kept = dedup_is eqb c.sort_unstable.new.self.items c.dedup.new.self.items c.dedup.ensures.filtered in
    kept ∙ ascending_of-dedup c.args.values.now.items c.sort_unstable.new.self.items c.sort_unstable.ensures.permutation
    c.sort_unstable.ensures.sorted
