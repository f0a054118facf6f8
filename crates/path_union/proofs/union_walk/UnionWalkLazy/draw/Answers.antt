use Rattle.path_union.proofs.WalkLemmas.{none-left}
use Rattle.path_union.proofs.union_walk.UnionWalkLazy.draw.Goals as goal

pub returns-clause-none : goal.returns-clause-none
returns-clause-none g c =
    none-left c.first_of-choice.result.first c.next-later.result c.next-older.result _ _ _ _ c.first_of-choice.ensures.none
    c.first_of-choice.ensures.neither c.next-later.ensures.none c.next-older.ensures.none c.next-later.ensures.next
    c.next-older.ensures.next
