use Rattle.std.proofs.Common.{◌≡◌, ◌<ℤ◌, arith}
use Rattle.std.proofs.lemmas.Int.{ints}
use Rattle.path_union.proofs.WalkLemmas.{merge_of-both, merge_of-later, merge_of-older}
use Rattle.path_union.proofs.union_walk.first_of_two.Goals as goal

pub returns-then-other-own-clause-merged : goal.returns-then-other-own-clause-merged
returns-then-other-own-clause-merged c = λ laters olders.
    let before : c.args.other.instant <ℤ c.args.own.instant = grind (arith, ints, c.if-other-own.true) in
    merge_of-older c.args.own laters c.args.other olders before

pub returns-then-own-other-clause-merged : goal.returns-then-own-other-clause-merged
returns-then-own-other-clause-merged c = λ laters olders.
    let before : c.args.own.instant <ℤ c.args.other.instant = grind (arith, ints, c.if-own-other.true) in
    merge_of-later c.args.own laters c.args.other olders before

pub returns-clause-merged : goal.returns-clause-merged
returns-clause-merged c = λ laters olders.
    let both : c.args.own.instant ≡ c.args.other.instant = grind (arith, ints, c.if-other-own.false, c.if-own-other.false) in
    merge_of-both c.args.own laters c.args.other olders both
