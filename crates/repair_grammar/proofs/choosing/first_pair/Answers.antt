use Rattle.std.proofs.Common.{◌≡◌, ◌+◌, ◌∷◌, arith, sym, ◌∙◌}
use Rattle.std.specs.List.{sum_by}
use Rattle.std.proofs.lemmas.Bool.Decides.{nat_tests}
use Rattle.std.proofs.lemmas.List.Sorted.{sum_by_popped}
use Rattle.repair_grammar.specs.Kept.{keys_in, Covers}
use Rattle.repair_grammar.specs.Pairs.{count_of}
use Rattle.repair_grammar.proofs.CoverLemmas.{covers_none, covers_moved, covers_popped, popped_first}
use Rattle.repair_grammar.proofs.choosing.first_pair.Goals as goal
use Rattle.repair_grammar.proofs.choosing.first_pair.Goals.{After-count-count}

-- the keys before the first was taken out
covers : (c : After-count-count) → Covers (count_of c.args.pairs.now) (c.in-Some.key ∷ keys_in c.take.new.self)
covers c = covers_moved (count_of c.args.pairs.now) _ _ c.in-Some.ensures.moved c.loop-key.invariant

pub loop-key-preserved-then-count-key : goal.loop-key-preserved-then-count-key
loop-key-preserved-then-count-key c =
    let at = (goal.at.loop-key-preserved-then-count-key c).After-count-count in
    covers_popped (count_of c.args.pairs.now) c.in-Some.key (keys_in c.take.new.self) (covers at)
    (keys_in c.take.new.self) (λ other inside. inside)
    (λ two enough. absurd (omega (arith, c.if-count-key.true, c.count-count.ensures, enough)))

pub returns-then-count-gt1-clause-first : goal.returns-then-count-gt1-clause-first
returns-then-count-gt1-clause-first c =
    let at = (goal.at.returns-then-count-gt1-clause-first c).After-count-count in
    popped_first (count_of c.args.pairs.now) c.in-Some.key (keys_in c.take.new.self) (covers at)
    c.in-Some.ensures.first (rw (sym c.count-count.ensures) c.if-count-gt1.true)
    (sym c.count-count.ensures ∙ c.if-count-key-2.true)

pub returns-then-count-gt1-clause-keys : goal.returns-then-count-gt1-clause-keys
returns-then-count-gt1-clause-keys c =
    let at = (goal.at.returns-then-count-gt1-clause-keys c).After-count-count in
    covers_popped (count_of c.args.pairs.now) c.in-Some.key (keys_in c.take.new.self) (covers at)
    (keys_in c.add.new.self)
    (λ other inside. c.in_ok-add.ensures.kept other inside)
    (λ two enough. rw (sym c.count-count.ensures) (c.in_ok-add.ensures.added (rw c.count-count.ensures two)))

pub loop-key-preserved : goal.loop-key-preserved
loop-key-preserved c =
    let at = (goal.at.loop-key-preserved c).After-count-count in
    covers_popped (count_of c.args.pairs.now) c.in-Some.key (keys_in c.take.new.self) (covers at)
    (keys_in c.add.new.self)
    (λ other inside. c.in_ok-add.ensures.kept other inside)
    (λ two enough. rw (sym c.count-count.ensures) (c.in_ok-add.ensures.added (rw c.count-count.ensures two)))

pub returns-clause-first : goal.returns-clause-first
returns-clause-first c =
    covers_none (count_of c.args.pairs.now) (rw c.in_default.ensures.none.0 at c.loop-key.invariant)

-- the sum over the keys after the first was taken
fell : (c : After-count-count) → sum_by (λ key. key.count + 1) (keys_in c.take.new.self) + (c.in-Some.key.count + 1)
    ≡ sum_by (λ key. key.count + 1) (keys_in c.loop-key.keys)
fell c = sum_by_popped (λ key. key.count + 1) c.in-Some.key (keys_in c.loop-key.keys) (keys_in c.take.new.self)
    c.in-Some.ensures.moved

pub loop-key-smaller-then-count-key : goal.loop-key-smaller-then-count-key
loop-key-smaller-then-count-key c = let at = (goal.at.loop-key-smaller-then-count-key c).After-count-count in
    omega (arith, fell at)

pub loop-key-smaller : goal.loop-key-smaller
loop-key-smaller c = let at = (goal.at.loop-key-smaller c).After-count-count in
    grind (arith, nat_tests, fell at, c.in_ok-add.ensures.sum)

pub returns-clause-keys : goal.returns-clause-keys
returns-clause-keys c = rw (c.in_default.ensures.none.0 ∙ sym c.in_default.ensures.none.1) at c.loop-key.invariant
