use Rattle.std.proofs.Common.{rules, ◌-◌, refl, sym, ◌∙◌, ap, arith}
use Rattle.std.specs.Option.{option_copied_mut}
use Rattle.repair_grammar.specs.Pairs.{seen_entry, count_in_entry}
use Rattle.repair_grammar.proofs.PairLemmas.{places_same}
use Rattle.std.proofs.lemmas.Grind.{common_steps}
use Rattle.std.proofs.lemmas.Bool.Decides.{nat_tests}
use Rattle.repair_grammar.proofs.pairs.lower_in.Goals as goal

pub overflow_sub-seen : goal.overflow_sub-seen
unfolding count_in_entry
overflow_sub-seen c = grind (arith, common_steps, c.requires.some, c.get_mut.ensures.value)

pub returns-in-Some-clause-counts : goal.returns-in-Some-clause-counts
unfolding count_in_entry
returns-in-Some-clause-counts c = λ other.
    grind (arith, common_steps, nat_tests, c.requires.some, c.get_mut.ensures.value)

pub returns-in-Some-clause-places : goal.returns-in-Some-clause-places
returns-in-Some-clause-places c = λ other.
    places_same (seen_entry c.args.table.now) (seen_entry (c.get_mut.follows.lender
    (record { count = c.in-Some.seen.now.count - 1; places = c.in-Some.seen.now.places }))) c.args.pair other
    (record { count = c.in-Some.seen.now.count - 1; places = c.in-Some.seen.now.places })
    (((c.get_mut.follows.holds (record { count = c.in-Some.seen.now.count - 1; places = c.in-Some.seen.now.places })).3
    (search rules)).0 other) c.in-Some.seen.now (sym c.get_mut.ensures.value ∙ ap option_copied_mut c.in-Some.is) refl

pub returns-in-Some-clause-value : goal.returns-in-Some-clause-value
unfolding count_in_entry
returns-in-Some-clause-value c = grind (arith, common_steps, c.requires.some, c.get_mut.ensures.value)

pub returns-in-None-clause-counts : goal.returns-in-None-clause-counts
unfolding count_in_entry
returns-in-None-clause-counts c = λ other.
    grind (arith, common_steps, nat_tests, c.requires.some, c.get_mut.ensures.value)

pub returns-in-None-clause-value : goal.returns-in-None-clause-value
unfolding count_in_entry
returns-in-None-clause-value c = grind (arith, common_steps, c.requires.some, c.get_mut.ensures.value)
