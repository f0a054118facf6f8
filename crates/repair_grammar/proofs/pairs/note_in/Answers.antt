use Rattle.std.proofs.Common.{◌≡◌, ℕ, cond, Some, None, [], ◌∷◌, ◌++◌, sym, ◌∙◌, ap, arith}
use Rattle.std.specs.Option.{option_copied_mut}
use Rattle.repair_grammar.proofs.PairLemmas.{count-none, count-some, count_new, places_new}
use Rattle.repair_grammar.specs.RePair.{is_pair}
use Rattle.repair_grammar.specs.Pairs.{seen_entry, count_in_entry, places_in_entry}
use Rattle.std.proofs.lemmas.Grind.{common_steps}
use Rattle.std.proofs.lemmas.Bool.Decides.{nat_tests}
use Rattle.repair_grammar.proofs.pairs.note_in.Goals as goal
use Rattle.repair_grammar.proofs.pairs.note_in.Goals.{In_ok-insert-in-None}

pub overflow_add-seen : goal.overflow_add-seen
unfolding count_in_entry
overflow_add-seen c = grind (arith, common_steps, c.requires.room, c.get_mut.ensures.value)

pub returns-in_ok-push-in-Some-clause-counts : goal.returns-in_ok-push-in-Some-clause-counts
unfolding count_in_entry
returns-in_ok-push-in-Some-clause-counts c = λ other. grind (arith, common_steps, nat_tests, c.get_mut.ensures.value)

pub returns-in_ok-push-in-Some-clause-places : goal.returns-in_ok-push-in-Some-clause-places
unfolding places_in_entry
returns-in_ok-push-in-Some-clause-places c = λ other. grind (arith, common_steps, nat_tests, c.get_mut.ensures.value)

-- the entry that came
now : (c : In_ok-insert-in-None) (other : ℕ × ℕ) → seen_entry c.insert.new.self other
    ≡ cond (is_pair other c.args.pair.0 c.args.pair.1)
    (Some (record { count = c.args.more; places = c.push-in-None.new.self })) (seen_entry c.args.table.now other)
now c other = c.in_ok-insert-in-None.ensures.updates.0 other
    ∙ ap (λ table. cond (is_pair other c.args.pair.0 c.args.pair.1)
    (Some (record { count = c.args.more; places = c.push-in-None.new.self })) (seen_entry table other))
    c.get_mut.follows.holds-at-none

none : (c : In_ok-insert-in-None) → seen_entry c.args.table.now c.args.pair ≡ None
none c = sym c.get_mut.ensures.value ∙ ap option_copied_mut c.in-None.is

pub returns-in_ok-insert-in-None-clause-counts : goal.returns-in_ok-insert-in-None-clause-counts
returns-in_ok-insert-in-None-clause-counts c = λ other.
    let at = (goal.at.returns-in_ok-insert-in-None-clause-counts c).In_ok-insert-in-None in
    count_new (seen_entry c.args.table.now) (seen_entry c.insert.new.self) c.args.pair other
    (record { count = c.args.more; places = c.push-in-None.new.self }) (now at other) (none at)

pub returns-in_ok-insert-in-None-clause-places : goal.returns-in_ok-insert-in-None-clause-places
returns-in_ok-insert-in-None-clause-places c = λ other.
    let at = (goal.at.returns-in_ok-insert-in-None-clause-places c).In_ok-insert-in-None in
    let one : c.push-in-None.new.self.items ≡ c.args.place ∷ [] =
    c.in_ok-push-in-None.ensures.ok ∙ ap (λ xs. xs ++ c.args.place ∷ []) c.new-places.ensures.items in
    rw (sym one) (places_new (seen_entry c.args.table.now) (seen_entry c.insert.new.self) c.args.pair other
    (record { count = c.args.more; places = c.push-in-None.new.self }) (now at other) (none at))

pub returns-in_ok-push-in-Some-clause-value : goal.returns-in_ok-push-in-Some-clause-value
returns-in_ok-push-in-Some-clause-value c = omega (
  arith,
  ap count_in_entry (sym c.get_mut.ensures.value ∙ ap option_copied_mut c.in-Some.is),
  count-some c.in-Some.seen.now,
)

pub returns-in_ok-insert-in-None-clause-value : goal.returns-in_ok-insert-in-None-clause-value
returns-in_ok-insert-in-None-clause-value c = omega (
  arith,
  ap count_in_entry (sym c.get_mut.ensures.value ∙ ap option_copied_mut c.in-None.is),
  count-none,
)
