use Rattle.std.proofs.Common.{◌≡◌, ℕ, ◌+◌, ◌<◌, ◌≤◌, ◌==◌, true, false, List, get_or, length, take, arith, refl, inl, inr, sym, ◌∙◌, ap}
use Rattle.std.specs.List.{Contains}
use Rattle.std.proofs.lemmas.List.{length-append}
use Rattle.repair_grammar.specs.Kept.{noted_at}
use Rattle.repair_grammar.specs.Pairs.{count_of, places_of}
use Rattle.repair_grammar.specs.Threads.{at, live, IsUnmarked}
use Rattle.repair_grammar.specs.Joins.{only_if, counts_left}
use Rattle.repair_grammar.specs.Runs.{ends_odd}
use Rattle.std.proofs.lemmas.Bool.{cases_Bool}
use Rattle.repair_grammar.proofs.CountLemmas.{times_of-some, times_of-own}
use Rattle.repair_grammar.proofs.ThreadLemmas.{after-place, gone_is, left_is}
use Rattle.repair_grammar.proofs.PairLemmas.{come_then, come_fewer}
use Rattle.repair_grammar.proofs.JoinLemmas.{run_after, came, went, went_counts, noted_once, times_le, some_counts, gone_left-plain, gone_right-plain, counted_around, passing_around, some_weaker, plain_is, counted_room}
use Rattle.repair_grammar.proofs.joining.join_at.Goals as goal
use Rattle.repair_grammar.proofs.joining.join_at.Goals.{In_ok-note_some-2, After-join_around}
use Rattle.repair_grammar.specs.declared.symbol_row.TheConstants.{GAP}

pub note_some-requires : goal.note_some-requires
note_some-requires c = record {
  room = rw c.plain_pair.ensures (some_weaker _ IsUnmarked (λ own. count_of c.args.pairs.now own + 1 < 4294967296)
      (λ own plain. omega (
        arith,
        counted_room c.args.row.now.symbols.items (count_of c.args.pairs.now)
            (places_of c.args.pairs.now) own c.requires.counted plain,
        c.requires.row.threads.few,
      ))
      (plain_is c.around-around.result.before c.args.symbol));
}

pub note_some-requires-2 : goal.note_some-requires-2
note_some-requires-2 c = record {
  room = rw c.plain_pair-2.ensures
      (some_weaker _ IsUnmarked (λ own. count_of c.note_some.new.pairs own + 1 < 4294967296)
      (λ own plain. omega (
        arith,
        c.in_ok-note_some.ensures.counts own,
        times_le (only_if c.counts_next-counts.result c.plain_pair.result) own,
        counted_room c.args.row.now.symbols.items (count_of c.args.pairs.now)
            (places_of c.args.pairs.now) own c.requires.counted plain,
        c.requires.row.threads.few,
      )) (plain_is c.args.symbol c.around-around.result.after));
}

fits : (c : In_ok-note_some-2) → c.args.symbol < GAP
fits c = omega (arith, c.requires.fits)

is_b : (c : In_ok-note_some-2) → at c.args.row.now.symbols.items c.around-around.result.gone ≡ c.args.pair.1
is_b c = ap (at c.args.row.now.symbols.items) (sym (gone_is c.args.row.now.symbols.items c.args.row.now.next.items
    c.args.row.now.previous.items c.args.place c.around-around.result.left c.around-around.result.gone
    c.around-around.result.right c.around-around.result.before c.around-around.result.after c.requires.row.threads
    c.around-around.ensures)) ∙ c.requires.right

before_at : (c : In_ok-note_some-2) → c.around-around.result.before
    ≡ at c.args.row.now.symbols.items (get_or c.args.row.now.previous.items c.args.place 0)
before_at c = sym c.around-around.ensures.before_is
    ∙ ap (at c.args.row.now.symbols.items) (sym (left_is c.args.row.now.symbols.items c.args.row.now.next.items
    c.args.row.now.previous.items c.args.place c.around-around.result.left c.around-around.result.gone
    c.around-around.result.right c.around-around.result.before c.around-around.result.after c.requires.row.threads
    c.around-around.ensures))

begins : (c : In_ok-note_some-2) → (c.args.pair.0 == c.args.pair.1) ≡ true →
    (c.around-around.result.before == c.args.pair.0) ≡ false
begins c same = ap (λ x. x == c.args.pair.0) (before_at c) ∙ c.requires.begins same

-- the run of the new symbol before the place
run : (c : In_ok-note_some-2) → (c.around-around.result.before == c.args.symbol) ≡ true →
    c.args.odd ≡ ends_odd c.args.symbol false (live (take c.args.place c.args.row.now.symbols.items))
run c is = c.requires.run (ap (λ x. x == c.args.symbol) (sym (before_at c)) ∙ is)

counts_are : (c : In_ok-note_some-2) → c.counts_next-counts.result ≡ counts_left (ends_odd c.args.symbol false
    (live (take c.args.place c.args.row.now.symbols.items))) c.around-around.result.before c.args.symbol
counts_are c = c.counts_next-counts.ensures ∙ elim (cases_Bool (c.around-around.result.before == c.args.symbol)) [
  | inl is ↦ rw is (run c is)
  | inr apart ↦ rw apart refl
]

new_a : (c : In_ok-note_some-2) → (c.args.symbol == c.args.pair.0) ≡ false
new_a c = ap (λ x. c.args.symbol == x) (sym c.requires.left) ∙ c.requires.new c.args.place (omega arith)

new_r : (c : In_ok-note_some-2) → (c.args.symbol == c.around-around.result.after) ≡ false
new_r c = ap (λ x. c.args.symbol == x) (sym c.around-around.ensures.after_is)
    ∙ c.requires.new c.around-around.result.right
    (omega (arith, c.around-around.ensures.near.before, c.around-around.ensures.next_near.before))

-- what comes is counted
total : (c : In_ok-note_some-2) (other : ℕ × ℕ) → count_of c.note_some-2.new.pairs other
    ≡ count_of c.args.pairs.now other + came c.args.row.now.symbols.items c.args.place c.around-around.result.left
    c.around-around.result.gone c.around-around.result.right c.around-around.result.before
    c.around-around.result.after c.args.symbol c.around-around.ensures (fits c) c.args.pair.0 c.args.pair.1
    c.requires.left (is_b c) other
total c other = omega (
  arith,
  rw (counts_are c, c.plain_pair.ensures) at (c.in_ok-note_some.ensures.counts other),
  rw c.plain_pair-2.ensures at (c.in_ok-note_some-2.ensures.counts other),
)

-- so what goes is there
enough : (c : In_ok-note_some-2) (other : ℕ × ℕ) → IsUnmarked other →
    went c.args.row.now.symbols.items c.args.place c.around-around.result.left
    c.around-around.result.gone c.around-around.result.right c.around-around.result.before
    c.around-around.result.after c.args.symbol c.around-around.ensures (fits c) c.args.pair.0 c.args.pair.1
    c.requires.left (is_b c) other
    ≤ count_of c.note_some-2.new.pairs other
enough c other plain = omega (
  arith,
  total c other,
  went_counts c.args.row.now.symbols.items c.args.place c.around-around.result.left
      c.around-around.result.gone c.around-around.result.right c.around-around.result.before
      c.around-around.result.after c.args.symbol c.around-around.ensures (fits c) c.args.pair.0 c.args.pair.1
      c.requires.left (is_b c) (count_of c.args.pairs.now) (places_of c.args.pairs.now)
      c.requires.counted (begins c) (new_a c) c.requires.other (new_r c) other plain,
)

pub lower-requires : goal.lower-requires
lower-requires c = let at_2 = (goal.at.lower-requires c).In_ok-note_some-2 in record {
  some = omega (arith, enough at_2 c.args.pair c.requires.plain, times_of-own c.args.pair);
}

pub lower_some-requires : goal.lower_some-requires
lower_some-requires c = let at_2 = (goal.at.lower_some-requires c).In_ok-note_some-2 in record {
  some = rw c.left_gone.ensures (some_counts _ (count_of c.lower.new.self)
      (gone_left-plain _ c.around-around.result.before c.args.pair.0 c.args.pair.1 c.requires.plain.0)
      (λ own plain. omega (arith, enough at_2 own plain, c.lower.ensures.counts own, times_of-some c.args.pair own)));
}

pub lower_some-requires-2 : goal.lower_some-requires-2
lower_some-requires-2 c = let at_2 = (goal.at.lower_some-requires-2 c).In_ok-note_some-2 in record {
  some = rw c.right_gone.ensures (some_counts _ (count_of c.lower_some.new.pairs)
      (gone_right-plain _ c.args.pair.0 c.args.pair.1 c.around-around.result.after c.requires.plain.1)
      (λ own plain. omega (
        arith,
        enough at_2 own plain,
        c.lower.ensures.counts own,
        times_of-some c.args.pair own,
        rw c.left_gone.ensures at (c.lower_some.ensures.counts own),
      )));
}

-- counts fall from one step to the next
fewer : (c : After-join_around) (own : ℕ × ℕ) →
    (count_of c.lower_some-2.new.pairs own ≤ count_of c.lower_some.new.pairs own)
    × (count_of c.lower_some.new.pairs own ≤ count_of c.lower.new.self own)
    × (count_of c.lower.new.self own ≤ count_of c.note_some-2.new.pairs own)
fewer c own = (
  omega (arith, c.lower_some-2.ensures.counts own),
  omega (arith, c.lower_some.ensures.counts own),
  omega (arith, c.lower.ensures.counts own),
)

-- places that were noted stay
later : (c : After-join_around) (own : ℕ × ℕ) (k : ℕ) → 0 < count_of c.lower_some-2.new.pairs own →
    Contains (places_of c.note_some-2.new.pairs own) k → Contains (places_of c.lower_some-2.new.pairs own) k
later c own k some inside =
    let less = fewer c own in
    let one : 0 < count_of c.lower_some.new.pairs own = omega (arith, some, less.0) in
    let two : 0 < count_of c.lower.new.self own = omega (arith, one, less.1) in
    rw (c.lower_some-2.ensures.places own some, c.lower_some.ensures.places own one, c.lower.ensures.places own two)
    inside

pub returns-clause-counted : goal.returns-clause-counted
returns-clause-counted c = let at_2 = (goal.at.returns-clause-counted c).In_ok-note_some-2 in
    let at_3 = (goal.at.returns-clause-counted c).After-join_around in
    rw c.join_around.ensures.symbols (counted_around c.args.row.now.symbols.items c.args.place c.around-around.result.left
    c.around-around.result.gone c.around-around.result.right c.around-around.result.before
    c.around-around.result.after c.args.symbol c.around-around.ensures (fits at_2) c.args.pair.0 c.args.pair.1
    c.requires.left (is_b at_2) c.args.row.now.next.items c.args.row.now.previous.items
    (count_of c.args.pairs.now) (count_of c.lower_some-2.new.pairs)
    (places_of c.args.pairs.now) (places_of c.lower_some-2.new.pairs) c.requires.row.threads
    c.requires.row.ends c.requires.fits c.requires.plain.0 c.requires.plain.1 c.requires.counted (begins at_2)
    (new_a at_2) c.requires.other (new_r at_2)
    (λ other. omega (
      arith,
      total at_2 other,
      c.lower.ensures.counts other,
      times_of-some c.args.pair other,
      rw c.left_gone.ensures at (c.lower_some.ensures.counts other),
      rw c.right_gone.ensures at (c.lower_some-2.ensures.counts other),
    ))
    (λ other k some inside. later at_3 other k some
    (c.in_ok-note_some-2.ensures.kept other k (c.in_ok-note_some.ensures.kept other k inside)))
    (some_weaker _ _
    (λ own. 0 < count_of c.lower_some-2.new.pairs own → Contains (places_of c.lower_some-2.new.pairs own) c.args.place)
    (λ own inside some. later at_3 own c.args.place some inside)
    (rw c.plain_pair-2.ensures at c.in_ok-note_some-2.ensures.noted))
    (some_weaker _ _ (λ own. 0 < count_of c.lower_some-2.new.pairs own →
    Contains (places_of c.lower_some-2.new.pairs own) c.around-around.result.left)
    (λ own inside some. later at_3 own c.around-around.result.left some
    (c.in_ok-note_some-2.ensures.kept own c.around-around.result.left inside))
    (rw c.plain_pair.ensures at c.in_ok-note_some.ensures.noted)))

pub returns-clause-passing : goal.returns-clause-passing
returns-clause-passing c = let at_2 = (goal.at.returns-clause-passing c).In_ok-note_some-2 in
    λ first places q passing order. rw c.join_around.ensures.symbols
    (passing_around c.args.row.now.symbols.items c.args.place c.around-around.result.left
    c.around-around.result.gone c.around-around.result.right c.around-around.result.before
    c.around-around.result.after c.args.symbol c.around-around.ensures (fits at_2) c.args.pair.0 c.args.pair.1
    c.requires.left (is_b at_2) c.args.row.now.next.items c.args.row.now.previous.items
    c.requires.row.threads c.requires.row.ends c.requires.fits c.requires.plain.0 c.requires.plain.1 (begins at_2)
    (new_a at_2) c.requires.other (new_r at_2) first places q passing order)

pub returns-clause-come : goal.returns-clause-come
returns-clause-come c = let at_3 = (goal.at.returns-clause-come c).After-join_around in
    come_then _ _ _ (come_then _ _ _ c.in_ok-note_some.ensures.come c.in_ok-note_some-2.ensures.come)
    (come_fewer c.note_some-2.new.pairs c.lower_some-2.new.pairs
    (c.lower_some-2.ensures.fresh ∙ c.lower_some.ensures.fresh ∙ c.lower.ensures.fresh)
    (λ own. let less = fewer at_3 own in omega (arith, less.0, less.1, less.2)))

pub returns-clause-place : goal.returns-clause-place
returns-clause-place c = let at_2 = (goal.at.returns-clause-place c).In_ok-note_some-2 in
    rw c.join_around.ensures.symbols (after-place c.args.row.now.symbols.items c.args.place c.around-around.result.gone
    c.around-around.result.right c.args.symbol c.around-around.ensures.near c.around-around.ensures.next_near
    (fits at_2))

pub returns-clause-run : goal.returns-clause-run
returns-clause-run c = let at_2 = (goal.at.returns-clause-run c).In_ok-note_some-2 in
    rw c.join_around.ensures.symbols (c.counts_next.ensures ∙ run_after c.args.row.now.symbols.items c.args.place
    c.around-around.result.left c.around-around.result.gone c.around-around.result.right c.around-around.result.before
    c.around-around.result.after c.args.symbol c.around-around.ensures (fits at_2) c.args.pair.0 c.args.pair.1
    c.requires.left (is_b at_2) c.args.odd (run at_2))

pub returns-clause-few : goal.returns-clause-few
returns-clause-few c = let at_2 = (goal.at.returns-clause-few c).In_ok-note_some-2 in λ other.
    let first = c.in_ok-note_some.ensures.places other in
    let second = c.in_ok-note_some-2.ensures.places other in
    let left : List ℕ = noted_at c.plain_pair.result c.around-around.result.left other in
    let right : List ℕ = noted_at c.plain_pair-2.result c.args.place other in
    omega (
      arith,
      ap length first,
      length-append (places_of c.args.pairs.now other) left,
      ap length second,
      length-append (places_of c.note_some.new.pairs other) right,
      rw (sym c.plain_pair.ensures, sym c.plain_pair-2.ensures) at
          (noted_once c.around-around.result.before c.args.symbol c.around-around.result.after c.around-around.result.left
          c.args.place other (new_r at_2)),
      c.lower.ensures.few other,
      c.lower_some.ensures.few other,
      c.lower_some-2.ensures.few other,
    )
