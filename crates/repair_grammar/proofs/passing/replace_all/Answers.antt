use Rattle.std.proofs.Common.{◌≡◌, ℕ, ◌+◌, ◌<◌, ◌≤◌, true, false, length, List, ◌∷◌, get_or, drop, arith, add-one, refl, ◌∙◌}
use Rattle.std.specs.List.{Contains}
use Rattle.std.proofs.lemmas.Bool.{eq-eqb}
use Rattle.std.proofs.lemmas.List.{drop_all}
use Rattle.std.proofs.Math.Seq.{drop-cons}
use Rattle.repair_grammar.specs.Threads.{at, stands_at, IsPassing}
use Rattle.repair_grammar.proofs.ThreadLemmas.{not_first, not_last}
use Rattle.repair_grammar.proofs.CountedLemmas.{passing-start, passing-skip, passing-end, passing-begins, order_left, stands-here, run-before, run-start, run-joined}
use Rattle.repair_grammar.proofs.PairLemmas.{come_none, come_then}
use Rattle.repair_grammar.proofs.passing.replace_all.Goals as goal
use Rattle.repair_grammar.proofs.passing.replace_all.Goals.{After-stands}

pub places-init : goal.places-init
places-init c = record {
  done = 0;
  row = c.requires.row;
  counted = c.requires.counted;
  passing = passing-start c.args.row.now.symbols.items c.args.pair c.args.symbol c.args.places.now c.requires.new
      c.requires.noted;
  run = run-start c.args.row.now.symbols.items c.args.symbol false;
  come = come_none c.args.pairs.now;
}

-- the places that are left, one by one
passing : (c : After-stands) → IsPassing c.args.row.now.symbols.items c.places.row.symbols.items c.args.pair
    c.args.symbol (get_or c.args.places.now c.places.place-index 0 ∷ drop (c.places.place-index + 1) c.args.places.now)
    c.places.invariant.done
passing c = let split : drop c.places.place-index c.args.places.now
    ≡ get_or c.args.places.now c.places.place-index 0 ∷ drop (c.places.place-index + 1) c.args.places.now =
    rw add-one (drop-cons c.args.places.now c.places.place-index 0 c.places-test.true) in
    rw split at c.places.invariant.passing

order : (c : After-stands) (k : ℕ) → Contains (drop (c.places.place-index + 1) c.args.places.now) k →
    get_or c.args.places.now c.places.place-index 0 ≤ k
order c k inside = order_left c.args.places.now c.places.place-index c.requires.order c.places-test.true k inside

pub join_at-requires-clause-begins : goal.join_at-requires-clause-begins
join_at-requires-clause-begins c = let o = (goal.at.join_at-requires-clause-begins c).After-stands in
    let is = c.if-not-stands.ensures.yes refl in
    let symbols : List ℕ = c.places.row.symbols.items in
    let place : ℕ = get_or c.args.places.now c.places.place-index 0 in
    λ same. passing-begins c.args.row.now.symbols.items symbols c.args.pair c.args.symbol place _ _ _ (passing o)
    (order o)
    (c.places.invariant.row.threads.back place
    (not_first symbols place c.places.invariant.row.ends (omega (arith, is.1, c.requires.plain.0))) is.0
    (omega (arith, is.1, c.requires.plain.0))) is.1 same

-- the pair stands at the place
pair_here : (c : After-stands) (place : ℕ) → (place < length c.places.row.symbols.items)
    × (at c.places.row.symbols.items place ≡ c.args.pair.0)
    × (at c.places.row.symbols.items (get_or c.places.row.next.items place 0) ≡ c.args.pair.1) →
    stands_at c.places.row.symbols.items c.args.pair place ≡ true
pair_here c place is =
    let symbols : List ℕ = c.places.row.symbols.items in
    stands-here symbols c.places.row.next.items c.places.row.previous.items c.args.pair place
    c.places.invariant.row.threads (not_last symbols place c.places.invariant.row.ends is.0
    (omega (arith, is.1, c.requires.plain.0))) (omega (arith, is.1, c.requires.plain.0))
    ∙ rw (
      eq-eqb (at symbols place) c.args.pair.0 is.1,
      eq-eqb (at symbols (get_or c.places.row.next.items place 0)) c.args.pair.1 is.2,
    ) refl

pub join_at-requires-clause-new : goal.join_at-requires-clause-new
join_at-requires-clause-new c = let o = (goal.at.join_at-requires-clause-new c).After-stands in
    let place : ℕ = get_or c.args.places.now c.places.place-index 0 in
    let from = (passing o).ahead place (pair_here o place (c.if-not-stands.ensures.yes refl)) in
    λ k above. (passing o).new k (omega (arith, above, from.0))

pub join_at-requires-clause-run : goal.join_at-requires-clause-run
join_at-requires-clause-run c = let o = (goal.at.join_at-requires-clause-run c).After-stands in
    let is = c.if-not-stands.ensures.yes refl in
    let symbols : List ℕ = c.places.row.symbols.items in
    let place : ℕ = get_or c.args.places.now c.places.place-index 0 in
    λ same. run-before c.args.row.now.symbols.items symbols c.args.pair c.args.symbol place _ _
    c.places.invariant.done c.places.odd (passing o) (pair_here o place is)
    (c.places.invariant.row.threads.back place
    (not_first symbols place c.places.invariant.row.ends (omega (arith, is.1, c.requires.plain.0))) is.0
    (omega (arith, is.1, c.requires.plain.0))) (omega (arith, c.requires.fits)) c.places.invariant.run same

pub places-preserved : goal.places-preserved
places-preserved c = let o = (goal.at.places-preserved c).After-stands in record {
  done = get_or c.args.places.now c.places.place-index 0 + 1;
  row = c.in_ok-odd.ensures.row;
  counted = c.in_ok-odd.ensures.counted;
  passing = c.in_ok-odd.ensures.passing c.args.row.now.symbols.items
      (drop (c.places.place-index + 1) c.args.places.now) c.places.invariant.done (passing o) (order o);
  run = run-joined c.join_at.new.row.symbols.items c.args.symbol (get_or c.args.places.now c.places.place-index 0)
      _ c.in_ok-odd.ensures.place c.in_ok-odd.ensures.run;
  come = come_then c.args.pairs.now c.places.pairs c.join_at.new.pairs c.places.invariant.come
      c.in_ok-odd.ensures.come;
}

pub places-preserved-then-not-stands : goal.places-preserved-then-not-stands
places-preserved-then-not-stands c = let o = (goal.at.places-preserved-then-not-stands c).After-stands in record {
  done = c.places.invariant.done;
  row = c.places.invariant.row;
  counted = c.places.invariant.counted;
  passing = passing-skip c.args.row.now.symbols.items c.places.row.symbols.items c.args.pair c.args.symbol
      (get_or c.args.places.now c.places.place-index 0) (drop (c.places.place-index + 1) c.args.places.now)
      c.places.invariant.done (passing o) (c.stands.ensures.no c.if-not-stands.true);
  run = c.places.invariant.run;
  come = c.places.invariant.come;
}

pub returns-clause-all : goal.returns-clause-all
returns-clause-all c = passing-end c.args.row.now.symbols.items c.places.row.symbols.items c.args.pair c.args.symbol
    c.places.invariant.done (rw (drop_all c.places.place-index c.args.places.now c.places-test.false)
    at c.places.invariant.passing)
