use Rattle.std.proofs.Common.{◌≡◌, ℕ, ◌+◌, ◌<◌, ◌≤◌, ◌==◌, not, ◌&&◌, List, [], ◌∷◌, length, get_or, drop, arith, add-one, inl, inr, ◌∙◌, ap}
use Rattle.std.proofs.lemmas.Bool.{cases_lt}
use Rattle.std.proofs.lemmas.List.{drop_all, get_or_default, nil_from_length}
use Rattle.repair_grammar.specs.RePair.{replacement_count}
use Rattle.repair_grammar.specs.Counts.{met_after}
use Rattle.repair_grammar.specs.Pairs.{count_of, places_of}
use Rattle.repair_grammar.specs.Threads.{at, IsUnmarked}
use Rattle.repair_grammar.proofs.PassLemmas.{replacement_count-le, met_after-fresh, met_after-single}
use Rattle.repair_grammar.proofs.CountedLemmas.{stands-inside}
use Rattle.repair_grammar.proofs.JoinLemmas.{counted_plain, some_weaker, plain_is, first_step, first_noted, live-all}
use Rattle.repair_grammar.proofs.tallying.count_row.Goals as goal
use Rattle.repair_grammar.specs.declared.symbol_row.TheConstants.{GAP}

pub returns-in_default : goal.returns-in_default
returns-in_default c = absurd (let empty : c.args.row.now ≡ [] = nil_from_length _ c.in_default.ensures.cases in
    omega (arith, c.requires.ends.some, ap length empty))

pub symbols-init : goal.symbols-init
symbols-init c =
    let whole : c.args.row.now ≡ c.in-Some.first.now ∷ c.in-Some.rest.now = c.in-Some.ensures.cases.0 in
    record {
      left = ap (λ row. at row 0) whole;
      counts = λ pair plain. omega (
        arith,
        c.new-pairs.ensures pair,
        met_after-fresh pair (c.in-Some.first.now ∷ c.in-Some.rest.now),
        ap (replacement_count pair) whole,
      );
      noted = λ pair k plain below stands. absurd (omega (arith, below));
      plain = λ pair some. absurd (omega (arith, some, c.new-pairs.ensures pair));
      fresh = λ pair some. absurd (omega (arith, some, c.new-pairs.ensures pair));
    }

pub note_some-requires : goal.note_some-requires
note_some-requires c = record {
  room = rw c.plain_pair.ensures (some_weaker _ IsUnmarked (λ own. count_of c.symbols.pairs own + 1 < 4294967296)
      (λ own plain. omega (
        arith,
        c.symbols.invariant.counts own plain,
        replacement_count-le own c.args.row.now,
        c.requires.few,
      )) (plain_is c.symbols.left (get_or c.in-Some.rest.now c.symbols.place 0)));
}

pub symbols-preserved : goal.symbols-preserved
symbols-preserved c =
    let whole : c.args.row.now ≡ c.in-Some.first.now ∷ c.in-Some.rest.now = c.in-Some.ensures.cases.0 in
    let rest : List ℕ = c.in-Some.rest.now in
    let i : ℕ = c.symbols.place in
    let right : ℕ = get_or rest i 0 in
    let within : i < length rest = c.symbols-test.true in
    let next : at c.args.row.now (i + 1) ≡ right = ap (λ row. at row (i + 1)) whole
    ∙ rw add-one (get_or_default rest i GAP 0 within) in
    let long : i + 1 < length c.args.row.now = omega (arith, within, ap length whole) in
    record {
      left = next;
      counts = λ pair plain. omega (
        arith,
        rw c.plain_pair.ensures at (c.in_ok-note_some.ensures.counts pair),
        c.symbols.invariant.counts pair plain,
        first_step c.symbols.taken pair c.symbols.left rest i within plain,
      );
      noted = first_noted c.args.row.now (places_of c.symbols.pairs) (places_of c.note_some.new.pairs) i
          c.symbols.left right c.requires.words long c.symbols.invariant.left next
          (λ pair k inside. c.in_ok-note_some.ensures.kept pair k inside)
          (rw c.plain_pair.ensures at c.in_ok-note_some.ensures.noted) c.symbols.invariant.noted;
      plain = λ pair some. elim (cases_lt 0 (count_of c.symbols.pairs pair)) [
        | inl before ↦ c.symbols.invariant.plain pair before
        | inr none ↦ counted_plain (not (c.symbols.taken && (c.symbols.left == right))) c.symbols.left right pair
            (omega (arith, some, none, rw c.plain_pair.ensures at (c.in_ok-note_some.ensures.counts pair)))
      ];
      fresh = λ pair some. elim (c.in_ok-note_some.ensures.come.came pair some) [
        | inl before ↦ c.in_ok-note_some.ensures.come.kept pair (c.symbols.invariant.fresh pair before)
        | inr inside ↦ inside
      ];
    }

pub returns : goal.returns
returns c =
    let whole : c.args.row.now ≡ c.in-Some.first.now ∷ c.in-Some.rest.now = c.in-Some.ensures.cases.0 in
    let past : length c.in-Some.rest.now ≤ c.symbols.place = c.symbols-test.false in
    let none : drop c.symbols.place c.in-Some.rest.now ≡ [] = drop_all c.symbols.place c.in-Some.rest.now past in
    record {
      counted = record {
        counts = λ pair plain. omega (
          arith,
          c.symbols.invariant.counts pair plain,
          ap (λ later. met_after c.symbols.taken pair (c.symbols.left ∷ later)) none,
          met_after-single c.symbols.taken pair c.symbols.left,
          ap (replacement_count pair) (live-all c.args.row.now c.requires.words),
        );
        noted = λ pair k plain stands. c.symbols.invariant.noted pair k plain
            (omega (arith, stands-inside c.args.row.now pair k c.requires.ends plain.0 stands, past, ap length whole))
            stands;
        plain = c.symbols.invariant.plain;
      };
      fresh = c.symbols.invariant.fresh;
    }
