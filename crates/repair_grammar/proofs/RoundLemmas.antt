-- Rounds: each takes two symbols away, so that there are no more rounds than symbols.
use Rattle.std.proofs.Common.{◌≡◌, ℕ, zero, suc, ◌+◌, ◌≤◌, List, [], ◌∷◌, ◌++◌, length, map, Option, Some, None, refl, sym, ◌∙◌, arith}
use Rattle.std.specs.List.{sum_by}
use Rattle.std.proofs.lemmas.List.{length-append}
use Rattle.std.proofs.lemmas.List.Sums.{sum_by-cons}
use Rattle.std.proofs.lemmas.Bool.Decides.{nat_tests}
use Rattle.repair_grammar.specs.declared.grammar.Grammar.{Grammar}
use Rattle.repair_grammar.specs.declared.key.Key.{Key}
use Rattle.repair_grammar.specs.RePair.{replacement_count, block_after_pass, pair_count, key_of, keys_of, first_key, after_round, rounds, re_pair}
use Rattle.repair_grammar.specs.Counts.{IsFirst, AllBelowTwo}
use Rattle.repair_grammar.proofs.PassLemmas.{length-block_after_pass}
use Rattle.repair_grammar.proofs.KeyLemmas.{key_taken, no_key, taken_is}
use Rattle.repair_grammar.proofs.FirstLemmas.{none_counts_two}

-- how many symbols the passes leave
pub symbols-block_after_pass : (pair : ℕ × ℕ) (symbol : ℕ) (blocks : List (List ℕ)) →
    sum_by length (map (block_after_pass pair symbol) blocks) + sum_by (replacement_count pair) blocks ≡ sum_by length blocks
symbols-block_after_pass pair symbol [] = refl
symbols-block_after_pass pair symbol (block ∷ blocks) =
    search (arith, symbols-block_after_pass pair symbol blocks, length-block_after_pass, sum_by-cons)

-- a round takes two symbols away
pub round_shorter : (alphabet : ℕ) (grammar : Grammar) (key : Key) → first_key (keys_of grammar.blocks) ≡ Some key →
    2 + sum_by length (after_round alphabet grammar key.pair).blocks ≤ sum_by length grammar.blocks
unfolding after_round pair_count
round_shorter alphabet grammar key taken = let known = taken_is grammar.blocks key taken in
    omega (arith, symbols-block_after_pass key.pair (alphabet + length grammar.rules) grammar.blocks, known.count, known.two)

-- a round more, or none
pub rounds-some : (more alphabet : ℕ) (grammar : Grammar) (key : Key) → first_key (keys_of grammar.blocks) ≡ Some key →
    rounds (suc more) alphabet grammar ≡ rounds more alphabet (after_round alphabet grammar key.pair)
unfolding rounds
rounds-some more alphabet grammar key taken = rw (taken, rounds) refl

pub rounds-none : (more alphabet : ℕ) (grammar : Grammar) → first_key (keys_of grammar.blocks) ≡ None →
    rounds more alphabet grammar ≡ grammar
unfolding rounds
rounds-none zero alphabet grammar none = refl
rounds-none (suc more) alphabet grammar none = rw (none, rounds) refl

-- without two symbols there is no round
no_round : (alphabet : ℕ) (grammar : Grammar) → sum_by length grammar.blocks ≤ 1 → (next : Option Key) →
    first_key (keys_of grammar.blocks) ≡ next → first_key (keys_of grammar.blocks) ≡ None
no_round alphabet grammar few None is = is
no_round alphabet grammar few (Some key) is = absurd (omega (arith, round_shorter alphabet grammar key is))

-- as many rounds as symbols are enough, so that more leave the same
enough_more : (few many alphabet : ℕ) (grammar : Grammar) (next : Option Key) → first_key (keys_of grammar.blocks)
    ≡ next →
    ((key : Key) → first_key (keys_of grammar.blocks) ≡ Some key →
    rounds few alphabet (after_round alphabet grammar key.pair)
    ≡ rounds many alphabet (after_round alphabet grammar key.pair)) →
    rounds (suc few) alphabet grammar ≡ rounds (suc many) alphabet grammar
enough_more few many alphabet grammar None is later =
    rounds-none (suc few) alphabet grammar is ∙ sym (rounds-none (suc many) alphabet grammar is)
enough_more few many alphabet grammar (Some key) is later =
    rounds-some few alphabet grammar key is ∙ later key is ∙ sym (rounds-some many alphabet grammar key is)

pub rounds-enough : (few many alphabet : ℕ) (grammar : Grammar) → sum_by length grammar.blocks ≤ few →
    sum_by length grammar.blocks ≤ many → rounds few alphabet grammar ≡ rounds many alphabet grammar
rounds-enough zero many alphabet grammar low high =
    let none = no_round alphabet grammar (omega arith) (first_key (keys_of grammar.blocks)) refl in
    rounds-none zero alphabet grammar none ∙ sym (rounds-none many alphabet grammar none)
rounds-enough (suc few) zero alphabet grammar low high =
    let none = no_round alphabet grammar (omega arith) (first_key (keys_of grammar.blocks)) refl in
    rounds-none (suc few) alphabet grammar none ∙ sym (rounds-none zero alphabet grammar none)
rounds-enough (suc few) (suc many) alphabet grammar low high =
    enough_more few many alphabet grammar (first_key (keys_of grammar.blocks)) refl (λ key taken.
    let fewer = round_shorter alphabet grammar key taken in
    rounds-enough few many alphabet (after_round alphabet grammar key.pair) (omega (arith, fewer)) (omega (
      arith,
      fewer,
    )))

-- after as many rounds as symbols, no key is left to be taken
ended_by : (more alphabet : ℕ) (grammar : Grammar) (next : Option Key) → first_key (keys_of grammar.blocks) ≡ next →
    ((key : Key) → first_key (keys_of grammar.blocks) ≡ Some key →
    first_key (keys_of (rounds more alphabet (after_round alphabet grammar key.pair)).blocks) ≡ None) →
    first_key (keys_of (rounds (suc more) alphabet grammar).blocks) ≡ None
ended_by more alphabet grammar None is later = rw (rounds-none (suc more) alphabet grammar is) is
ended_by more alphabet grammar (Some key) is later = rw (rounds-some more alphabet grammar key is) (later key is)

pub rounds-ended : (more alphabet : ℕ) (grammar : Grammar) → sum_by length grammar.blocks ≤ more →
    first_key (keys_of (rounds more alphabet grammar).blocks) ≡ None
rounds-ended zero alphabet grammar few =
    let none = no_round alphabet grammar (omega arith) (first_key (keys_of grammar.blocks)) refl in
    rw (rounds-none zero alphabet grammar none) none
rounds-ended (suc more) alphabet grammar few =
    ended_by more alphabet grammar (first_key (keys_of grammar.blocks)) refl (λ key taken.
    rounds-ended more alphabet (after_round alphabet grammar key.pair) (omega (
      arith,
      round_shorter alphabet grammar key taken,
    )))

-- a round, and the rounds that are left after it
pub rounds-step : (alphabet : ℕ) (grammar : Grammar) (pair : ℕ × ℕ) → IsFirst (pair_count grammar.blocks) pair →
    rounds (sum_by length grammar.blocks) alphabet grammar
    ≡ rounds (sum_by length (after_round alphabet grammar pair).blocks) alphabet (after_round alphabet grammar pair)
rounds-step alphabet grammar pair first =
    let taken = key_taken grammar.blocks pair first in
    let fewer = round_shorter alphabet grammar (key_of grammar.blocks pair) taken in
    rounds-enough (sum_by length grammar.blocks) (suc (sum_by length grammar.blocks)) alphabet grammar (omega arith)
    (omega arith)
    ∙ rounds-some (sum_by length grammar.blocks) alphabet grammar (key_of grammar.blocks pair) taken
    ∙ rounds-enough (sum_by length grammar.blocks) (sum_by length (after_round alphabet grammar pair).blocks) alphabet
    (after_round alphabet grammar pair) (omega (arith, fewer)) (omega arith)

-- no round is left where no pair counts two
pub rounds-end : (more alphabet : ℕ) (grammar : Grammar) → AllBelowTwo (pair_count grammar.blocks) →
    rounds more alphabet grammar ≡ grammar
rounds-end more alphabet grammar small = rounds-none more alphabet grammar (no_key grammar.blocks small)

-- the same counts have the same first pair
pub first_same : (count other_count : ℕ × ℕ → ℕ) → ((pair : ℕ × ℕ) → count pair ≡ other_count pair) → (pair : ℕ × ℕ) →
    IsFirst count pair → IsFirst other_count pair
first_same count other_count same pair first = grind (arith, nat_tests)

-- what is kept after a round
pub record IsNext (alphabet : ℕ) (rules : List (ℕ × ℕ)) (blocks : List (List ℕ)) (more_rules : List (ℕ
    × ℕ)) (next : List (List ℕ)) : Type 0 where
  pub rules_are : length more_rules ≡ length rules + 1
  pub fewer : 2 + sum_by length next ≤ sum_by length blocks
  pub left : rounds (sum_by length next) alphabet (record { rules = more_rules; blocks = next })
      ≡ rounds (sum_by length blocks) alphabet (record { rules = rules; blocks = blocks })

pub next_is : (alphabet : ℕ) (rules : List (ℕ × ℕ)) (blocks : List (List ℕ)) (pair : ℕ × ℕ) →
    IsFirst (pair_count blocks) pair →
    IsNext alphabet rules blocks (rules ++ pair ∷ []) (map (block_after_pass pair (alphabet + length rules)) blocks)
unfolding after_round
next_is alphabet rules blocks pair first =
    let grammar : Grammar = record { rules = rules; blocks = blocks } in
    record {
      rules_are = length-append rules (pair ∷ []);
      fewer = round_shorter alphabet grammar (key_of blocks pair) (key_taken blocks pair first);
      left = sym (rounds-step alphabet grammar pair first);
    }

-- no round to begin with
pub re_pair-is : (alphabet : ℕ) (blocks : List (List ℕ)) →
    re_pair alphabet blocks ≡ rounds (sum_by length blocks) alphabet (record { rules = []; blocks = blocks })
unfolding re_pair
re_pair-is alphabet blocks = refl

-- afterwards no pair counts two
pub re_pair-done : (alphabet : ℕ) (blocks : List (List ℕ)) → AllBelowTwo (pair_count (re_pair alphabet blocks).blocks)
unfolding re_pair
re_pair-done alphabet blocks = none_counts_two (re_pair alphabet blocks).blocks
    (rounds-ended (sum_by length blocks) alphabet (record { rules = []; blocks = blocks }) (omega arith))
