-- Each round keeps what holds of a grammar of blocks, and so do all rounds.
use Rattle.std.proofs.Common.{◌≡◌, ◌⊎◌, ℕ, zero, suc, ◌+◌, ◌<◌, ◌==◌, Bool, true, false, ◌||◌, List, [], ◌∷◌, ◌++◌, length, get_or, map, Option, Some, None, refl, ◌∙◌, arith, inl, inr, add-zero}
use Rattle.std.specs.List.{sum_by, list_any}
use Rattle.std.proofs.lemmas.Bool.{cases_lt, or_cases, or_left, or_right, eq-eqb}
use Rattle.std.proofs.lemmas.List.{length-append, length-map}
use Rattle.std.proofs.lemmas.List.Folds.{list_any-append}
use Rattle.std.proofs.Math.ListN.{get_or-append, get_or-map}
use Rattle.std.proofs.Math.Seq.{get_or-append_seam}
use Rattle.std.proofs.lemmas.Bool.Decides.{nat_tests}
use Rattle.repair_grammar.specs.declared.grammar.Grammar.{Grammar}
use Rattle.repair_grammar.specs.declared.key.Key.{Key}
use Rattle.repair_grammar.specs.RePair.{replacement_count, block_after_pass, pair_count, keys_of, first_key, after_round, rounds, re_pair, AreBelow}
use Rattle.repair_grammar.specs.GrammarOf.{IsGrammarOf, is_used}
use Rattle.repair_grammar.proofs.PassLemmas.{length-block_after_pass}
use Rattle.repair_grammar.proofs.KeyLemmas.{IsTaken, taken_is}
use Rattle.repair_grammar.proofs.RoundLemmas.{round_shorter, rounds-some, rounds-none}
use Rattle.repair_grammar.proofs.ExpansionLemmas.{expanded-round, expanded-none, all_below-block_after_pass, parts_below}
use Rattle.repair_grammar.proofs.UseLemmas.{has, any_has-block_after_pass, any_has_new}

-- what each round keeps, all rounds keep
module _ (alphabet : ℕ) (P : Grammar → Type 0)
    (keeps : (grammar : Grammar) (key : Key) → first_key (keys_of grammar.blocks) ≡ Some key → P grammar →
    P (after_round alphabet grammar key.pair)) where
  kept_by : (more : ℕ) (grammar : Grammar) → ((next : Grammar) → P next → P (rounds more alphabet next)) → P grammar →
      (next : Option Key) → first_key (keys_of grammar.blocks) ≡ next → P (rounds (suc more) alphabet grammar)
  kept_by more grammar later holds None is = rw (rounds-none (suc more) alphabet grammar is) holds
  kept_by more grammar later holds (Some key) is =
      rw (rounds-some more alphabet grammar key is) (later (after_round alphabet grammar key.pair)
      (keeps grammar key is holds))

  pub rounds-keep : (more : ℕ) (grammar : Grammar) → P grammar → P (rounds more alphabet grammar)
  rounds-keep zero grammar holds = unfold rounds in holds
  rounds-keep (suc more) grammar holds =
      kept_by more grammar (λ next. rounds-keep more next) holds (first_key (keys_of grammar.blocks)) refl

-- a part of a rule
abbrev part_of : ℕ → ℕ × ℕ → Bool
part_of symbol rule = rule.0 == symbol || rule.1 == symbol

is_part : (symbol : ℕ) (pair : ℕ × ℕ) → (pair.0 ≡ symbol) ⊎ (pair.1 ≡ symbol) → part_of symbol pair ≡ true
is_part symbol pair (inl left) = or_left (pair.0 == symbol) (pair.1 == symbol) (eq-eqb pair.0 symbol left)
is_part symbol pair (inr right) = or_right (pair.0 == symbol) (pair.1 == symbol) (eq-eqb pair.1 symbol right)

-- one block after the pass
block_replaced : (pair : ℕ × ℕ) (symbol : ℕ) (blocks : List (List ℕ)) (i : ℕ) →
    get_or (map (block_after_pass pair symbol) blocks) i [] ≡ block_after_pass pair symbol (get_or blocks i [])
unfolding block_after_pass
block_replaced pair symbol blocks i = get_or-map (block_after_pass pair symbol) blocks i []

module _ (alphabet : ℕ) (rules : List (ℕ × ℕ)) (blocks : List (List ℕ)) (pair : ℕ × ℕ) where
  -- the rules, and one more
  old_rule : (rule : ℕ) → rule < length rules → get_or (rules ++ pair ∷ []) rule (0, 0) ≡ get_or rules rule (0, 0)
  old_rule rule within = get_or-append rules (pair ∷ []) (0, 0) rule within

  new_rule : get_or (rules ++ pair ∷ []) (length rules) (0, 0) ≡ pair
  new_rule = get_or-append_seam rules pair [] (0, 0)

  -- a symbol that was used is used
  still_used : (symbol : ℕ) → is_used (record { rules = rules; blocks = blocks }) symbol ≡ true →
      is_used (after_round alphabet (record { rules = rules; blocks = blocks }) pair) symbol ≡ true
  unfolding is_used after_round
  still_used symbol used =
      let blocks_use : Bool = list_any (has symbol) (map (block_after_pass pair (alphabet + length rules)) blocks) in
      elim (or_cases (list_any (has symbol) blocks) (list_any (part_of symbol) rules) used) [
        | inl stands ↦ elim (any_has-block_after_pass pair (alphabet + length rules) symbol blocks stands) [
          | inl still ↦ or_left blocks_use _ still
          | inr part ↦ or_right blocks_use _ (rw (list_any-append (part_of symbol) rules (pair ∷ []))
              (or_right (list_any (part_of symbol) rules) _ (or_left (part_of symbol pair) false
              (is_part symbol pair part))))
        ]
        | inr rule ↦ or_right blocks_use _ (rw (list_any-append (part_of symbol) rules (pair ∷ []))
            (or_left (list_any (part_of symbol) rules) _ rule))
      ]

  -- the new one is used
  new_used : 0 < sum_by (replacement_count pair) blocks →
      is_used (after_round alphabet (record { rules = rules; blocks = blocks }) pair) (alphabet + length rules) ≡ true
  unfolding is_used after_round
  new_used some = or_left _ _ (any_has_new pair (alphabet + length rules) blocks some)

-- a round keeps it
pub round_sound : (alphabet : ℕ) (blocks : List (List ℕ)) (grammar : Grammar) (key : Key) →
    first_key (keys_of grammar.blocks) ≡ Some key → IsGrammarOf alphabet blocks grammar →
    IsGrammarOf alphabet blocks (after_round alphabet grammar key.pair)
unfolding after_round pair_count
round_sound alphabet blocks grammar key taken sound =
    let pair : ℕ × ℕ = key.pair in
    let symbol : ℕ = alphabet + length grammar.rules in
    let more_rules : alphabet + length (grammar.rules ++ pair ∷ []) ≡ symbol + 1 =
    omega (arith, length-append grammar.rules (pair ∷ [])) in
    let known : IsTaken grammar.blocks key = taken_is grammar.blocks key taken in
    record {
      expands = expanded-round alphabet grammar.rules pair grammar.blocks sound.below ∙ sound.expands;
      below = rw more_rules (all_below-block_after_pass pair symbol grammar.blocks sound.below);
      parts = λ rule within. elim (cases_lt rule (length grammar.rules)) [
        | inl old ↦ rw (old_rule alphabet grammar.rules grammar.blocks pair rule old) (sound.parts rule old)
        | inr last ↦ let at : rule ≡ length grammar.rules =
            omega (arith, within, length-append grammar.rules (pair ∷ [])) in
            rw (at, new_rule alphabet grammar.rules grammar.blocks pair)
            (parts_below symbol grammar.blocks pair sound.below known.stands)
      ];
      used = λ rule within. elim (cases_lt rule (length grammar.rules)) [
        | inl old ↦ still_used alphabet grammar.rules grammar.blocks pair (alphabet + rule) (sound.used rule old)
        | inr last ↦ let at : rule ≡ length grammar.rules =
            omega (arith, within, length-append grammar.rules (pair ∷ [])) in
            rw at (new_used alphabet grammar.rules grammar.blocks pair (omega (arith, known.count, known.two)))
      ];
      few = omega (arith, round_shorter alphabet grammar key taken, sound.few, length-append grammar.rules (pair ∷ []));
      same = rw length-map sound.same;
      shorter = λ block. rw (block_replaced pair symbol grammar.blocks block)
          (omega (arith, length-block_after_pass pair symbol (get_or grammar.blocks block []), sound.shorter block));
    }

-- the blocks themselves, with no rule
pub start_sound : (alphabet : ℕ) (blocks : List (List ℕ)) → AreBelow alphabet blocks →
    IsGrammarOf alphabet blocks (record { rules = []; blocks = blocks })
start_sound alphabet blocks below = grind (arith, nat_tests, expanded-none, add-zero)

pub re_pair-sound : (alphabet : ℕ) (blocks : List (List ℕ)) → AreBelow alphabet blocks →
    IsGrammarOf alphabet blocks (re_pair alphabet blocks)
unfolding re_pair
re_pair-sound alphabet blocks below = rounds-keep alphabet (IsGrammarOf alphabet blocks)
    (λ grammar key taken sound. round_sound alphabet blocks grammar key taken sound)
    (sum_by length blocks) (record { rules = []; blocks = blocks }) (start_sound alphabet blocks below)
