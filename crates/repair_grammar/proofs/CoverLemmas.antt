-- Keys that say enough: where one is taken, where fresh pairs get theirs, and after a round.
use Rattle.std.proofs.Common.{◌≡◌, ◌⊎◌, ℕ, ◌<◌, ◌≤◌, List, [], ◌∷◌, ◌++◌, map, false, refl, sym, ◌∙◌, ap, arith, inl, inr}
use Rattle.std.specs.List.{AllByRecursion, Contains}
use Rattle.std.specs.List.Sorted.{IsPermutation}
use Rattle.std.specs.Ordering.{is_lt}
use Rattle.std.proofs.lemmas.Bool.{cases_lt}
use Rattle.std.proofs.lemmas.Cmp.{upto}
use Rattle.std.proofs.lemmas.List.Elements.{All-contains, All-from_recursion, Contains-append_cases}
use Rattle.std.proofs.lemmas.List.Sorted.{Contains-permutation}
use Rattle.std.proofs.lemmas.Bool.Decides.{nat_tests}
use Rattle.list_laws.proofs.MemberLemmas.{member_cases, no_member}
use Rattle.repair_grammar.specs.declared.key.Key.{Key}
use Rattle.repair_grammar.specs.RePair.{key_order, key_cmp, pair_count, block_after_pass, AreBelow}
use Rattle.repair_grammar.specs.Counts.{IsFirst, AllBelowTwo}
use Rattle.repair_grammar.specs.Kept.{Covers, CoversBut}
use Rattle.repair_grammar.proofs.KeyLemmas.{key_order_total, key_cmp-is, counted_stands}
use Rattle.repair_grammar.proofs.FirstLemmas.{IsUpTo, fewer_after, not_before, upto_itself, upto_from}
use Rattle.repair_grammar.proofs.ExpansionLemmas.{parts_below}
use Rattle.repair_grammar.proofs.NewerLemmas.{counts-block_after_pass-le}

-- keys that say enough in another order
pub covers_moved : (count : ℕ × ℕ → ℕ) (keys more : List Key) → IsPermutation keys more → Covers count keys →
    Covers count more
unfolding Covers
covers_moved count keys more moved covers = λ pair two. let key = covers pair two in
    (key.0, Contains-permutation keys more key.0 moved key.1, key.2, key.3)

-- a fresh pair gets its key
pub covers_settled : (count : ℕ × ℕ → ℕ) (fresh : List (ℕ × ℕ)) (pair : ℕ × ℕ) (keys more : List Key) →
    ((other : Key) → Contains keys other → Contains more other) →
    (1 < count pair → Contains more (record { count = count pair; pair = pair })) →
    CoversBut (fresh ++ pair ∷ []) count keys → CoversBut fresh count more
unfolding CoversBut
covers_settled count fresh pair keys more keeps own covers = λ other two. elim (covers other two) [
  | inl inside ↦ elim (Contains-append_cases fresh (pair ∷ []) other inside) [
    | inl before ↦ inl before
    | inr here ↦ elim (member_cases other pair [] here) [
      | inl same ↦ inr (rw (sym same) (
        (record { count = count pair; pair = pair }),
        own (rw (sym same) at two),
        refl,
        omega arith,
      ))
      | inr never ↦ no_member other never
    ]
  ]
  | inr key ↦ inr (key.0, keeps key.0 key.1, key.2, key.3)
]

-- once none is fresh
pub covers_all : (count : ℕ × ℕ → ℕ) (fresh : List (ℕ × ℕ)) (keys : List Key) → fresh ≡ [] →
    CoversBut fresh count keys → Covers count keys
unfolding Covers CoversBut
covers_all count fresh keys none covers = grind (arith, nat_tests, no_member)

-- no key: no pair counts two
pub covers_none : (count : ℕ × ℕ → ℕ) → Covers count [] → AllBelowTwo count
unfolding Covers
covers_none count covers = grind (arith, nat_tests, no_member)

module _ (count : ℕ × ℕ → ℕ) (key : Key) (rest : List Key) (covers : Covers count (key ∷ rest)) where
  -- the first key makes way for one that says its pair's count
  pub covers_popped : (more : List Key) → ((other : Key) → Contains rest other → Contains more other) →
      (1 < count key.pair → count key.pair ≤ key.count →
      Contains more (record { count = count key.pair; pair = key.pair })) → Covers count more
  unfolding Covers
  covers_popped more keeps own = grind (arith, nat_tests, member_cases)

  upto_counted : (other : Key) (pair : ℕ × ℕ) → other.pair ≡ pair → count pair ≤ other.count →
      IsUpTo other (record { count = count pair; pair = pair })
  unfolding key_order
  upto_counted other pair is enough = grind (arith, nat_tests, upto_itself)

  -- the first key's pair is the first pair, where the key says its count
  pub popped_first : AllByRecursion (λ other. is_lt (key_cmp key other) ≡ false) rest →
      1 < count key.pair → count key.pair ≡ key.count → IsFirst count key.pair
  unfolding Covers
  popped_first below two is = record {
    two = omega (arith, two);
    first = λ other. elim (cases_lt 1 (count other)) [
      | inr one ↦ fewer_after _ _ (omega (arith, one, two))
      | inl counts ↦ let found = covers other counts in
          let found_upto : IsUpTo found.0 (record { count = count other; pair = other }) =
          upto_counted found.0 other found.2 found.3 in
          let key_upto : IsUpTo key found.0 = elim (member_cases found.0 key rest found.1) [
            | inl own ↦ rw (sym own) (upto_itself key)
            | inr later ↦ upto_from key found.0 (ap is_lt (sym (key_cmp-is key found.0))
                ∙ All-contains (λ other. is_lt (key_cmp key other) ≡ false) rest found.0
                (All-from_recursion (λ other. is_lt (key_cmp key other) ≡ false) rest below) later)
          ] in
          rw is (not_before key (record { count = count other; pair = other })
          (upto key_order_total key found.0 (record { count = count other; pair = other }) key_upto found_upto))
    ];
  }

-- the symbols of a pair that counts
pub counted_below : (limit : ℕ) (blocks : List (List ℕ)) (pair : ℕ × ℕ) → AreBelow limit blocks →
    0 < pair_count blocks pair → (pair.0 < limit) × (pair.1 < limit)
unfolding pair_count
counted_below limit blocks pair below some = parts_below limit blocks pair below (counted_stands blocks pair some)

-- after a round: a pair of older symbols counts no more than before, and each other that counts has come
pub covers_after : (symbol : ℕ) (pair : ℕ × ℕ) (blocks : List (List ℕ)) (count count_after : ℕ × ℕ → ℕ)
    (fresh : List (ℕ × ℕ)) (keys : List Key) → AreBelow symbol blocks → (pair.0 < symbol) × (pair.1 < symbol) →
    ((other : ℕ × ℕ) → count other ≡ pair_count blocks other) →
    ((other : ℕ × ℕ) → count_after other ≡ pair_count (map (block_after_pass pair symbol) blocks) other) →
    ((other : ℕ × ℕ) → 0 < count_after other → (0 < count other) ⊎ Contains fresh other) →
    Covers count keys → CoversBut fresh count_after keys
unfolding Covers CoversBut
covers_after symbol pair blocks count count_after fresh keys below parts before after came covers =
    grind (arith, nat_tests, counted_below, counts-block_after_pass-le)

-- where all that count are fresh, no key is owed
pub covers_fresh : (count : ℕ × ℕ → ℕ) (fresh : List (ℕ × ℕ)) (keys : List Key) →
    ((pair : ℕ × ℕ) → 0 < count pair → Contains fresh pair) → CoversBut fresh count keys
unfolding CoversBut
covers_fresh count fresh keys come = λ pair two. inl (come pair (omega (arith, two)))
