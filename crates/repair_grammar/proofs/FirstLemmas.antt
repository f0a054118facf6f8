-- The first of keys, and that no pair counts two where none is taken.
use Rattle.std.proofs.Common.{◌≡◌, ℕ, ◌<◌, true, false, List, [], ◌∷◌, Some, None, Ordering, refl, sym, ◌∙◌, ap, arith, inl, inr}
use Rattle.std.specs.List.{Contains}
use Rattle.std.specs.Ordering.{is_lt, is_gt, ordering_reverse}
use Rattle.std.specs.declared.cmp.Ordering.TheVariants.{Less, Equal, Greater}
use Rattle.std.proofs.lemmas.Bool.{cases_Bool, cases_lt, le-ltb, ne_eqb}
use Rattle.std.proofs.lemmas.Cmp.{upto, tied_itself}
use Rattle.list_laws.proofs.MemberLemmas.{first_member, later_member, member_cases, no_member}
use Rattle.repair_grammar.specs.declared.key.Key.{Key}
use Rattle.repair_grammar.specs.RePair.{key_order, key_of, keys_of, first_key, pair_count}
use Rattle.repair_grammar.specs.Counts.{AllBelowTwo}
use Rattle.repair_grammar.proofs.KeyLemmas.{key_order_total, first_key-only, key_stands}

-- one key is not after another
abbrev pub IsUpTo : Key → Key → Type 0
IsUpTo a b = is_gt (key_order a b) ≡ false

pub upto_itself : (a : Key) → IsUpTo a a
upto_itself a = ap is_gt (tied_itself key_order_total a)

turned : (r : Ordering) → is_gt (ordering_reverse r) ≡ is_lt r
turned Less = refl
turned Equal = refl
turned Greater = refl

turned_back : (r : Ordering) → is_lt (ordering_reverse r) ≡ is_gt r
turned_back Less = refl
turned_back Equal = refl
turned_back Greater = refl

pub less_upto : (r : Ordering) → is_lt r ≡ true → is_gt r ≡ false
less_upto Less is = refl
less_upto Equal is = refl
less_upto Greater is = absurd (cc)

pub upto_from : (a b : Key) → is_lt (key_order b a) ≡ false → IsUpTo a b
upto_from a b not_less = ap is_gt (key_order_total.antisymm a b) ∙ turned (key_order b a) ∙ not_less

pub not_before : (a b : Key) → IsUpTo a b → is_lt (key_order b a) ≡ false
not_before a b up = ap is_lt (key_order_total.antisymm b a) ∙ turned_back (key_order a b) ∙ up

-- a key that counts less is not taken before
pub fewer_after : (a b : Key) → a.count < b.count → is_lt (key_order a b) ≡ false
unfolding key_order
fewer_after a b fewer = rw (le-ltb b.count a.count (omega arith), ne_eqb b.count a.count (λ same. omega arith)) refl

-- of keys, one is after none
least : (first : Key) (keys : List Key) →
    (key : Key) × Contains (first ∷ keys) key × ((other : Key) → Contains (first ∷ keys) other → IsUpTo key other)
least first [] = (
  first,
  first_member first [],
  λ other inside. elim (member_cases other first [] inside) [
    | inl same ↦ rw (sym same) (upto_itself first)
    | inr later ↦ no_member other later
  ],
)
least first (second ∷ keys) = let best = least second keys in elim (cases_Bool (is_lt (key_order first best.0))) [
  | inl less ↦ (
    first,
    first_member first (second ∷ keys),
    λ other inside. elim (member_cases other first (second ∷ keys) inside) [
      | inl same ↦ rw (sym same) (upto_itself first)
      | inr later ↦ upto key_order_total first best.0 other (less_upto (key_order first best.0) less)
          (best.2 other later)
    ],
  )
  | inr not_less ↦ (
    best.0,
    later_member best.0 first (second ∷ keys) best.1,
    λ other inside.
        elim (member_cases other first (second ∷ keys) inside) [
          | inl same ↦ rw (sym same) (upto_from best.0 first not_less)
          | inr later ↦ best.2 other later
        ],
  )
]

-- so a key is taken where there is one
no_first : (keys : List Key) → first_key keys ≡ None → (key : Key) → Contains keys key → ⊥
no_first [] none key inside = no_member key inside
no_first (first ∷ keys) none key inside = let best = least first keys in
    let taken = first_key-only (first ∷ keys) best.0 best.1 (λ other among. not_before best.0 other
    (best.2 other among)) in
    absurd (let never : Some best.0 ≡ None = sym taken ∙ none in cc)

-- and where none is, no pair counts two
pub none_counts_two : (blocks : List (List ℕ)) → first_key (keys_of blocks) ≡ None → AllBelowTwo (pair_count blocks)
none_counts_two blocks none = λ pair. elim (cases_lt 1 (pair_count blocks pair)) [
  | inl two ↦ absurd (no_first (keys_of blocks) none (key_of blocks pair) (key_stands blocks pair two))
  | inr one ↦ omega (arith, one)
]
