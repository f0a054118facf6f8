-- What symbols stand for after a pass, and after a rule more.
use Rattle.std.proofs.Common.{◌≡◌, ℕ, ◌+◌, ◌<◌, List, [], ◌∷◌, ◌++◌, length, get_or, map, refl, sym, ◌∙◌, ap, arith, inl, inr, append_assoc}
use Rattle.std.specs.List.{flat_map, range_with_len, AllByRecursion, Contains}
use Rattle.std.proofs.lemmas.Bool.{cases_Bool}
use Rattle.std.proofs.lemmas.List.FromFn.{length-map-range_with_len, get_or-map-range_with_len}
use Rattle.std.proofs.lemmas.List.Elements.{Contains-append_cases}
use Rattle.std.proofs.lemmas.Bool.Decides.{nat_tests}
use Rattle.list_laws.specs.Grown.{expansions, table_of_rules}
use Rattle.list_laws.proofs.GrownLemmas.{length-table_of_rules, table_of_rules-append, table_of_rules-keeps, table_of_rules-last}
use Rattle.list_laws.proofs.MemberLemmas.{member_cases, no_member}
use Rattle.repair_grammar.specs.RePair.{is_pair, block_after_pass, pairs_in, AreBelow}
use Rattle.repair_grammar.specs.GrammarOf.{expanded}
use Rattle.repair_grammar.proofs.PassLemmas.{left_of_pair, right_of_pair}

-- a pass keeps what a block stands for, where the symbol stands for the pair and all others for what they did
module _ {A : Type 0} (old new : ℕ → List A) (pair : ℕ × ℕ) (symbol : ℕ) (whole : new symbol ≡ old pair.0 ++ old pair.1)
    (same : (other : ℕ) → other < symbol → new other ≡ old other) where
  pub flat_map-block_after_pass : (block : List ℕ) → AllByRecursion (λ other. other < symbol) block →
      flat_map new (block_after_pass pair symbol block) ≡ flat_map old block
  unfolding block_after_pass
  flat_map-block_after_pass [] below = refl
  flat_map-block_after_pass (x ∷ []) below = rw (same x below.0) refl
  flat_map-block_after_pass (x ∷ y ∷ rest) below = elim (cases_Bool (is_pair pair x y)) [
    | inl is ↦ rw (
      is,
      whole,
      left_of_pair pair x y is,
      right_of_pair pair x y is,
      flat_map-block_after_pass rest below.1.1,
      append_assoc,
    ) refl
    | inr other ↦ rw (other, same x below.0, flat_map-block_after_pass (y ∷ rest) below.1) refl
  ]

pub below-block_after_pass : (pair : ℕ × ℕ) (symbol : ℕ) (block : List ℕ) → AllByRecursion (λ other. other < symbol) block →
    AllByRecursion (λ other. other < symbol + 1) (block_after_pass pair symbol block)
unfolding block_after_pass
below-block_after_pass pair symbol [] below = below
below-block_after_pass pair symbol (x ∷ []) below = (omega (arith, below.0), below.1)
below-block_after_pass pair symbol (x ∷ y ∷ rest) below =
    search (arith, below-block_after_pass pair symbol rest below.1.1, below-block_after_pass pair symbol (y ∷ rest) below.1)

pub all_below-block_after_pass : (pair : ℕ × ℕ) (symbol : ℕ) (blocks : List (List ℕ)) → AreBelow symbol blocks →
    AreBelow (symbol + 1) (map (block_after_pass pair symbol) blocks)
unfolding AreBelow
all_below-block_after_pass pair symbol [] below = below
all_below-block_after_pass pair symbol (block ∷ blocks) below =
    (below-block_after_pass pair symbol block below.0, all_below-block_after_pass pair symbol blocks below.1)

-- a block more
pub AreBelow-none : (limit : ℕ) → AreBelow limit []
unfolding AreBelow
AreBelow-none limit = tt

pub AreBelow-push : (limit : ℕ) (blocks : List (List ℕ)) (block : List ℕ) → AreBelow limit blocks →
    AllByRecursion (λ symbol. symbol < limit) block → AreBelow limit (blocks ++ block ∷ [])
unfolding AreBelow
AreBelow-push limit [] block below more = (more, tt)
AreBelow-push limit (first ∷ blocks) block below more = (below.0, AreBelow-push limit blocks block below.1 more)

-- the parts of a pair that stands in a block
pair_below : (limit : ℕ) (block : List ℕ) (pair : ℕ × ℕ) → AllByRecursion (λ symbol. symbol < limit) block →
    Contains (pairs_in block) pair → (pair.0 < limit) × (pair.1 < limit)
unfolding pairs_in
pair_below limit [] pair below inside = no_member pair inside
pair_below limit (x ∷ []) pair below inside = no_member pair inside
pair_below limit (x ∷ y ∷ rest) pair below inside = elim (member_cases pair (x, y) (pairs_in (y ∷ rest)) inside) [
  | inl same ↦ rw (sym same) (below.0, below.1.0)
  | inr later ↦ pair_below limit (y ∷ rest) pair below.1 later
]

pub parts_below : (limit : ℕ) (blocks : List (List ℕ)) (pair : ℕ × ℕ) → AreBelow limit blocks →
    Contains (flat_map pairs_in blocks) pair → (pair.0 < limit) × (pair.1 < limit)
unfolding AreBelow
parts_below limit [] pair below inside = no_member pair inside
parts_below limit (block ∷ blocks) pair below inside =
    elim (Contains-append_cases (pairs_in block) (flat_map pairs_in blocks) pair inside) [
      | inl here ↦ pair_below limit block pair below.0 here
      | inr later ↦ parts_below limit blocks pair below.1 later
    ]

-- what a table of expansions has
abbrev terminals : ℕ → List (List ℕ)
terminals alphabet = map (λ terminal. terminal ∷ []) (range_with_len 0 alphabet)

pub length-expansions : (alphabet : ℕ) (rules : List (ℕ × ℕ)) → length (expansions alphabet rules)
    ≡ alphabet + length rules
length-expansions alphabet rules = length-table_of_rules (◌++◌) [] (terminals alphabet) rules
    ∙ ap (λ n. n + length rules) (length-map-range_with_len (λ terminal. terminal ∷ []) 0 alphabet)

-- a terminal stands for itself
pub expansions-terminal : (alphabet : ℕ) (rules : List (ℕ × ℕ)) (terminal : ℕ) → terminal < alphabet →
    get_or (expansions alphabet rules) terminal [] ≡ terminal ∷ []
expansions-terminal alphabet rules terminal below =
    grind (arith, nat_tests, table_of_rules-keeps, length-map-range_with_len, get_or-map-range_with_len)

-- a new rule's symbol stands for what its parts stand for, one after the other
pub expansions-last : (alphabet : ℕ) (rules : List (ℕ × ℕ)) (pair : ℕ × ℕ) →
    get_or (expansions alphabet (rules ++ pair ∷ [])) (alphabet + length rules) []
    ≡ get_or (expansions alphabet rules) pair.0 [] ++ get_or (expansions alphabet rules) pair.1 []
expansions-last alphabet rules pair =
    rw (length-map-range_with_len (λ t. t ∷ []) 0 alphabet) at (table_of_rules-last (◌++◌) [] (terminals alphabet) rules pair)

-- all other symbols stand for what they stood for
grown_other : (alphabet : ℕ) (rules more : List (ℕ × ℕ)) (symbol : ℕ) → symbol < length (expansions alphabet rules) →
    get_or (expansions alphabet (rules ++ more)) symbol [] ≡ get_or (expansions alphabet rules) symbol []
grown_other alphabet rules more symbol below =
    ap (λ table. get_or table symbol []) (table_of_rules-append (◌++◌) [] (terminals alphabet) rules more)
    ∙ table_of_rules-keeps (◌++◌) [] (table_of_rules (◌++◌) [] (terminals alphabet) rules) more symbol below

pub expansions-other : (alphabet : ℕ) (rules more : List (ℕ × ℕ)) (symbol : ℕ) → symbol < alphabet + length rules →
    get_or (expansions alphabet (rules ++ more)) symbol [] ≡ get_or (expansions alphabet rules) symbol []
expansions-other alphabet rules more symbol below =
    grown_other alphabet rules more symbol (rw (length-expansions alphabet rules) below)

-- a block stands for the same after a round
module _ (alphabet : ℕ) (rules : List (ℕ × ℕ)) (pair : ℕ × ℕ) where
  pub expanded-round : (blocks : List (List ℕ)) → AreBelow (alphabet + length rules) blocks →
      map (expanded alphabet (rules ++ pair ∷ [])) (map (block_after_pass pair (alphabet + length rules)) blocks)
      ≡ map (expanded alphabet rules) blocks
  unfolding expanded AreBelow
  expanded-round [] below = refl
  expanded-round (block ∷ blocks) below =
      search (arith, expanded-round blocks below.1, flat_map-block_after_pass, expansions-last, expansions-other)

-- to begin with, each block stands for itself
expanded_itself : (alphabet : ℕ) (block : List ℕ) → AllByRecursion (λ symbol. symbol < alphabet) block →
    flat_map (λ symbol. get_or (expansions alphabet []) symbol []) block ≡ block
expanded_itself alphabet [] below = refl
expanded_itself alphabet (x ∷ rest) below =
    rw (expansions-terminal alphabet [] x below.0, expanded_itself alphabet rest below.1) refl

pub expanded-none : (alphabet : ℕ) (blocks : List (List ℕ)) → AreBelow alphabet blocks →
    map (expanded alphabet []) blocks ≡ blocks
unfolding expanded AreBelow
expanded-none alphabet [] below = refl
expanded-none alphabet (block ∷ blocks) below =
    rw (expanded_itself alphabet block below.0, expanded-none alphabet blocks below.1) refl
