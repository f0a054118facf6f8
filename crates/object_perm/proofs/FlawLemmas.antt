-- The first flaw of a list, and the lists that have none.
use Rattle.std.proofs.Common.{◌≡◌, ℕ, ◌<◌, true, false, eqb, leb, List, length, get_or, take, None, Some, inl, inr, sym, ◌∙◌, arith}
use Rattle.std.proofs.lemmas.Bool.{cases_order, cases_Bool, leb-false, lt-leb, or_parts, or_from, eq-eqb, eqb-true}
use Rattle.std.proofs.lemmas.List.{length-take, length-take-le, get_or-take, get_or_default}
use Rattle.std.proofs.lemmas.List.Folds.{list_any_at, Any-from_list_any}
use Rattle.list_laws.proofs.FindLemmas.{find_in_range-first, find_in_range-none, find_in_range-all}
use Rattle.object_perm.specs.Permutation.{PermutesPlaces, stood_before, is_flawed, first_flawed_place}

-- the first flawed place
pub first_flawed_place-at : (values : List ℕ) (place : ℕ) → place < length values →
    ((before : ℕ) → before < place → is_flawed values before ≡ false) → is_flawed values place ≡ true →
    first_flawed_place values ≡ Some place
first_flawed_place-at values place within sound flawed =
    find_in_range-first (is_flawed values) 0 (length values) place (omega arith) (omega arith)
    (λ j above below. sound j below) flawed

-- no place is flawed
pub first_flawed_place-none : (values : List ℕ) → ((place : ℕ) → place < length values → is_flawed values place ≡ false) →
    first_flawed_place values ≡ None
first_flawed_place-none values sound =
    find_in_range-none (is_flawed values) 0 (length values) (λ j above below. sound j (omega arith))

-- a value that stands at an earlier place stood before
stood-earlier : (values : List ℕ) (i j : ℕ) → i < j → j < length values → get_or values i 0 ≡ get_or values j 0 →
    stood_before values j ≡ true
stood-earlier values i j earlier within same =
    let long : i < length (take j values) = omega (arith, length-take j values) in
    let there : get_or (take j values) i 0 ≡ get_or values i 0 = get_or-take j values i 0 earlier in
    list_any_at (λ value. eqb value (get_or values j 0)) (take j values) i 0 long (eq-eqb _ _ (there ∙ same))

-- a list without a first flaw is a permutation
pub permutes-from_none : (values : List ℕ) → first_flawed_place values ≡ None → PermutesPlaces values
permutes-from_none values none =
    let sound : (place : ℕ) → place < length values → is_flawed values place ≡ false =
    λ place within. find_in_range-all (is_flawed values) 0 (length values) none place (omega arith) (omega arith) in
    let once : (i j : ℕ) → i < j → j < length values → get_or values i 0 ≡ get_or values j 0 → ⊥ =
    λ i j earlier within same.
    let stood = stood-earlier values i j earlier within same in
    let not_stood = (or_parts (leb (length values) (get_or values j 0)) (stood_before values j) (sound j within)).1 in
    cc in
    record {
      within = λ i within. leb-false (length values) (get_or values i 0)
          (or_parts (leb (length values) (get_or values i 0)) (stood_before values i) (sound i within)).0;
      apart = λ i j i_within j_within same. elim (cases_order i j) [
        | inl e ↦ e
        | inr other ↦ elim other [
          | inl earlier ↦ absurd (once i j earlier j_within same)
          | inr later ↦ absurd (once j i later i_within (sym same))
        ]
      ];
    }

-- a place of a permutation is not flawed
pub unflawed : (values : List ℕ) → PermutesPlaces values → (place : ℕ) → place < length values →
    is_flawed values place ≡ false
unflawed values permutes place within =
    or_from (leb (length values) (get_or values place 0)) (stood_before values place)
    (lt-leb (length values) (get_or values place 0) (permutes.within place within))
    (elim (cases_Bool (stood_before values place)) [
      | inl stood ↦
          let before : List ℕ = take place values in
          let found = Any-from_list_any (λ value. eqb value (get_or values place 0)) before stood in
          let short : length before ≡ place = length-take-le place values (omega arith) in
          let earlier : found.0 < place = let k = found.2 in omega (arith, short) in
          let here : get_or values found.0 0 ≡ get_or values place 0 =
          sym (get_or-take place values found.0 0 earlier) ∙ get_or_default before found.0 0 found.1 found.2 ∙ found.3
          ∙ eqb-true found.1 (get_or values place 0) found.4 in
          let same : found.0 ≡ place = permutes.apart found.0 place (omega arith) within here in
          absurd (omega arith)
      | inr not_stood ↦ not_stood
    ])

-- a permutation has no first flaw
pub first_flawed_place-permutes : (values : List ℕ) → PermutesPlaces values → first_flawed_place values ≡ None
first_flawed_place-permutes values permutes = first_flawed_place-none values (unflawed values permutes)

-- a list that has a first flaw is no permutation
pub no_permutation : (values : List ℕ) (place : ℕ) → first_flawed_place values ≡ Some place → PermutesPlaces values → ⊥
no_permutation values place flaw permutes = let none = first_flawed_place-permutes values permutes in cc
