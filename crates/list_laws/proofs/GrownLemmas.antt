-- Laws of tables that grow by rules.
use Rattle.std.proofs.Common.{◌≡◌, ℕ, ◌+◌, ◌<◌, List, [], ◌∷◌, ◌++◌, length, get_or, map, refl, sym, ◌∙◌, arith}
use Rattle.std.proofs.Math.ListN.{get_or-append, get_or-map}
use Rattle.std.proofs.lemmas.List.{length-append, map-append}
use Rattle.std.proofs.Math.Seq.{get_or-append_seam}
use Rattle.list_laws.specs.Grown.{table_of_rules}

-- a function that turns one way to join into another, and what is not known too
pub record KeepsJoins {A B : Type 0} (f : A → B) (joinA : A → A → A) (noneA : A) (joinB : B → B →
    B) (noneB : B) : Type 0 where
  pub none : f noneA ≡ noneB
  pub join : (left right : A) → f (joinA left right) ≡ joinB (f left) (f right)

module _ {A : Type 0} (join : A → A → A) (none : A) where
  -- a rule more or less
  pub table_of_rules-none : (known : List A) → table_of_rules join none known [] ≡ known
  unfolding table_of_rules
  table_of_rules-none known = refl

  pub table_of_rules-rule : (known : List A) (rule : ℕ × ℕ) (rules : List (ℕ × ℕ)) →
      table_of_rules join none known (rule ∷ rules)
      ≡ table_of_rules join none (known ++ join (get_or known rule.0 none) (get_or known rule.1 none) ∷ []) rules
  unfolding table_of_rules
  table_of_rules-rule known rule rules = refl

  -- the table has one element more for each rule
  pub length-table_of_rules : (known : List A) (rules : List (ℕ × ℕ)) →
      length (table_of_rules join none known rules) ≡ length known + length rules
  unfolding table_of_rules
  length-table_of_rules known [] = omega arith
  length-table_of_rules known (rule ∷ rules) = let made = join (get_or known rule.0 none) (get_or known rule.1 none) in
      omega (arith, length-table_of_rules (known ++ made ∷ []) rules, length-append known (made ∷ []))

  -- some rules, and then more
  pub table_of_rules-append : (known : List A) (rules more : List (ℕ × ℕ)) →
      table_of_rules join none known (rules ++ more) ≡ table_of_rules join none (table_of_rules join none known rules) more
  unfolding table_of_rules
  table_of_rules-append known [] more = refl
  table_of_rules-append known (rule ∷ rules) more =
      table_of_rules-append (known ++ join (get_or known rule.0 none) (get_or known rule.1 none) ∷ []) rules more

  -- what is known stays so
  pub table_of_rules-keeps : (known : List A) (rules : List (ℕ × ℕ)) (symbol : ℕ) → symbol < length known →
      get_or (table_of_rules join none known rules) symbol none ≡ get_or known symbol none
  unfolding table_of_rules
  table_of_rules-keeps known [] symbol below = refl
  table_of_rules-keeps known (rule ∷ rules) symbol below =
      let made = join (get_or known rule.0 none) (get_or known rule.1 none) in
      let longer : symbol < length (known ++ made ∷ []) = omega (arith, length-append known (made ∷ [])) in
      table_of_rules-keeps (known ++ made ∷ []) rules symbol longer ∙ get_or-append known (made ∷ []) none symbol below

  -- the last rule's element is the join of its parts' elements
  pub table_of_rules-last : (known : List A) (rules : List (ℕ × ℕ)) (rule : ℕ × ℕ) →
      get_or (table_of_rules join none known (rules ++ rule ∷ [])) (length known + length rules) none
      ≡ join (get_or (table_of_rules join none known rules) rule.0 none) (get_or (table_of_rules join none known rules) rule.1 none)
  unfolding table_of_rules
  table_of_rules-last known rules rule = let table = table_of_rules join none known rules in
      rw (table_of_rules-append known rules (rule ∷ []), ← (length-table_of_rules known rules))
      (get_or-append_seam table (join (get_or table rule.0 none) (get_or table rule.1 none)) [] none)

module _ {A B : Type 0} (f : A → B) (joinA : A → A → A) (noneA : A) (joinB : B → B → B) (noneB : B) where
  read-map : f noneA ≡ noneB → (known : List A) (symbol : ℕ) →
      get_or (map f known) symbol noneB ≡ f (get_or known symbol noneA)
  read-map same known symbol = rw (sym same) (get_or-map f known symbol noneA)

  -- what is told of a table's elements grows by the same rules, where it is told of a join by its parts
  pub map-table_of_rules : KeepsJoins f joinA noneA joinB noneB → (known : List A) (rules : List (ℕ × ℕ)) →
      map f (table_of_rules joinA noneA known rules) ≡ table_of_rules joinB noneB (map f known) rules
  unfolding table_of_rules
  map-table_of_rules keeps known [] = refl
  map-table_of_rules keeps known (rule ∷ rules) =
      let left = get_or known rule.0 noneA in
      let right = get_or known rule.1 noneA in
      rw (
        map-table_of_rules keeps (known ++ joinA left right ∷ []) rules,
        map-append f known (joinA left right ∷ []),
        keeps.join left right,
        read-map keeps.none known rule.0,
        read-map keeps.none known rule.1,
      ) refl
