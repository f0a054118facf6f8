-- A grown table, symbol by symbol: what it has for a terminal, and for a rule of sound parts.
use Rattle.std.proofs.Common.{◌≡◌, ℕ, ◌+◌, ◌<◌, ◌≤◌, List, [], ◌∷◌, ◌++◌, length, get_or, map, take, drop, ap, sym, ◌∙◌, arith, drop-cons, add-one}
use Rattle.std.specs.List.{range_with_len}
use Rattle.std.proofs.lemmas.List.{append_assoc, length-append, length-take-le, take-append-drop}
use Rattle.std.proofs.lemmas.List.FromFn.{get_or-map-range_with_len, length-map-range_with_len}
use Rattle.list_laws.specs.Grown.{table_of_rules}
use Rattle.list_laws.proofs.GrownLemmas.{table_of_rules-append, table_of_rules-keeps, table_of_rules-last, length-table_of_rules}

-- a list, parted before and after its element at a place
pub parted_at : {X : Type 0} (xs : List X) (j : ℕ) (d : X) → j < length xs →
    xs ≡ (take j xs ++ get_or xs j d ∷ []) ++ drop (j + 1) xs
parted_at xs j d within =
    let here : drop j xs ≡ get_or xs j d ∷ drop (j + 1) xs = rw add-one (drop-cons xs j d within) in
    sym (take-append-drop j xs) ∙ ap (λ rest. take j xs ++ rest) here
    ∙ sym (append_assoc (take j xs) (get_or xs j d ∷ []) (drop (j + 1) xs))

module _ {A : Type 0} (join : A → A → A) (none : A) where
  -- symbols below a rule's have what they have after the rules before it
  table_of_rules-take : (known : List A) (rules : List (ℕ × ℕ)) (j symbol : ℕ) → j ≤ length rules → symbol < length known + j →
      get_or (table_of_rules join none known rules) symbol none ≡ get_or (table_of_rules join none known (take j rules)) symbol none
  table_of_rules-take known rules j symbol within below =
      let front = table_of_rules join none known (take j rules) in
      let longer : symbol < length front =
      omega (arith, length-table_of_rules join none known (take j rules), length-take-le j rules within) in
      ap (λ all. get_or (table_of_rules join none known all) symbol none) (sym (take-append-drop j rules))
      ∙ ap (λ table. get_or table symbol none) (table_of_rules-append join none known (take j rules) (drop j rules))
      ∙ table_of_rules-keeps join none front (drop j rules) symbol longer

  -- a rule's element is the join of its parts', where these are below its own symbol
  pub table_of_rules-at_rule : (known : List A) (rules : List (ℕ × ℕ)) (j : ℕ) (rule : ℕ × ℕ) → j < length rules →
      get_or rules j (0, 0) ≡ rule → rule.0 < length known + j → rule.1 < length known + j →
      get_or (table_of_rules join none known rules) (length known + j) none
      ≡ join (get_or (table_of_rules join none known rules) rule.0 none) (get_or (table_of_rules join none known rules) rule.1 none)
  table_of_rules-at_rule known rules j rule within is left right =
      let front = take j rules in
      let short : length front ≡ j = length-take-le j rules (omega arith) in
      let whole : rules ≡ (front ++ rule ∷ []) ++ drop (j + 1) rules =
      parted_at rules j (0, 0) within ∙ ap (λ r. (front ++ r ∷ []) ++ drop (j + 1) rules) is in
      let table = table_of_rules join none known (front ++ rule ∷ []) in
      let own : length known + j < length table =
      omega (arith, length-table_of_rules join none known (front ++ rule ∷ []), length-append front (rule ∷ [])) in
      let there : get_or (table_of_rules join none known rules) (length known + j) none ≡ get_or table (length known + j) none =
      ap (λ all. get_or (table_of_rules join none known all) (length known + j) none) whole
      ∙ ap (λ t. get_or t (length known + j) none)
      (table_of_rules-append join none known (front ++ rule ∷ []) (drop (j + 1) rules))
      ∙ table_of_rules-keeps join none table (drop (j + 1) rules) (length known + j) own in
      let last : get_or table (length known + j) none
      ≡ join (get_or (table_of_rules join none known front) rule.0 none) (get_or (table_of_rules join none known front) rule.1 none) =
      ap (λ k. get_or table (length known + k) none) (sym short) ∙ table_of_rules-last join none known front rule in
      there ∙ last
      ∙ ap (λ x. join x (get_or (table_of_rules join none known front) rule.1 none))
      (sym (table_of_rules-take known rules j rule.0 (omega arith) left))
      ∙ ap (join _) (sym (table_of_rules-take known rules j rule.1 (omega arith) right))

  -- a terminal's element is the one that it was given
  pub table_of_rules-at_terminal : (f : ℕ → A) (size : ℕ) (rules : List (ℕ × ℕ)) (terminal : ℕ) → terminal < size →
      get_or (table_of_rules join none (map f (range_with_len 0 size)) rules) terminal none ≡ f terminal
  table_of_rules-at_terminal f size rules terminal below =
      table_of_rules-keeps join none (map f (range_with_len 0 size)) rules terminal
      (omega (arith, length-map-range_with_len f 0 size))
      ∙ get_or-map-range_with_len f 0 size terminal terminal none below (omega arith)
