-- The bits of rules in order are those of their layers.
use Rattle.std.proofs.Common.{◌≡◌, ℕ, zero, suc, ◌+◌, ◌-◌, ◌<◌, ◌≤◌, max, true, false, Bool, nat_lt, eqb, List, [], ◌∷◌, ◌++◌, length, get_or, map, drop, replicate, filter, refl, sym, ap, subst, ◌∙◌, ◌⊎◌, inl, inr, arith, append_assoc, append-nil}
use Rattle.std.specs.Prelude.{fold, zip}
use Rattle.std.specs.List.{flat_map, range_with_len}
use Rattle.std.proofs.lemmas.Bool.{lt-ltb, le-ltb}
use Rattle.std.proofs.lemmas.Bool.Decides.{nat_tests}
use Rattle.std.proofs.lemmas.List.Elements.{filter-append}
use Rattle.std.proofs.lemmas.List.Sums.{fold-append}
use Rattle.rule_store.specs.Expansion.{depths}
use Rattle.index_format.specs.OutlineRules.{is_in_layer, layer_bits, layer_count, layer_rules, layers_of, rules_bits, symbols_under}
use Rattle.index_format.specs.LayerLists.{AreLayers, layers_bits, one_layer_bits, rules_of}
use Rattle.index_format.proofs.DepthLemmas.{IsKnown, known-next, known-terminals, labelled, labelled-layers, numbered, depths-layers, numbers_of, terminals_of}

-- the rules of a layer among rules with their layers in front
abbrev in_layer : List (ℕ × (ℕ × ℕ)) → ℕ → List (ℕ × ℕ)
in_layer all layer = map (λ rule. rule.1) (filter (is_in_layer layer) all)

-- how many numbers are below one
abbrev under : List ℕ → ℕ → ℕ
under depths layer = length (filter (λ depth. nat_lt depth layer) depths)

-- a layer's bits, by rules with their layers in front and all depths
abbrev bits_by : List (ℕ × (ℕ × ℕ)) → List ℕ → ℕ → List Bool
bits_by all depths layer = one_layer_bits (under depths (layer - 1)) (in_layer all layer)

-- a layer's rules, with its number in front
filter-own : (layer : ℕ) (rules : List (ℕ × ℕ)) → filter (is_in_layer layer) (map (λ rule. (layer, rule)) rules) ≡ map (λ rule. (layer, rule)) rules
filter-own layer [] = refl
filter-own layer (rule ∷ rules) = let same : eqb layer layer ≡ true = grind (arith, nat_tests) in rw (same, filter-own layer rules) refl

-- or another's
filter-other : (layer other : ℕ) (rules : List (ℕ × ℕ)) → (layer < other) ⊎ (other < layer)
    → filter (is_in_layer layer) (map (λ rule. (other, rule)) rules) ≡ []
filter-other layer other [] apart = refl
filter-other layer other (rule ∷ rules) apart =
    let differ : eqb other layer ≡ false = elim apart [ inl less ↦ grind (arith, nat_tests, less) | inr more ↦ grind (arith, nat_tests, more) ] in
    rw (differ, filter-other layer other rules apart) refl

-- layers above it have none of its rules
filter-above : (layer from : ℕ) (layers : List (List (ℕ × ℕ))) → layer < from → filter (is_in_layer layer) (numbered from layers) ≡ []
unfolding numbered
filter-above layer from [] above = refl
filter-above layer from (rules ∷ layers) above =
    filter-append (is_in_layer layer) (map (λ rule. (from, rule)) rules) (numbered (suc from) layers)
    ∙ rw (filter-other layer from rules (inl above)) (filter-above layer (suc from) layers (omega arith))

-- numbers in front of rules
map-back : (layer : ℕ) (rules : List (ℕ × ℕ)) → map (λ (rule : ℕ × (ℕ × ℕ)). rule.1) (map (λ rule. (layer, rule)) rules) ≡ rules
map-back layer [] = refl
map-back layer (rule ∷ rules) = ap (λ rules. rule ∷ rules) (map-back layer rules)

-- one number again and again
filter-replicate : (p : ℕ → Bool) (many number : ℕ) → p number ≡ false → filter p (replicate many number) ≡ []
filter-replicate p zero number fails = refl
filter-replicate p (suc many) number fails = rw (fails, filter-replicate p many number fails) refl

-- the numbers of layers from one on are not below it
under-above : (bound from : ℕ) (layers : List (List (ℕ × ℕ))) → bound ≤ from → filter (λ depth. nat_lt depth bound) (numbers_of from layers) ≡ []
unfolding numbers_of
under-above bound from [] above = refl
under-above bound from (rules ∷ layers) above =
    let bounded : nat_lt from bound ≡ false = grind (arith, nat_tests, above) in
    filter-append (λ depth. nat_lt depth bound) (replicate (length rules) from) (numbers_of (suc from) layers)
    ∙ rw (filter-replicate (λ depth. nat_lt depth bound) (length rules) from bounded) (under-above bound (suc from) layers (omega arith))

-- how many numbers are below a bound, where those in front are
count-under : (bound : ℕ) (numbers : List ℕ) (many : ℕ) → many ≤ length numbers → ((i : ℕ) → i < many → get_or numbers i 0 < bound)
    → ((i : ℕ) → many ≤ i → i < length numbers → bound ≤ get_or numbers i 0) → under numbers bound ≡ many
count-under bound [] zero few low high = refl
count-under bound [] (suc many) few low high = absurd (omega arith)
count-under bound (number ∷ numbers) zero few low high =
    rw (le-ltb number bound (high 0 (omega arith) (omega arith)))
    (count-under bound numbers 0 (omega arith) (λ i under. absurd (omega arith)) (λ i from under. high (suc i) (omega arith) (omega arith)))
count-under bound (number ∷ numbers) (suc many) few low high =
    rw (lt-ltb number bound (low 0 (omega arith)))
    (ap suc (count-under bound numbers many (omega arith) (λ i under. low (suc i) (omega arith)) (λ i from under. high (suc i) (omega arith) (omega arith))))

-- the known symbols below the layer before
under-known : (base top layer : ℕ) (known : List ℕ) → IsKnown base top layer known → length known ≡ top → under known (layer - 1) ≡ base
under-known base top layer known is all =
    count-under (layer - 1) known base (omega (arith, is.below, all)) (λ i low. omega (arith, is.low i low))
    (λ i from some. omega (arith, is.middle i from (omega (arith, all))))

-- a number again and again after lesser ones
fold-replicate : (many number most : ℕ) → most ≤ number → 0 < many → fold max most (replicate many number) ≡ number
fold-replicate zero number most less some = absurd (omega arith)
fold-replicate (suc zero) number most less some = omega arith
fold-replicate (suc (suc many)) number most less some = fold-replicate (suc many) number (max most number) (omega arith) (omega arith)

-- the greatest of all numbers
greatest : (base top layer : ℕ) (known : List ℕ) (layers : List (List (ℕ × ℕ))) → AreLayers base top layers → fold max 0 known + 1 ≡ layer
    → fold max 0 (known ++ numbers_of layer layers) + 1 ≡ layer + length layers
unfolding numbers_of AreLayers
greatest base top layer known [] are most = ap (λ all. fold max 0 all + 1) (append-nil known) ∙ (omega (arith, most))
greatest base top layer known (rules ∷ layers) are most =
    let next = known ++ replicate (length rules) layer in
    let here : fold max 0 next ≡ layer =
    fold-append max 0 known (replicate (length rules) layer) ∙ fold-replicate (length rules) layer (fold max 0 known) (omega (arith, most)) are.0 in
    ap (λ all. fold max 0 all + 1) (sym (append_assoc known (replicate (length rules) layer) (numbers_of (suc layer) layers)))
    ∙ greatest top (top + length rules) (suc layer) next layers are.2 (omega (arith, here)) ∙ (omega arith)

-- terminals are in layer 0
fold-zero : (numbers : List ℕ) → fold max 0 (map (λ (terminal : ℕ). 0) numbers) ≡ 0
fold-zero [] = refl
fold-zero (number ∷ numbers) = fold-zero numbers

-- the bits of the layers from one on, of which the rules in front have none
bits-from : (base top layer : ℕ) (front : List (ℕ × (ℕ × ℕ))) (known : List ℕ) (layers : List (List (ℕ × ℕ))) → IsKnown base top layer known
    → length known ≡ top → AreLayers base top layers → ((other : ℕ) → layer ≤ other → filter (is_in_layer other) front ≡ [])
    → flat_map (bits_by (front ++ numbered layer layers) (known ++ numbers_of layer layers)) (range_with_len layer (length layers))
    ≡ layers_bits base top layers
unfolding numbered numbers_of AreLayers layers_bits
bits-from base top layer front known [] is all are none = refl
bits-from base top layer front known (rules ∷ layers) is all are none =
    let mine : List (ℕ × (ℕ × ℕ)) = map (λ rule. (layer, rule)) rules in
    let whole : List (ℕ × (ℕ × ℕ)) = front ++ (mine ++ numbered (suc layer) layers) in
    let depths : List ℕ = known ++ (replicate (length rules) layer ++ numbers_of (suc layer) layers) in
    let own : filter (is_in_layer layer) whole ≡ mine =
    filter-append (is_in_layer layer) front (mine ++ numbered (suc layer) layers)
    ∙ rw (
      none layer (omega arith),
      filter-append (is_in_layer layer) mine (numbered (suc layer) layers),
      filter-own layer rules,
      filter-above layer (suc layer) layers (omega arith),
    ) (append-nil mine) in
    let count : under depths (layer - 1) ≡ base =
    ap length (filter-append (λ depth. nat_lt depth (layer - 1)) known (numbers_of layer (rules ∷ layers))
    ∙ ap (λ none. filter (λ depth. nat_lt depth (layer - 1)) known ++ none) (under-above (layer - 1) layer (rules ∷ layers) (omega arith))
    ∙ append-nil (filter (λ depth. nat_lt depth (layer - 1)) known)) ∙ under-known base top layer known is all in
    let first : bits_by whole depths layer ≡ one_layer_bits base rules =
    ap (λ base. one_layer_bits base (in_layer whole layer)) count
    ∙ ap (λ rules. one_layer_bits base (map (λ (rule : ℕ × (ℕ × ℕ)). rule.1) rules)) own ∙ ap (one_layer_bits base) (map-back layer rules) in
    let next = known-next known (length rules) is all in
    let front_next = front ++ mine in
    let known_after = known ++ replicate (length rules) layer in
    let others = bits-from top (top + length rules) (suc layer) front_next known_after layers next.0 next.1 are.2
    (λ other above. filter-append (is_in_layer other) front mine ∙ rw (none other (omega arith)) (filter-other other layer rules (inr (omega arith)))) in
    let same : flat_map (bits_by whole depths) (range_with_len (suc layer) (length layers))
    ≡ layers_bits top (top + length rules) layers =
    ap (λ whole. flat_map (bits_by whole depths) (range_with_len (suc layer) (length layers))) (sym (append_assoc front mine (numbered (suc layer) layers)))
    ∙ ap (λ depths. flat_map (bits_by (front_next ++ numbered (suc layer) layers) depths) (range_with_len (suc layer) (length layers)))
    (sym (append_assoc known (replicate (length rules) layer) (numbers_of (suc layer) layers))) ∙ others in
    let up : layer + 1 ≡ suc layer = omega arith in
    rw first (ap (λ n. one_layer_bits base rules ++ flat_map (bits_by whole depths) (range_with_len n (length layers))) up
    ∙ ap (λ others. one_layer_bits base rules ++ others) same)

-- the bits of all
pub rules_bits-layers : (terminals : ℕ) (layers : List (List (ℕ × ℕ))) → AreLayers 0 terminals layers
    → rules_bits terminals (rules_of layers) ≡ layers_bits 0 terminals layers
unfolding rules_bits layer_bits layer_rules symbols_under labelled one_layer_bits
rules_bits-layers terminals layers are =
    let known = known-terminals terminals in
    let all : zip (layers_of terminals (rules_of layers)) (rules_of layers) ≡ numbered 1 layers =
    subst (λ n. zip (drop n (depths terminals (rules_of layers))) (rules_of layers) ≡ numbered 1 layers) known.1
    (labelled-layers (terminals_of terminals) layers known.0 known.1 are) in
    let depths_are : depths terminals (rules_of layers) ≡ terminals_of terminals ++ numbers_of 1 layers =
    depths-layers (terminals_of terminals) layers known.0 known.1 are in
    let flat : fold max 0 (terminals_of terminals) ≡ 0 = fold-zero (range_with_len 0 terminals) in
    let count : layer_count terminals (rules_of layers) ≡ length layers =
    ap (fold max 0) depths_are ∙ (omega (arith, greatest 0 terminals 1 (terminals_of terminals) layers are (omega (arith, flat)))) in
    ap (λ all. flat_map (bits_by all (depths terminals (rules_of layers))) (range_with_len 1 (layer_count terminals (rules_of layers)))) all
    ∙ ap (λ table. flat_map (bits_by (numbered 1 layers) table) (range_with_len 1 (layer_count terminals (rules_of layers)))) depths_are
    ∙ ap (λ many. flat_map (bits_by (numbered 1 layers) (terminals_of terminals ++ numbers_of 1 layers)) (range_with_len 1 many)) count
    ∙ bits-from 0 terminals 1 [] (terminals_of terminals) layers known.0 known.1 are (λ other above. refl)
