-- What tests keep of a tree, level by level, and the leaves that these numbers are.
use Rattle.std.proofs.Common.{◌≡◌, ℕ, zero, suc, ◌+◌, ◌*◌, ◌/◌, ◌^◌, ◌<◌, ◌≤◌, ◌-◌, Bool, true, false, List, [], ◌∷◌}
use Rattle.std.proofs.Common.{◌++◌}
use Rattle.std.proofs.Common.{length, map, filter, get_or, refl, inl, inr, sym, ap, ◌∙◌, arith, All, append-nil, subst}
use Rattle.std.proofs.Math.Bool.{and-true}
use Rattle.std.proofs.lemmas.Bool.{cases_Bool}
use Rattle.track_types.specs.declared.cell.Cell.{Cell}
use Rattle.k2_tree.specs.Morton.{morton_of, cell_of}
use Rattle.k2_tree.specs.Widths.{digits_in, fan_of, width_below, widths_under}
use Rattle.k2_tree.specs.TreeBits.{AreCodes, is_in, prefixes, Rises, children_of_prefixes}
use Rattle.k2_tree.specs.Squares.{Node, node, level_squares, squares_from}
use Rattle.k2_tree.specs.Pruning.{leaf_with, place_among, digits_left, passes, child_prefixes, kept_below, weight_below}
use Rattle.k2_tree.proofs.MortonLemmas.{morton_of-cell_of}
use Rattle.k2_tree.proofs.RisingLemmas.{place_among-at}
use Rattle.k2_tree.proofs.PrefixLemmas.{div-group, prefixes-zero}
use Rattle.k2_tree.proofs.LongerLemmas.{div-pow_add, prefixes-from_longer}
use Rattle.k2_tree.proofs.WidthLemmas.{digits_in-widths_under, widths_under-opened, width_below-within}
use Rattle.std.proofs.Math.Nat.{div-one}
use Rattle.std.proofs.lemmas.List.Elements.{filter_agree, All-head, All-tail, All-nil, All-cons, All-filter, All-weaker}
use Rattle.std.proofs.lemmas.List.Sums.{sum_by-append}
use Rattle.std.specs.Prelude.{if◌then◌else◌}
use Rattle.std.specs.List.{enumerate_from, flat_map, sum_by, range_with_len}
use Rattle.list_laws.proofs.FilterLemmas.{flat_map_if, filter_and}
use Rattle.list_laws.proofs.FlatLemmas.{filter-flat_map, flat_map-flat_map, flat_map_agree, All-flat_map}
use Rattle.list_laws.proofs.FlatLemmas.{sum_by-flat_map, sum_by-map, sum_by_plus}
use Rattle.std.proofs.lemmas.List.Folds.{flat_map-map}

-- the longer prefixes of all are those of each
children_of_prefixes-each : (size : ℕ) (xs : List ℕ) → children_of_prefixes size xs ≡ flat_map (λ x. children_of_prefixes size (x ∷ [])) xs
unfolding children_of_prefixes
children_of_prefixes-each size [] = refl
children_of_prefixes-each size (x ∷ xs) =
    ap (λ ys. range_with_len (size * x) size ++ ys) (children_of_prefixes-each size xs)
    ∙ ap (λ ys. ys ++ flat_map (λ x. children_of_prefixes size (x ∷ [])) xs) (sym (append-nil (range_with_len (size * x) size)))

-- the children of all squares of a level are the squares of the next
pub child_prefixes-flat : (w n : ℕ) (codes : List ℕ) → Rises 0 codes
    → flat_map (child_prefixes w n codes) (prefixes (w + n) codes) ≡ prefixes n codes
unfolding child_prefixes
child_prefixes-flat w n codes up =
    sym (filter-flat_map (is_in (prefixes n codes)) (λ x. children_of_prefixes (fan_of w) (x ∷ [])) (prefixes (w + n) codes))
    ∙ ap (filter (is_in (prefixes n codes))) (sym (children_of_prefixes-each (fan_of w) (prefixes (w + n) codes)))
    ∙ prefixes-from_longer w n codes up

-- numbers one after another that are children of one square
All-range : (size r start m : ℕ) → size * r ≤ start → start + m ≤ size * r + size
    → All (λ q. q / size ≡ r) (range_with_len start m)
All-range size r start zero low high = All-nil (λ q. q / size ≡ r)
All-range size r start (suc m) low high =
    All-cons (λ q. q / size ≡ r) start (range_with_len (start + 1) m) (div-group size r start low (omega arith))
    (All-range size r (start + 1) m (omega arith) (omega arith))

-- a child has its square's prefix
child_prefixes-prefix : (w n : ℕ) (codes : List ℕ) (r : ℕ) → All (λ q. q / 4 ^ w ≡ r) (child_prefixes w n codes r)
unfolding child_prefixes children_of_prefixes
child_prefixes-prefix w n codes r =
    let P : ℕ → Type 0 = λ q. q / 4 ^ w ≡ r in
    let all : List ℕ = range_with_len (4 ^ w * r) (4 ^ w) in
    All-filter (is_in (prefixes n codes)) P (all ++ [])
    (subst (All P) (sym (append-nil all)) (All-range (4 ^ w) r (4 ^ w * r) (4 ^ w) (omega arith) (omega arith)))

-- the numbers below the children of a square have its prefix where each has its child's
flat_map-prefix : (w n : ℕ) (codes : List ℕ) (r : ℕ) (below : ℕ → List ℕ)
    → ((q : ℕ) → All (λ c. c / 4 ^ n ≡ q) (below q))
    → All (λ c. c / 4 ^ (w + n) ≡ r) (flat_map below (child_prefixes w n codes r))
flat_map-prefix w n codes r below each =
    All-flat_map (λ c. c / 4 ^ (w + n) ≡ r) below (child_prefixes w n codes r)
    (All-weaker (λ q. q / 4 ^ w ≡ r) (λ q. All (λ c. c / 4 ^ (w + n) ≡ r) (below q))
    (λ q is. All-weaker (λ c. c / 4 ^ n ≡ q) (λ c. c / 4 ^ (w + n) ≡ r)
    (λ c e. sym (div-pow_add c n w) ∙ ap (λ z. z / 4 ^ w) e ∙ is) (below q) (each q))
    (child_prefixes w n codes r) (child_prefixes-prefix w n codes r))

-- what holds of the list holds of what the test leaves
all_if : (P : ℕ → Type 0) (b : Bool) (xs : List ℕ) → All P xs → All P (if b then xs else [])
all_if P true xs each = each
all_if P false xs each = All-nil P

-- what is kept below a square has its prefix
kept_below-prefix : (test : Node → Bool) (codes widths : List ℕ) (r : ℕ)
    → All (λ c. c / 4 ^ digits_in widths ≡ r) (kept_below test codes widths r)
unfolding kept_below digits_in
kept_below-prefix test codes [] r =
    let P : ℕ → Type 0 = λ c. c / 4 ^ 0 ≡ r in
    all_if P (test (node 0 r)) (r ∷ []) (All-cons P r [] (div-one r) (All-nil P))
kept_below-prefix test codes (w ∷ ws) r =
    let n : ℕ = digits_in ws in
    all_if (λ c. c / 4 ^ (w + n) ≡ r) (test (node (w + n) r))
    (flat_map (kept_below test codes ws) (child_prefixes w n codes r))
    (flat_map-prefix w n codes r (kept_below test codes ws) (kept_below-prefix test codes ws))

-- a test of one prefix keeps all or none of the numbers that have it
filter-prefix : (p : ℕ → Bool) (n r : ℕ) (xs : List ℕ) → All (λ c. c / 4 ^ n ≡ r) xs
    → filter (λ c. p (c / 4 ^ n)) xs ≡ (if p r then xs else [])
filter-prefix p n r [] each = grind arith
filter-prefix p n r (x ∷ xs) each =
    let P : ℕ → Type 0 = λ c. c / 4 ^ n ≡ r in
    grind (arith, All-head P x xs each, filter-prefix p n r xs (All-tail P x xs each))

-- at level 0 the own square alone is tested
passes-zero : (test : Node → Bool) (code : ℕ) → passes test [] code ≡ test (node 0 code)
unfolding passes digits_left
passes-zero test code = rw (div-one code) (and-true (test (node 0 code)))

-- what is kept below all squares of a level are the numbers for which the test is true from there on
pub kept_below-all : (test : Node → Bool) (widths codes : List ℕ) → Rises 0 codes
    → flat_map (kept_below test codes widths) (prefixes (digits_in widths) codes) ≡ filter (passes test widths) codes
unfolding kept_below passes digits_in digits_left
kept_below-all test [] codes up =
    flat_map_if (λ p. test (node 0 p)) (prefixes 0 codes) ∙ ap (filter (λ p. test (node 0 p))) (prefixes-zero codes up)
    ∙ filter_agree (λ p. test (node 0 p)) (passes test []) (λ c. sym (passes-zero test c)) codes
kept_below-all test (w ∷ ws) codes up =
    let n : ℕ = digits_in ws in
    let top : ℕ → Bool = λ c. test (node (w + n) (c / 4 ^ (w + n))) in
    let below : ℕ → List ℕ = kept_below test codes ws in
    let each : ℕ → List ℕ = λ r. flat_map below (child_prefixes w n codes r) in
    let kept : (r : ℕ) → kept_below test codes (w ∷ ws) r ≡ filter top (each r) =
    λ r. sym (filter-prefix (λ p. test (node (w + n) p)) (w + n) r (each r)
    (flat_map-prefix w n codes r below (kept_below-prefix test codes ws))) in
    flat_map_agree (kept_below test codes (w ∷ ws)) (λ r. filter top (each r)) kept (prefixes (w + n) codes)
    ∙ sym (filter-flat_map top each (prefixes (w + n) codes))
    ∙ ap (filter top) (sym (flat_map-flat_map below (child_prefixes w n codes) (prefixes (w + n) codes)))
    ∙ ap (λ ps. filter top (flat_map below ps)) (child_prefixes-flat w n codes up)
    ∙ ap (filter top) (kept_below-all test ws codes up)
    ∙ sym (filter_and top (passes test ws) codes)

-- the weights below all squares of a level are those of the squares from there on
pub weight_below-all : (weight : Node → ℕ) (widths codes : List ℕ) → Rises 0 codes
    → sum_by (weight_below weight codes widths) (prefixes (digits_in widths) codes)
    ≡ sum_by weight (squares_from widths codes)
unfolding weight_below squares_from digits_in
weight_below-all weight [] codes up = sym (sum_by-map weight (node 0) (prefixes 0 codes))
weight_below-all weight (w ∷ ws) codes up =
    let n : ℕ = digits_in ws in
    let below : ℕ → ℕ = weight_below weight codes ws in
    let ps : List ℕ = prefixes (w + n) codes in
    let here : ℕ → ℕ = λ p. weight (node (w + n) p) in
    let later : sum_by (λ p. sum_by below (child_prefixes w n codes p)) ps ≡ sum_by weight (squares_from ws codes) =
    sym (sum_by-flat_map below (child_prefixes w n codes) ps) ∙ ap (sum_by below) (child_prefixes-flat w n codes up)
    ∙ weight_below-all weight ws codes up in
    sum_by_plus here (λ p. sum_by below (child_prefixes w n codes p)) ps
    ∙ ap (λ k. k + sum_by (λ p. sum_by below (child_prefixes w n codes p)) ps) (sym (sum_by-map weight (node (w + n)) ps))
    ∙ ap (λ k. sum_by weight (level_squares (w + n) codes) + k) later
    ∙ sym (sum_by-append weight (level_squares (w + n) codes) (squares_from ws codes))

-- the square of a level by the digits below it alone: what a test keeps of one that passes
module _ (test : Node → Bool) (low : ℕ) (codes : List ℕ) where
  abbrev kept_in : Node → List ℕ
  kept_in square = kept_below test codes (widths_under low square.level) square.prefix

  abbrev child_nodes : Node → List Node
  child_nodes square =
      let w = width_below low square.level in
      map (node (square.level - w)) (child_prefixes w (square.level - w) codes square.prefix)

  pub kept_in-opened : (level prefix : ℕ) → 1 ≤ level → test (node level prefix) ≡ true
      → kept_in (node level prefix) ≡ flat_map kept_in (child_nodes (node level prefix))
  unfolding kept_below
  kept_in-opened level prefix some holds =
      let w : ℕ = width_below low level in
      let n : ℕ = level - w in
      let digits : digits_in (widths_under low n) ≡ n = digits_in-widths_under low n in
      let whole : w + n ≡ level = omega (arith, (width_below-within low level some).1) in
      rw (widths_under-opened low level some, digits, whole, holds)
      (sym (flat_map-map kept_in (node n) (child_prefixes w n codes prefix)))

-- the cells of numbers that stand from a place on, and what a test keeps of them
enumerate_from-cells : (height : ℕ) (base : Cell) (p : ℕ → Bool) (place : ℕ → ℕ) (k : ℕ) (codes : List ℕ)
    → All (λ code. code < 4 ^ height) codes → ((i : ℕ) → i < length codes → place (get_or codes i 0) ≡ k + i)
    → map (λ code. (place code, cell_of height base code)) (filter p codes)
    ≡ filter (λ leaf. p (morton_of height base leaf.1)) (enumerate_from k (map (cell_of height base) codes))
enumerate_from-cells height base p place k [] small stands = refl
enumerate_from-cells height base p place k (c ∷ cs) small stands =
    let back = morton_of-cell_of height base c (small 0 c (omega arith)) in
    let here : place c ≡ k = stands 0 (omega arith) ∙ omega arith in
    let rest = enumerate_from-cells height base p place (k + 1) cs (λ i d h. small (suc i) d (omega arith))
    (λ i h. stands (suc i) (omega arith) ∙ omega arith) in
    elim (cases_Bool (p c)) [
      | inl kept ↦ rw (back, kept, here) (ap (λ xs. (k, cell_of height base c) ∷ xs) rest)
      | inr gone ↦ rw (back, gone) rest
    ]

-- the leaves of the numbers that pass a test are the cells with their numbers whose numbers pass it
pub leaves-enumerated : (height : ℕ) (base : Cell) (p : ℕ → Bool) (codes : List ℕ) → AreCodes height codes
    → map (leaf_with height base codes) (filter p codes)
    ≡ filter (λ leaf. p (morton_of height base leaf.1)) (enumerate_from 0 (map (cell_of height base) codes))
leaves-enumerated height base p codes are =
    enumerate_from-cells height base p (place_among codes) 0 codes are.small
    (λ i h. place_among-at 0 i codes are.rising h ∙ omega arith)
