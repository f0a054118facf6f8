-- Bits have no flaw if and only if they are those of Morton numbers.
use Rattle.std.proofs.Common.{◌≡◌, ℕ, zero, suc, ◌+◌, ◌*◌, ◌/◌, ◌<◌, ◌≤◌, ◌==◌, ◌&&◌, ◌||◌, Bool, true, false}
use Rattle.std.proofs.Common.{nat_le, List, [], ◌∷◌, ◌++◌, length, map, take, drop, refl, sym, ap, ◌∙◌, inl, inr, arith}
use Rattle.std.proofs.Common.{None, Some, length-drop, length-append, append_assoc, ◌-◌}
use Rattle.std.specs.List.{list_any, range_with_len}
use Rattle.std.specs.Option.{option_map}
use Rattle.std.proofs.lemmas.Bool.{and_parts, cases_Bool, le-leb, leb-true, or_right}
use Rattle.std.proofs.lemmas.Bool.Decides.{nat_tests}
use Rattle.std.proofs.lemmas.List.{take_at, drop_at, length-take-le, map-append, length-map}
use Rattle.std.proofs.lemmas.List.Folds.{list_any-append}
use Rattle.std.proofs.lemmas.List.FromFn.{length-range_with_len}
use Rattle.std.proofs.lemmas.Option.{none-some}
use Rattle.list_laws.proofs.FirstLemmas.{map-none}
use Rattle.k2_tree.specs.Widths.{widths_of, digits_in, fan_of}
use Rattle.k2_tree.specs.TreeBits.{is_in, prefixes, Rises, children_of_prefixes, level_bits, morton_bits, AreCodes}
use Rattle.k2_tree.specs.Tree.{where_set}
use Rattle.k2_tree.specs.Flaws.{AreNoTree, has_group, group_flaw, level_flaw, tree_flaw}
use Rattle.k2_tree.proofs.RisingLemmas.{is_in-first}
use Rattle.k2_tree.proofs.PrefixLemmas.{by_test, div-group, prefixes-top, fan_pos}
use Rattle.k2_tree.proofs.LongerLemmas.{is_in-group, is_in-parents}
use Rattle.k2_tree.proofs.LevelLemmas.{length-level_bits, ones_of-level_bits}
use Rattle.k2_tree.proofs.WidthLemmas.{digits_in-widths_of}
use Rattle.k2_tree.proofs.ToldLemmas.{morton_bits-none}

-- a list has a number that passes where one of its members does
any_of-member : (p : ℕ → Bool) (xs : List ℕ) (x : ℕ) → is_in xs x ≡ true → p x ≡ true → list_any p xs ≡ true
any_of-member p [] x is passes = is
any_of-member p (y ∷ ys) x is passes = elim (by_test y x) [
  | inl same ↦ let first : p y ≡ true = ap p same.0 ∙ passes in rw first refl
  | inr differ ↦ or_right (p y) (list_any p ys) (any_of-member p ys x (rw differ.1 at is) passes)
]

-- whether a child of the square with this prefix is there
abbrev any_child : ℕ → List ℕ → ℕ → Bool
any_child size codes p = list_any (is_in codes) (range_with_len (size * p) size)

-- a number is its parent's child
any_child-of : (size : ℕ) (codes : List ℕ) (x : ℕ) → 0 < size → is_in codes x ≡ true → any_child size codes (x / size)
    ≡ true
any_child-of size codes x some is =
    let here : is_in (range_with_len (size * (x / size)) size) x ≡ true =
    is_in-group size (x / size) x some ∙ is_in-first-test (x / size) in
    any_of-member (is_in codes) (range_with_len (size * (x / size)) size) x here is
  where
    is_in-first-test : (y : ℕ) → (y == y) ≡ true
    is_in-first-test y = grind (arith, nat_tests)

-- a parent has a child
any_child-parents : (size : ℕ) (codes all : List ℕ) (p : ℕ) → 0 < size
    → ((x : ℕ) → is_in codes x ≡ true → is_in all x ≡ true)
    → list_any (λ x. x / size == p) codes ≡ true → any_child size all p ≡ true
any_child-parents size [] all p some within is = absurd (cc)
any_child-parents size (x ∷ xs) all p some within is = elim (by_test (x / size) p) [
  | inl same ↦ ap (any_child size all) (sym same.0) ∙ any_child-of size all x some (within x (is_in-first x xs))
  | inr differ ↦
      any_child-parents size xs all p some (λ y here. within y (or_right (x == y) (is_in xs y) here))
      (rw differ.1 at is)
]

-- each square of a level has a child in the next
any_child-prefixes : (w n : ℕ) (codes : List ℕ) (p : ℕ) → is_in (prefixes (w + n) codes) p ≡ true
    → any_child (fan_of w) (prefixes n codes) p ≡ true
any_child-prefixes w n codes p is =
    any_child-parents (fan_of w) (prefixes n codes) (prefixes n codes) p (fan_pos w) (λ x here. here)
    (sym (is_in-parents w n codes p) ∙ is)

any-map : (p : ℕ → Bool) (xs : List ℕ) → list_any (λ bit. bit) (map p xs) ≡ list_any p xs
any-map p [] = refl
any-map p (x ∷ xs) = ap (λ b. p x || b) (any-map p xs)

-- where each square has a child, no group is flawed
group_flaw-children : (size : ℕ) (above below : List ℕ) (rest : List Bool)
    → ((p : ℕ) → is_in above p ≡ true → any_child size below p ≡ true)
    → group_flaw size (length above) (map (is_in below) (children_of_prefixes size above) ++ rest) ≡ None
unfolding group_flaw children_of_prefixes
group_flaw-children size [] below rest each = refl
group_flaw-children size (p ∷ ps) below rest each =
    let test : ℕ → Bool = is_in below in
    let children : List ℕ = range_with_len (size * p) size in
    let group : List Bool = map test children in
    let later : List Bool = map test (children_of_prefixes size ps) ++ rest in
    let bits : List Bool = map test (children ++ children_of_prefixes size ps) ++ rest in
    let long : length group ≡ size = length-map children test ∙ length-range_with_len (size * p) size in
    let parted : bits ≡ group ++ later =
    ap (λ xs. xs ++ rest) (map-append test children (children_of_prefixes size ps))
    ∙ append_assoc group (map test (children_of_prefixes size ps)) rest in
    let front : take size (group ++ later) ≡ group = take_at group later size long in
    let back : drop size (group ++ later) ≡ later = drop_at group later size long in
    let whole : nat_le size (length (group ++ later)) ≡ true =
    le-leb size (length (group ++ later)) (omega (arith, long, length-append group later)) in
    let some : list_any (λ bit. bit) group ≡ true = any-map test children ∙ each p (is_in-first p ps) in
    let rest_none : group_flaw size (length ps) later ≡ None =
    group_flaw-children size ps below rest (λ q is. each q (or_right (p == q) (is_in ps q) is)) in
    rw (parted, whole, front, back, some) (ap (option_map (λ place. size + place)) rest_none)

-- so it is in a level of numbers
group_flaw-level_bits : (w n : ℕ) (codes : List ℕ) (rest : List Bool)
    → group_flaw (fan_of w) (length (prefixes (w + n) codes)) (level_bits w n codes ++ rest) ≡ None
unfolding level_bits
group_flaw-level_bits w n codes rest =
    group_flaw-children (fan_of w) (prefixes (w + n) codes) (prefixes n codes) rest (any_child-prefixes w n codes)

-- levels of numbers have no flaw
level_flaw-morton_bits : (widths codes : List ℕ) → Rises 0 codes
    → level_flaw widths (length (prefixes (digits_in widths) codes)) (morton_bits widths codes) ≡ None
unfolding level_flaw morton_bits digits_in
level_flaw-morton_bits [] codes up = refl
level_flaw-morton_bits (w ∷ ws) codes up =
    let n : ℕ = digits_in ws in
    let many : ℕ = fan_of w * length (prefixes (w + n) codes) in
    let level : List Bool = level_bits w n codes in
    let rest : List Bool = morton_bits ws codes in
    let long : length level ≡ many = length-level_bits w n codes in
    let front : take many (level ++ rest) ≡ level = take_at level rest many long in
    let back : drop many (level ++ rest) ≡ rest = drop_at level rest many long in
    let whole = group_flaw-level_bits w n codes rest in
    rw (whole, front, back, ones_of-level_bits w n codes up, level_flaw-morton_bits ws codes up) refl

-- the bits of numbers have no flaw
pub tree_flaw-morton_bits : (widths codes : List ℕ) → AreCodes (digits_in widths) codes
    → tree_flaw widths (morton_bits widths codes) ≡ None
unfolding tree_flaw
tree_flaw-morton_bits widths [] are = rw (morton_bits-none widths) refl
tree_flaw-morton_bits widths (c ∷ cs) are =
    let bits : List Bool = morton_bits widths (c ∷ cs) in
    let top : prefixes (digits_in widths) (c ∷ cs) ≡ 0 ∷ [] = prefixes-top (digits_in widths) c cs are.small in
    any_bits bits
    (ap (λ ps. level_flaw widths (length ps) bits) (sym top) ∙ level_flaw-morton_bits widths (c ∷ cs) are.rising)
  where
    any_bits : (bits : List Bool) → level_flaw widths 1 bits ≡ None → tree_flaw widths bits ≡ None
    any_bits [] none = refl
    any_bits (bit ∷ bits) none = none

-- a group at the front is whole, and has a one
pub has_group-parts : (size : ℕ) (bits : List Bool) → has_group size bits ≡ true
    → (size ≤ length bits) × (list_any (λ bit. bit) (take size bits) ≡ true)
has_group-parts size bits has =
    let parts = and_parts (nat_le size (length bits)) (list_any (λ bit. bit) (take size bits)) has in
    (leb-true size (length bits) parts.0, parts.1)

-- the group at the front of those without a flaw is there, and those after it have no flaw
pub group_flaw-none : (size groups : ℕ) (bits : List Bool) → group_flaw size (suc groups) bits ≡ None
    → (has_group size bits ≡ true) × (group_flaw size groups (drop size bits) ≡ None)
unfolding group_flaw
group_flaw-none size groups bits none = elim (cases_Bool (has_group size bits)) [
  | inl has ↦ (has, map-none (λ place. size + place) (group_flaw size groups (drop size bits)) (rw has at none))
  | inr lacks ↦ absurd (none-some 0 (sym (rw lacks at none)))
]

-- groups without a flaw are all there
pub group_flaw-within : (size groups : ℕ) (bits : List Bool) → group_flaw size groups bits ≡ None
    → size * groups ≤ length bits
group_flaw-within size zero bits none = omega arith
group_flaw-within size (suc groups) bits none =
    let parts = group_flaw-none size groups bits none in
    let rest = group_flaw-within size groups (drop size bits) parts.1 in
    omega (arith, (has_group-parts size bits parts.0).0, rest, length-drop size bits)

-- what is picked of two lists
where_set-append : (bits : List Bool) (xs ys : List ℕ)
    → where_set bits (xs ++ ys) ≡ where_set (take (length xs) bits) xs ++ where_set (drop (length xs) bits) ys
unfolding where_set
where_set-append bits [] ys = none bits
  where
    none : (bits : List Bool) → where_set bits ys ≡ where_set (take 0 bits) [] ++ where_set (drop 0 bits) ys
    none bits = refl
where_set-append [] (x ∷ xs) [] = refl
where_set-append [] (x ∷ xs) (y ∷ ys) = refl
where_set-append (true ∷ bits) (x ∷ xs) ys = ap (λ zs. x ∷ zs) (where_set-append bits xs ys)
where_set-append (false ∷ bits) (x ∷ xs) ys = where_set-append bits xs ys

-- the parents of what bits pick of the children of one square
parents-group : (size p c m start : ℕ) (bits : List Bool) → 0 < size → size * p ≤ start → start + m ≤ size * p + size
    → length bits ≡ m
    → list_any (λ x. x / size == c) (where_set bits (range_with_len start m)) ≡ (list_any (λ bit. bit) bits && (p == c))
unfolding where_set
parents-group size p c zero start [] some low high long = refl
parents-group size p c zero start (bit ∷ bits) some low high long = absurd (omega arith)
parents-group size p c (suc m) start [] some low high long = absurd (omega arith)
parents-group size p c (suc m) start (true ∷ bits) some low high long =
    grind (
      arith,
      parents-group size p c m (start + 1) bits some (omega arith) (omega arith) (omega arith),
      ap (λ q. q == c) (div-group size p start low (omega arith)),
    )
parents-group size p c (suc m) start (false ∷ bits) some low high long =
    parents-group size p c m (start + 1) bits some (omega arith) (omega arith) (omega arith)

-- where each group has a one, the parents of what is picked are all of the prefixes
pub parents-where_set : (size : ℕ) (prefixes : List ℕ) (bits : List Bool) (c : ℕ) → 0 < size
    → group_flaw size (length prefixes) bits ≡ None
    → list_any (λ x. x / size == c) (where_set bits (children_of_prefixes size prefixes)) ≡ is_in prefixes c
unfolding where_set children_of_prefixes
parents-where_set size [] [] c some none = refl
parents-where_set size [] (bit ∷ bits) c some none = refl
parents-where_set size (p ∷ ps) bits c some none =
    let parts = group_flaw-none size (length ps) bits none in
    let whole = has_group-parts size bits parts.0 in
    let children : List ℕ = range_with_len (size * p) size in
    let long : length children ≡ size = length-range_with_len (size * p) size in
    let split : where_set bits (children ++ children_of_prefixes size ps)
    ≡ where_set (take size bits) children ++ where_set (drop size bits) (children_of_prefixes size ps) =
    where_set-append bits children (children_of_prefixes size ps)
    ∙ ap (λ k. where_set (take k bits) children ++ where_set (drop k bits) (children_of_prefixes size ps)) long in
    let group = parents-group size p c size (size * p) (take size bits) some (omega arith) (omega arith)
    (length-take-le size bits whole.0) in
    ap (list_any (λ x. x / size == c)) split
    ∙ list_any-append (λ x. x / size == c) (where_set (take size bits) children) (where_set (drop size bits) (children_of_prefixes size ps))
    ∙ ap (λ b. b || list_any (λ x. x / size == c) (where_set (drop size bits) (children_of_prefixes size ps)))
    (group ∙ ap (λ b. b && (p == c)) whole.1)
    ∙ ap (λ b. (p == c) || b) (parents-where_set size ps (drop size bits) c some parts.1)

-- flawed bits are no tree's
pub AreNoTree-flawed : (height wide : ℕ) (bits : List Bool) (place : ℕ) → 2 * wide ≤ height
    → tree_flaw (widths_of height wide) bits ≡ Some place → AreNoTree height wide bits
AreNoTree-flawed height wide bits place fits flawed codes are same =
    let digits : digits_in (widths_of height wide) ≡ height = digits_in-widths_of height wide fits in
    none-some place (sym (tree_flaw-morton_bits (widths_of height wide) codes (rw digits are))
    ∙ ap (tree_flaw (widths_of height wide)) same ∙ flawed)
