-- Rows in order, path by path.
use Rattle.std.proofs.Common.{◌≡◌, ℕ, ◌+◌, ◌<◌, ◌≤◌, true, false, List, [], ◌∷◌, ◌++◌, length, get_or, map, take, drop, All, Option, Some, None, refl, sym, subst, ◌∙◌, ap, arith, inl, inr}
use Rattle.std.specs.Prelude.{nat_le}
use Rattle.std.specs.List.{AllByRecursion}
use Rattle.std.specs.List.Sorted.{IsPartitionPoint, IsPartitionedBy, IsStrictlySortedBy}
use Rattle.std.specs.Option.{IfSome}
use Rattle.std.specs.declared.cmp.Ordering.TheVariants.{Less}
use Rattle.std.proofs.lemmas.Bool.{cases_lt}
use Rattle.std.proofs.lemmas.Bool.Decides.{nat_tests}
use Rattle.std.proofs.lemmas.List.{get_or-drop, get_or-take, length-drop, length-take, take-append-drop}
use Rattle.std.proofs.lemmas.Map.Keys.{Less-from_sorted}
use Rattle.std.proofs.lemmas.List.Elements.{All-from_recursion, recursion_from_All}
use Rattle.track_types.proofs.RowLemmas.{object_le}
use Rattle.track_types.specs.ByFilter.{stop_of}
use Rattle.track_types.specs.Row.{IsAscending, row_order}
use Rattle.track_types.specs.declared.row.Row.{Row}
use Rattle.path_union.specs.Paths.{IsFirstPath, first_object}
use Rattle.path_union.specs.Walk.{row_at}

-- the later ones of rows in order are of no lesser object
not_lesser : (row : Row) (rows : List Row) → AllByRecursion (λ y. row_order row y ≡ Less) rows
    → AllByRecursion (λ y. row.object ≤ y.object) rows
not_lesser row [] all = tt
not_lesser row (y ∷ ys) all = (object_le row y all.0, not_lesser row ys all.1)

-- none is of a lesser object than the first
pub least-first : (object : ℕ) (rows : List Row) → IsAscending rows → first_object rows ≡ Some object
    → All (λ row. object ≤ row.object) rows
unfolding IsStrictlySortedBy
least-first object [] up first = absurd (cc)
least-first object (row ∷ rows) up first =
    let is : row.object ≡ object = cc in
    rw (sym is) (All-from_recursion (λ y. row.object ≤ y.object) (row ∷ rows) (omega arith, not_lesser row rows up.0))

-- what stands behind rows in order is in order
pub ascending-behind : (xs ys : List Row) → IsAscending (xs ++ ys) → IsAscending ys
unfolding IsStrictlySortedBy
ascending-behind [] ys up = up
ascending-behind (x ∷ xs) ys up = ascending-behind xs ys up.1

-- the rows of an object are those of their stops
pub rows-stops : (object : ℕ) (rows : List Row) → AllByRecursion (λ row. row.object ≡ object) rows
    → rows ≡ map (row_at object) (map stop_of rows)
rows-stops object [] own = refl
rows-stops object (row ∷ rows) own =
    ap (λ first. record { object = first; instant = row.instant; cell = row.cell } ∷ rows) own.0
    ∙ ap (λ xs. row_at object (stop_of row) ∷ xs) (rows-stops object rows own.1)

-- so the first of rows in order
pub least-if : (first : Option ℕ) (rows : List Row) → IsAscending rows → first ≡ first_object rows
    → IfSome first (λ object. All (λ row. object ≤ row.object) rows)
least-if None rows up is = tt
least-if (Some object) rows up is = least-first object rows up (sym is)

-- rows in order are cut where greater objects begin
module _ (object : ℕ) (rows : List Row) (up : IsAscending rows) where
  objects_up : (i j : ℕ) (d : Row) → i ≤ j → j < length rows → (get_or rows i d).object ≤ (get_or rows j d).object
  objects_up i j d low high = elim (cases_lt i j) [
    | inl before ↦ object_le (get_or rows i d) (get_or rows j d) (Less-from_sorted row_order rows i j d up before high)
    | inr at ↦ let same : i ≡ j = omega arith in rw same (omega arith)
  ]

  upto-less : (a b : ℕ) → a ≤ b → nat_le b object ≡ true → nat_le a object ≡ true
  upto-less a b low is = grind (arith, nat_tests)

  pub IsPartitionedBy-upto_object : IsPartitionedBy (λ row. nat_le row.object object) rows
  IsPartitionedBy-upto_object i j d low high is = upto-less _ _ (objects_up i j d low high) is

  same_object : (a : ℕ) → nat_le a object ≡ true → object ≤ a → a ≡ object
  same_object a upto least = let most : a ≤ object = grind (arith, nat_tests) in omega arith

  greater_object : (a : ℕ) → nat_le a object ≡ false → object < a
  greater_object a past = grind (arith, nat_tests)

  module _ (first : first_object rows ≡ Some object) (i : ℕ)
      (parted : IsPartitionPoint (λ row. nat_le row.object object ≡ true) (λ row. nat_le row.object object ≡ false) rows i)
      (within : i ≤ length rows) where
    own-front : All (λ row. row.object ≡ object) (take i rows)
    own-front k d below =
        let many = length-take i rows in
        let inside : k < i = omega (arith, below, many) in
        let here : get_or (take i rows) k d ≡ get_or rows k d = get_or-take i rows k d inside in
        rw here (same_object (get_or rows k d).object (parted.0 k d (omega arith) inside)
        (least-first object rows up first k d (omega (arith, inside, within))))

    greater-behind : All (λ row. object < row.object) (drop i rows)
    greater-behind k d below =
        let many = length-drop i rows in
        let here : get_or (drop i rows) k d ≡ get_or rows (i + k) d = get_or-drop i rows k d in
        rw here (greater_object (get_or rows (i + k) d).object
        (parted.1 (i + k) d (omega arith) (omega (arith, below, many, within))))

    -- the rows in front are the path of the first object
    pub first-path : (path later : List Row) → path ≡ take i rows → later ≡ drop i rows
        → IsFirstPath object (map stop_of path) rows later
    first-path path later are others = record {
      all =
          sym (take-append-drop i rows) ∙ ap (λ xs. xs ++ drop i rows) (sym are) ∙ ap (λ xs. path ++ xs) (sym others)
          ∙ ap (λ xs. xs ++ later)
          (rows-stops object path (recursion_from_All (λ row. row.object ≡ object) path
          (subst (All (λ row. row.object ≡ object)) (sym are) own-front)));
      greater = subst (All (λ row. object < row.object)) (sym others) greater-behind;
    }

    -- it has a row
    pub some-front : 0 < i
    some-front = elim (cases_lt 0 i) [
      | inl some ↦ some
      | inr none ↦ absurd (never rows first (λ d some. parted.1 0 d (omega (arith, none)) some))
    ] where
      never : (rows : List Row) → first_object rows ≡ Some object
          → ((d : Row) → 0 < length rows → nat_le (get_or rows 0 d).object object ≡ false) → ⊥
      never [] is past = absurd (cc)
      never (row ∷ rows) is past =
          let same : row.object ≡ object = cc in
          let more : object < row.object = greater_object row.object (past row (omega arith)) in
          absurd (omega (arith, same, more))
