-- What is made of the rows of an instant: what the tail's rows leave of it, and what is made of these.
use Rattle.std.proofs.Common.{◌≡◌, ℕ, ℤ, pos, ◌+◌, ◌<◌, length, get_or, take, Bool, true, false, List, [], ◌∷◌, ◌++◌, filter, map, refl, sym, subst, ◌∙◌, ap, arith, inl, inr}
use Rattle.std.specs.Prelude.{not, ◌&&◌, ◌==◌}
use Rattle.std.specs.List.{AllByRecursion, list_any}
use Rattle.std.specs.List.Sorted.{IsPermutation, IsSorted, IsStrictlySortedBy}
use Rattle.std.specs.Ordering.{int_cmp, int_eq, nat_cmp, ordering_then}
use Rattle.std.specs.declared.cmp.Ordering.TheVariants.{Less}
use Rattle.std.proofs.lemmas.Bool.{and_parts, cases_Bool}
use Rattle.std.proofs.lemmas.Bool.Decides.{nat_tests}
use Rattle.std.proofs.lemmas.Cmp.{nat_cmp_total, on_total}
use Rattle.std.proofs.lemmas.List.{append-nil, map-append, take_more}
use Rattle.std.proofs.lemmas.List.Elements.{filter-append, filter_agree}
use Rattle.std.proofs.lemmas.List.Sorted.{IsPermutation-append_comm, IsPermutation-map, IsPermutation-sym, IsPermutation-trans}
use Rattle.std.proofs.Math.Bool.{and_comm}
use Rattle.list_laws.specs.Ordered.{ordered}
use Rattle.list_laws.proofs.FilterLemmas.{filter_and}
use Rattle.list_laws.proofs.KeyedLemmas.{filter_alike}
use Rattle.list_laws.proofs.MapLemmas.{filter-map}
use Rattle.list_laws.proofs.MemberLemmas.{list_any-agree, member_of_filter}
use Rattle.list_laws.proofs.OrderedLemmas.{IsPermutation-ordered}
use Rattle.list_laws.proofs.ApartLemmas.{same_from_sorted}
use Rattle.track_types.specs.ByFilter.{is_row_at}
use Rattle.track_types.specs.Row.{IsAscending, row_order}
use Rattle.track_types.specs.declared.row.Row.{Row}
use Rattle.track_types.proofs.RowLemmas.{row_order_total}
use Rattle.live_tail.specs.Join.{has_place, rows_of_both}
use Rattle.live_tail.proofs.CutLemmas.{any-both}
use Rattle.live_tail.proofs.JoinLemmas.{IsAscending-rows_of_both, beside-rows, union_of-rows}
use Rattle.path_union.proofs.UnionLemmas.{beside, filter-swap, filter-union_of}

-- of the rows of an instant, whether some is of an object
abbrev pub has_object : List Row → ℕ → Bool
has_object own object = list_any (λ (row : Row). object == row.object) own

module _ (instant : ℤ) where
  abbrev at : Row → Bool
  at = is_row_at instant

  place-tests : (own other : ℕ) (here there : ℤ) → int_eq instant here ≡ true →
      ((own == other) && int_eq here there) ≡ ((own == other) && int_eq instant there)
  place-tests own other here there is = grind (arith, nat_tests)

  -- a row of the instant has its object and instant in the tail where its object is among the tail's rows then
  has_place-object : (tail : List Row) (row : Row) → at row ≡ true → has_place tail row ≡ has_object (filter at tail) row.object
  has_place-object tail row is =
      list_any-agree _ _ (λ other. place-tests row.object other.object row.instant other.instant is) tail
      ∙ sym (any-both (λ (other : Row). row.object == other.object) at tail)

  module _ {Y : Type 0} (f : Row → Y) (key : Y → ℕ) (its : (row : Row) → key (f row) ≡ row.object) (q : Row → Bool) where
    -- whether a row is one of the instant that passes the test
    abbrev pub is_found : Row → Bool
    is_found row = is_row_at instant row && q row

    -- what the tail's rows leave
    abbrev pub left_of : List Row → List Y → List Y
    left_of tail found = filter (λ y. not (has_object (filter (is_row_at instant) tail) (key y))) found

    -- what is found with the tail is what its rows leave of what was found without, and what is made of these
    pub found-moved : (rows tail : List Row) → IsAscending rows → IsAscending tail →
        IsPermutation (map f (filter is_found (rows_of_both rows tail)))
        (left_of tail (map f (filter is_found rows)) ++ map f (filter q (filter at tail)))
    found-moved rows tail up also =
        let own : List Row = filter is_found tail in
        let rest : List Row = filter is_found (beside row_order_total tail rows) in
        let joined : filter is_found (rows_of_both rows tail) ≡ ordered row_order (own ++ rest) =
        ap (filter is_found) (sym (union_of-rows tail rows)) ∙ filter-union_of row_order_total is_found tail rows also up in
        let tails : own ≡ filter q (filter at tail) =
        filter_agree _ _ (λ row. and_comm (at row) (q row)) tail ∙ filter_and q at tail in
        let others : map f rest ≡ left_of tail (map f (filter is_found rows)) =
        ap (λ zs. map f (filter is_found zs)) (beside-rows tail rows)
        ∙ ap (map f) (filter-swap is_found (λ row. not (has_place tail row)) rows
        ∙ filter_alike (λ row. not (has_place tail row)) (λ row. not (has_object (filter at tail) (key (f row)))) (filter is_found rows)
        (λ row inside. ap not (has_place-object tail row (and_parts (at row) (q row) (member_of_filter is_found rows row inside).1).0
        ∙ ap (has_object (filter at tail)) (sym (its row)))))
        ∙ sym (filter-map (λ y. not (has_object (filter at tail) (key y))) f (filter is_found rows)) in
        subst (λ zs. IsPermutation (map f (filter is_found (rows_of_both rows tail))) (zs ++ map f (filter q (filter at tail)))) others
        (subst (λ zs. IsPermutation (map f (filter is_found (rows_of_both rows tail))) (map f rest ++ map f zs)) tails
        (IsPermutation-trans _ (map f (own ++ rest)) _
        (IsPermutation-map f (filter is_found (rows_of_both rows tail)) (own ++ rest)
        (subst (λ zs. IsPermutation zs (own ++ rest)) (sym joined)
        (IsPermutation-sym (own ++ rest) (ordered row_order (own ++ rest)) (IsPermutation-ordered row_order (own ++ rest)))))
        (subst (λ zs. IsPermutation zs (map f rest ++ map f own)) (sym (map-append f own rest))
        (IsPermutation-append_comm (map f own) (map f rest)))))

    object-less : (a b : Row) → row_order a b ≡ Less → at a ≡ true → at b ≡ true → nat_cmp (key (f a)) (key (f b)) ≡ Less
    object-less a b less one other = rw (its a, its b) (object-below a.object b.object a.instant b.instant less one other)
      where
        object-below : (own also : ℕ) (here there : ℤ) → ordering_then (nat_cmp own also) (int_cmp here there) ≡ Less
            → int_eq instant here ≡ true → int_eq instant there ≡ true → nat_cmp own also ≡ Less
        object-below own also here there less one other = grind (arith, nat_tests)

    all-less : (row : Row) (rows : List Row) → at row ≡ true → AllByRecursion (λ other. row_order row other ≡ Less) rows →
        AllByRecursion (λ y. nat_cmp (key (f row)) (key y) ≡ Less) (map f (filter is_found rows))
    all-less row [] is all = tt
    all-less row (other ∷ rows) is all = elim (cases_Bool (is_found other)) [
      | inl meets ↦ rw meets (object-less row other all.0 is (and_parts (at other) (q other) meets).0, all-less row rows is all.1)
      | inr fails ↦ rw fails (all-less row rows is all.1)
    ]

    -- it is in strict order by object
    pub found-rises : (rows : List Row) → IsAscending rows →
        IsStrictlySortedBy (λ (a b : Y). nat_cmp (key a) (key b)) (map f (filter is_found rows))
    unfolding IsStrictlySortedBy
    found-rises [] up = tt
    found-rises (row ∷ rows) up = elim (cases_Bool (is_found row)) [
      | inl meets ↦ rw meets (all-less row rows (and_parts (at row) (q row) meets).0 up.0, found-rises rows up.1)
      | inr fails ↦ rw fails (found-rises rows up.1)
    ]

    -- so a sort by object leaves what is found with the tail
    pub found-sorted : (rows tail : List Row) → IsAscending rows → IsAscending tail → (sorted : List Y) →
        IsPermutation (left_of tail (map f (filter is_found rows)) ++ map f (filter q (filter at tail))) sorted →
        IsSorted (λ (a b : Y). nat_cmp (key a) (key b)) sorted → sorted ≡ map f (filter is_found (rows_of_both rows tail))
    found-sorted rows tail up also sorted moved order =
        same_from_sorted (on_total key nat_cmp_total) (map f (filter is_found (rows_of_both rows tail))) sorted
        (found-rises (rows_of_both rows tail) (IsAscending-rows_of_both rows tail up also))
        (IsPermutation-trans _ _ sorted (found-moved rows tail up also) moved) order

-- what an index past the end reads
abbrev pub no_row : Row
no_row = record { object = 0; instant = pos 0; cell = record { x = pos 0; y = pos 0 } }

-- one row more is seen, or is not
module _ {Y : Type 0} (q : Row → Bool) (f : Row → Y) (the_rows : List Row) (i : ℕ) (below : i < length the_rows) where
  more : map f (filter q (take (i + 1) the_rows)) ≡ map f (filter q (take i the_rows)) ++ map f (filter q (get_or the_rows i no_row ∷ []))
  more =
      ap (λ zs. map f (filter q zs)) (take_more the_rows i no_row below)
      ∙ ap (map f) (filter-append q (take i the_rows) (get_or the_rows i no_row ∷ []))
      ∙ map-append f (filter q (take i the_rows)) (filter q (get_or the_rows i no_row ∷ []))

  pub seen-yes : q (get_or the_rows i no_row) ≡ true →
      map f (filter q (take (i + 1) the_rows)) ≡ map f (filter q (take i the_rows)) ++ f (get_or the_rows i no_row) ∷ []
  seen-yes passes =
      let one : filter q (get_or the_rows i no_row ∷ []) ≡ get_or the_rows i no_row ∷ [] = rw passes refl in
      more ∙ ap (λ zs. map f (filter q (take i the_rows)) ++ map f zs) one

  pub seen-no : q (get_or the_rows i no_row) ≡ false → map f (filter q (take (i + 1) the_rows)) ≡ map f (filter q (take i the_rows))
  seen-no fails =
      let none : filter q (get_or the_rows i no_row ∷ []) ≡ [] = rw fails refl in
      more ∙ ap (λ zs. map f (filter q (take i the_rows)) ++ map f zs) none ∙ append-nil _
