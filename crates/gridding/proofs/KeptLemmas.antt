-- What a search for a row's object and instant finds in the rows of a chart, and that these are in order.
use Rattle.std.proofs.Common.{◌≡◌, Bool, true, false, List, [], ◌∷◌, ◌++◌, Option, None, refl, sym, ◌∙◌, ap, arith}
use Rattle.std.specs.Prelude.{find, reverse}
use Rattle.std.specs.Cmp.{IsEquivalence}
use Rattle.std.specs.List.{list_any}
use Rattle.std.specs.Option.{option_or}
use Rattle.std.specs.Ordering.{is_lt}
use Rattle.std.proofs.lemmas.Cmp.{and_equiv, int_eq_equiv, nat_eq_equiv, on_equiv}
use Rattle.std.proofs.lemmas.List.{reverse-append}
use Rattle.std.proofs.lemmas.List.Folds.{find-append}
use Rattle.std.proofs.lemmas.Bool.Decides.{nat_tests}
use Rattle.track_types.proofs.RowLemmas.{eq_by_cmp-row_order, row_order_total}
use Rattle.track_types.specs.Row.{IsAscending, is_same_place, row_order}
use Rattle.track_types.specs.declared.row.Row.{Row}
use Rattle.list_laws.specs.Ordered.{AreApart, ordered}
use Rattle.list_laws.proofs.AscendingLemmas.{find-none}
use Rattle.list_laws.proofs.FindLemmas.{find-some_passes}
use Rattle.list_laws.proofs.FirstLemmas.{option_or-none}
use Rattle.list_laws.proofs.MemberLemmas.{list_any-agree, none_from_list_any}
use Rattle.list_laws.proofs.OrderedLemmas.{IsStrictlySortedBy-ordered, find-ordered}
use Rattle.gridding.specs.ChartOf.{last_of_each_instant}

-- the search for the object and instant of a row
abbrev pub found : Row → List Row → Option Row
found sought rows = find (is_same_place sought) rows

pub place_equiv : IsEquivalence is_same_place
place_equiv = and_equiv (on_equiv (λ row. row.object) nat_eq_equiv) (on_equiv (λ row. row.instant) int_eq_equiv)

-- two rows of one place are alike to each test for a place
pub same_alike : (a b sought : Row) → is_same_place a b ≡ true → is_same_place sought a ≡ is_same_place sought b
same_alike a b sought same = place_equiv.symm sought a ∙ place_equiv.congr a b sought same ∙ place_equiv.symm b sought

same_seek_alike : (a b : Row) (rows : List Row) → is_same_place a b ≡ true → list_any (is_same_place a) rows ≡ list_any (is_same_place b) rows
same_seek_alike a b [] same = refl
same_seek_alike a b (row ∷ rows) same = rw (place_equiv.congr a b row same, same_seek_alike a b rows same) refl

-- what is kept has a row of each place that has one
any-kept_at : (sought row : Row) (later : List Row) (again passes : Bool) → list_any (is_same_place row) later ≡ again →
    is_same_place sought row ≡ passes → list_any (is_same_place sought) (last_of_each_instant later) ≡ list_any (is_same_place sought) later →
    list_any (is_same_place sought) (last_of_each_instant (row ∷ later)) ≡ list_any (is_same_place sought) (row ∷ later)
unfolding last_of_each_instant
any-kept_at sought row later true true again passes rest = grind arith
any-kept_at sought row later true false again passes rest = rw (again, passes) rest
any-kept_at sought row later false passing again passes rest = rw (again, rest) refl

pub any-last_of_each_instant : (sought : Row) (rows : List Row) → list_any (is_same_place sought) (last_of_each_instant rows) ≡ list_any (is_same_place sought) rows
any-last_of_each_instant sought [] = unfold last_of_each_instant in refl
any-last_of_each_instant sought (row ∷ later) =
    any-kept_at sought row later (list_any (is_same_place row) later) (is_same_place sought row) refl refl (any-last_of_each_instant sought later)

-- a search in what is kept finds the last row that passes
found-kept_at : (sought row : Row) (later : List Row) (again passes : Bool) → list_any (is_same_place row) later ≡ again →
    is_same_place sought row ≡ passes →
    found sought (last_of_each_instant (row ∷ later)) ≡ option_or (found sought (last_of_each_instant later)) (found sought (row ∷ []))
unfolding last_of_each_instant
found-kept_at sought row later true true again passes =
    grind (arith, nat_tests, any-last_of_each_instant, same_seek_alike, find-some_passes)
found-kept_at sought row later true false again passes = rw (again, passes) (sym (option_or-none (found sought (last_of_each_instant later))))
found-kept_at sought row later false true again passes =
    let none : list_any (is_same_place sought) (last_of_each_instant later) ≡ false = any-last_of_each_instant sought later ∙ same_seek_alike sought row later passes ∙ again in
    let nothing : found sought (last_of_each_instant later) ≡ None =
    find-none (is_same_place sought) (last_of_each_instant later) (λ row inside. none_from_list_any (is_same_place sought) (last_of_each_instant later) row none inside) in
    rw (again, passes, nothing) refl
found-kept_at sought row later false false again passes = rw (again, passes) (sym (option_or-none (found sought (last_of_each_instant later))))

found-last_of_each_instant : (sought : Row) (rows : List Row) → found sought (last_of_each_instant rows) ≡ found sought (reverse rows)
found-last_of_each_instant sought [] = unfold last_of_each_instant in refl
found-last_of_each_instant sought (row ∷ later) =
    let last : reverse (row ∷ later) ≡ reverse later ++ row ∷ [] = reverse-append (row ∷ []) later in
    let behind : found sought (reverse later ++ row ∷ []) ≡ option_or (found sought (reverse later)) (found sought (row ∷ [])) =
    find-append (is_same_place sought) (reverse later) (row ∷ []) in
    found-kept_at sought row later (list_any (is_same_place row) later) (is_same_place sought row) refl refl
    ∙ ap (λ before. option_or before (found sought (row ∷ []))) (found-last_of_each_instant sought later)
    ∙ sym behind ∙ ap (found sought) (sym last)

-- no row comes before another of its place
tied_place : (sought a b : Row) → is_same_place sought a ≡ true → is_same_place sought b ≡ true → is_lt (row_order a b) ≡ false
tied_place sought a b first second = grind (arith, nat_tests)

-- no two rows that are kept tie
apart-kept_at : (row : Row) (later : List Row) (again : Bool) → list_any (is_same_place row) later ≡ again →
    AreApart row_order (last_of_each_instant later) → AreApart row_order (last_of_each_instant (row ∷ later))
unfolding last_of_each_instant
apart-kept_at row later true again rest = rw again rest
apart-kept_at row later false again rest =
    rw again (list_any-agree _ _ (eq_by_cmp-row_order row) (last_of_each_instant later) ∙ any-last_of_each_instant row later ∙ again, rest)

apart-last_of_each_instant : (rows : List Row) → AreApart row_order (last_of_each_instant rows)
apart-last_of_each_instant [] = unfold last_of_each_instant in tt
apart-last_of_each_instant (row ∷ later) = apart-kept_at row later (list_any (is_same_place row) later) refl (apart-last_of_each_instant later)

-- the rows of a chart are in order
pub ascending-last_of_each_instant : (rows : List Row) → IsAscending (ordered row_order (last_of_each_instant rows))
ascending-last_of_each_instant rows = IsStrictlySortedBy-ordered row_order row_order_total (last_of_each_instant rows) (apart-last_of_each_instant rows)

-- what is found in the rows of a chart is the last row of its place
pub found-chart_rows : (sought : Row) (rows : List Row) → found sought (ordered row_order (last_of_each_instant rows)) ≡ found sought (reverse rows)
found-chart_rows sought rows =
    find-ordered row_order (is_same_place sought) (tied_place sought) (last_of_each_instant rows) ∙ found-last_of_each_instant sought rows
