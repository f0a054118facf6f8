-- The order of rows, and the row of an object and an instant.
use Rattle.std.proofs.Common.{◌≡◌, ℕ, ℤ, ◌+◌, ◌<◌, ◌≤◌, false, List, length, get_or, Ordering, Some, None, Result, Ok, Err, refl, sym, ◌∙◌, ap, arith, inl, inr}
use Rattle.std.specs.Prelude.{MatchResult, find, option_map, ◌&&◌, ◌==◌}
use Rattle.std.specs.Cmp.{IsTotalOrder}
use Rattle.std.specs.List.{Contains}
use Rattle.std.specs.List.Sorted.{IsBinarySearchResult, IsNonDecreasingBy, IsPartitionPoint, IsSearchInRange}
use Rattle.std.specs.declared.cmp.Ordering.TheVariants.{Less, Equal, Greater}
use Rattle.std.specs.Ordering.{eq_by_cmp, int_cmp, int_eq, is_eq, is_lt, nat_cmp, ordering_index, ordering_reverse, ordering_then}
use Rattle.std.proofs.lemmas.Cmp.{int_cmp_total, nat_cmp_total, on_total, then_total}
use Rattle.std.proofs.lemmas.Bool.{cases_lt}
use Rattle.std.proofs.lemmas.Bool.Decides.{nat_tests}
use Rattle.std.proofs.lemmas.List.Elements.{Contains-get_or}
use Rattle.std.proofs.lemmas.List.Sorted.{searchable_from_sorted}
use Rattle.std.proofs.lemmas.Map.Keys.{Less-from_sorted}
use Rattle.track_types.specs.ByFilter.{cell_at}
use Rattle.track_types.specs.Row.{IsAscending, is_row_of, is_same_place, place_of, place_order, row_order}
use Rattle.track_types.specs.declared.row.Row.{Row}
use Rattle.list_laws.proofs.AscendingLemmas.{find-agree, find-member, find-none}

pub place_order_total : IsTotalOrder place_order
place_order_total = then_total (on_total (λ place. place.0) nat_cmp_total) (on_total (λ place. place.1) int_cmp_total)

pub row_order_total : IsTotalOrder row_order
row_order_total = on_total place_of place_order_total

-- rows in order have their objects in order
pub object_le : (a b : Row) → row_order a b ≡ Less → a.object ≤ b.object
object_le a b below = grind (arith, nat_tests)

-- places tie where both parts are equal
pub eq_by_cmp-place_order : (object other : ℕ) (instant also : ℤ) →
    is_eq (ordering_then (nat_cmp object other) (int_cmp instant also)) ≡ ((object == other) && int_eq instant also)
eq_by_cmp-place_order object other instant also = grind (arith, nat_tests)

-- rows tie where they are of one object and one instant
pub eq_by_cmp-row_order : (a b : Row) → eq_by_cmp row_order a b ≡ is_same_place a b
eq_by_cmp-row_order a b = eq_by_cmp-place_order a.object b.object a.instant b.instant

-- a test for the row of a place, by the order
is_row_of-order : (place : ℕ × ℤ) (row : Row) → is_row_of place.0 place.1 row ≡ is_eq (place_order place (place_of row))
is_row_of-order place row = sym (eq_by_cmp-place_order place.0 row.object place.1 row.instant)

-- rows in order are not decreasing against any place
ascending-searchable : (rows : List Row) (place : ℕ × ℤ) → IsAscending rows →
    IsNonDecreasingBy (λ row. ordering_index (place_order (place_of row) place)) rows
ascending-searchable rows place up =
    searchable_from_sorted place_order_total place_of rows place
    (λ k d low high.
    let below : row_order (get_or rows k d) (get_or rows (k + 1) d) ≡ Less = Less-from_sorted row_order rows k (k + 1) d up (omega arith) high in
    let above : row_order (get_or rows (k + 1) d) (get_or rows k d) ≡ Greater = row_order_total.antisymm (get_or rows (k + 1) d) (get_or rows k d) ∙ ap ordering_reverse below in
    ap is_lt above)

-- a row that ties with a place is the one at it
cell_at-tied : (rows : List Row) (place : ℕ × ℤ) (row : Row) → IsAscending rows → Contains rows row →
    place_order (place_of row) place ≡ Equal → cell_at rows place.0 place.1 ≡ Some row.cell
cell_at-tied rows place row up inside tied =
    let agree : (z : Row) → is_row_of place.0 place.1 z ≡ eq_by_cmp row_order row z = λ z.
    is_row_of-order place z ∙ ap is_eq (sym (place_order_total.congr (place_of row) place (place_of z) tied)) in
    let found : find (is_row_of place.0 place.1) rows ≡ Some row =
    find-agree _ _ agree rows ∙ find-member row_order_total rows row up inside in
    ap (option_map (λ z. z.cell)) found

-- a row that does not tie with a place is not the one at it
is_row_of-apart : (place : ℕ × ℤ) (row : Row) (o : Ordering) → place_order (place_of row) place ≡ o → is_eq (ordering_reverse o) ≡ false →
    is_row_of place.0 place.1 row ≡ false
is_row_of-apart place row o is apart =
    is_row_of-order place row ∙ ap is_eq (place_order_total.antisymm place (place_of row) ∙ ap ordering_reverse is) ∙ apart

-- in a list that is parted at i, no row ties with the place
apart_at : (rows : List Row) (place : ℕ × ℤ) (i : ℕ) →
    IsPartitionPoint (λ row. place_order (place_of row) place ≡ Less) (λ row. place_order (place_of row) place ≡ Greater) rows i →
    (z : Row) → Contains rows z → is_row_of place.0 place.1 z ≡ false
apart_at rows place i parted z inside =
    let k = inside.0 in
    let within : k < length rows = inside.1 in
    let here : get_or rows k z ≡ z = inside.2 in
    elim (cases_lt k i) [
      | inl before ↦ is_row_of-apart place z Less (rw here at (parted.0 k z (omega arith) before)) refl
      | inr behind ↦ is_row_of-apart place z Greater (rw here at (parted.1 k z behind within)) refl
    ]

-- a binary search by object and instant finds the cell of the row, or that there is none
pub cell_at-binary_search : (rows : List Row) (object : ℕ) (instant : ℤ) (r : Result ℕ ℕ) → IsAscending rows →
    IsSearchInRange r (length rows) → IsBinarySearchResult (λ row. place_order (place_of row) (object, instant)) rows r →
    MatchResult r (λ i. (d : Row) → cell_at rows object instant ≡ Some (get_or rows i d).cell) (λ i. cell_at rows object instant ≡ None)
cell_at-binary_search rows object instant (Ok i) up within answer =
    λ d. cell_at-tied rows (object, instant) (get_or rows i d) up (Contains-get_or rows i d within) (answer d)
cell_at-binary_search rows object instant (Err i) up within answer =
    let parted = answer (ascending-searchable rows (object, instant) up) in
    ap (option_map (λ z. z.cell)) (find-none _ rows (apart_at rows (object, instant) i parted))
