-- The rows of two charts as one are both merged.
use Rattle.std.proofs.Common.{◌≡◌, List, [], ◌++◌, find, sym, ◌∙◌, ap, subst}
use Rattle.std.specs.Prelude.{not}
use Rattle.std.specs.List.Sorted.{IsStrictlySortedBy}
use Rattle.std.specs.Option.{option_or}
use Rattle.std.specs.Ordering.{eq_by_cmp}
use Rattle.std.proofs.lemmas.List.Elements.{filter_agree}
use Rattle.list_laws.specs.Ordered.{ordered}
use Rattle.list_laws.proofs.MemberLemmas.{list_any-agree}
use Rattle.track_types.proofs.RowLemmas.{eq_by_cmp-row_order, row_order_total}
use Rattle.track_types.specs.Row.{IsAscending, row_order}
use Rattle.track_types.specs.declared.row.Row.{Row}
use Rattle.path_union.specs.Merge.{merge_of}
use Rattle.path_union.specs.Union.{rows_beside, rows_of_both}
use Rattle.path_union.proofs.MergeLemmas.{merge_of-union_of}
use Rattle.path_union.proofs.UnionLemmas.{IsStrictlySortedBy-union_of, beside, find-union_of, union_of}

-- rows tie where they are of one object and instant
pub beside-rows : (later older : List Row) → beside row_order_total later older ≡ rows_beside later older
beside-rows later older =
    filter_agree _ _ (λ y. ap not (list_any-agree _ _ (λ x. eq_by_cmp-row_order y x) later)) older

pub union_of-rows : (later older : List Row) → union_of row_order_total later older ≡ rows_of_both older later
unfolding rows_of_both
union_of-rows later older = ap (λ others. ordered row_order (later ++ others)) (beside-rows later older)

-- a search for the row of a place finds the later one, or else the older
pub find-rows_of_both : (place : Row) (older later : List Row)
    → find (eq_by_cmp row_order place) (rows_of_both older later)
    ≡ option_or (find (eq_by_cmp row_order place) later) (find (eq_by_cmp row_order place) older)
find-rows_of_both place older later =
    ap (find (eq_by_cmp row_order place)) (sym (union_of-rows later older)) ∙ find-union_of row_order_total place later older

module _ (older later : List Row) (up : IsAscending older) (also : IsAscending later) where
  pub IsAscending-rows_of_both : IsAscending (rows_of_both older later)
  IsAscending-rows_of_both =
      subst IsAscending (union_of-rows later older) (IsStrictlySortedBy-union_of row_order_total later older also up)

  pub rows_of_both-merged : rows_of_both older later ≡ merge_of row_order later older
  rows_of_both-merged = sym (union_of-rows later older) ∙ merge_of-union_of row_order_total later older also up

-- without later rows they are the older
pub rows_of_both-none : (rows : List Row) → IsAscending rows → rows_of_both rows [] ≡ rows
unfolding merge_of IsStrictlySortedBy
rows_of_both-none rows up = sym (union_of-rows [] rows) ∙ merge_of-union_of row_order_total [] rows tt up
