-- The definitions, run on small rows.
use Rattle.std.proofs.Common.{◌≡◌, ℕ, List, [], ◌∷◌, None, Some, pos, refl}
use Rattle.list_laws.specs.Ordered.{ordered, insert_in_order}
use Rattle.track_types.specs.declared.cell.Cell.{Cell}
use Rattle.track_types.specs.declared.limit.LimitKind.TheVariants.{Rows}
use Rattle.track_types.specs.declared.row.Row.{Row}
use Rattle.track_types.specs.declared.stop.Stop.{Stop}
use Rattle.gridding.specs.declared.fault.GridFault.TheVariants.{Limit}
use Rattle.path_union.specs.Fault.{count_fault}
use Rattle.path_union.specs.Merge.{merge_of}
use Rattle.path_union.specs.Reads.{first_beyond, unless_past, up_to}
use Rattle.path_union.specs.Union.{rows_of_both}
use Rattle.path_union.specs.Walk.{stops_of_both}

-- a cell by its coordinates
abbrev at : ℕ → ℕ → Cell
at x y = record { x = pos x; y = pos y }

-- a row of an object and an instant
abbrev row : ℕ → ℕ → Cell → Row
row object instant cell = record { object = object; instant = pos instant; cell = cell }

-- objects 7 and 9, and the rows that came later: one in place of the last of 7, and one of object 8
abbrev older : List Row
older = row 7 0 (at 10 10) ∷ row 7 2 (at 12 11) ∷ row 9 0 (at 4 4) ∷ []

abbrev later : List Row
later = row 7 2 (at 9 9) ∷ row 8 5 (at 1 1) ∷ []

-- the later row counts
joins : rows_of_both older later ≡ row 7 0 (at 10 10) ∷ row 7 2 (at 9 9) ∷ row 8 5 (at 1 1) ∷ row 9 0 (at 4 4) ∷ []
unfolding rows_of_both ordered insert_in_order
joins = refl

-- so where they are older
joins_older : rows_of_both later older ≡ row 7 0 (at 10 10) ∷ row 7 2 (at 12 11) ∷ row 8 5 (at 1 1) ∷ row 9 0 (at 4 4) ∷ []
unfolding rows_of_both ordered insert_in_order
joins_older = refl

-- a stop of an instant
abbrev stop : ℕ → Cell → Stop
stop instant cell = record { instant = pos instant; cell = cell }

-- of two stops of an instant the later one
walks : stops_of_both (stop 2 (at 9 9) ∷ []) (stop 0 (at 10 10) ∷ stop 2 (at 12 11) ∷ []) ≡ stop 0 (at 10 10) ∷ stop 2 (at 9 9) ∷ []
unfolding merge_of
walks = refl

-- one row too many, and four billion
one_more : count_fault 16777217 ≡ Some (Limit Rows 16777217)
one_more = refl

many_more : count_fault 4194304000 ≡ Some (Limit Rows 16777217)
many_more = refl

enough : count_fault 16777216 ≡ None
enough = refl

-- where two rows may be the third of both is one too many, and where four may be none is
third_beyond : first_beyond 2 (rows_of_both older later) ≡ Some (row 8 5 (at 1 1))
unfolding rows_of_both ordered insert_in_order
third_beyond = refl

none_beyond : first_beyond 4 (rows_of_both older later) ≡ None
unfolding rows_of_both ordered insert_in_order
none_beyond = refl

-- so what is read up to a row is read up to that one, or all is read
read_up_to : up_to (λ (end : Row). end.object) 40 (first_beyond 2 (rows_of_both older later)) ≡ 8
unfolding rows_of_both ordered insert_in_order
read_up_to = refl

read_all : up_to (λ (end : Row). end.object) 40 (first_beyond 4 (rows_of_both older later)) ≡ 40
unfolding rows_of_both ordered insert_in_order
read_all = refl

-- seven reads until a stop at 5 or after it: none where a stop at 5 is there, and all where one at 4 is
past_five : unless_past (pos 5) (Some (stop 5 (at 9 9))) 7 ≡ 0
past_five = refl

before_five : unless_past (pos 5) (Some (stop 4 (at 9 9))) 7 ≡ 7
before_five = refl
