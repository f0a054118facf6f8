-- The definitions, run on files that were worked out by hand.
use Rattle.std.proofs.Common.{◌≡◌, ℕ, ◌∷◌, [], Some, None, codes, pos, neg_ℤ, refl}
use Rattle.csv.proofs.OnLiterals.{csv_on_literals}
use Rattle.track_types.specs.declared.raw_row.RowFault.TheVariants.{Count, NotNumber, Range}
use Rattle.row_reader.specs.Row.{Fields}
use Rattle.row_reader.specs.Rows.{csv_fault, raws_of, records_of, record_refusal}
use Rattle.row_reader.specs.declared.fault.RowsFault.TheVariants.{Row, Limit}

two_records : records_of (codes "7,0,x,1\r\n\n\"8\"\n")
    ≡ (codes "7" ∷ codes "0" ∷ codes "x" ∷ codes "1" ∷ []) ∷ (codes "8" ∷ []) ∷ []
unfolding csv_on_literals
two_records = refl

no_numeral : csv_fault (codes "7,0,x,1") ≡ Some (Row 1 3 NotNumber)
unfolding csv_on_literals
no_numeral = refl

leftmost_first : csv_fault (codes "-1,0,y,0") ≡ Some (Row 1 1 Range)
unfolding csv_on_literals
leftmost_first = refl

three_fields : csv_fault (codes "object,instant,x,y\n7,0,1") ≡ Some (Row 2 3 Count)
unfolding csv_on_literals
three_fields = refl

too_far : csv_fault (codes "7,0,1099511627777,0") ≡ Some (Row 1 3 Range)
unfolding csv_on_literals
too_far = refl

as_far_as_may_be : csv_fault (codes "7,0,1099511627776,0") ≡ None
unfolding csv_on_literals
as_far_as_may_be = refl

second_heading : csv_fault (codes "object,instant,x,y\nobject,instant,x,y\n") ≡ Some (Row 2 1 NotNumber)
unfolding csv_on_literals
second_heading = refl

heading_alone : raws_of (codes "object,\"instant\",x,y") ≡ []
unfolding csv_on_literals
heading_alone = refl

one_too_many : (nth : ℕ) (fields : Fields) → record_refusal 16777216 nth fields ≡ Some (Limit 16777217)
one_too_many nth fields = refl

one_row : raws_of (codes "7,\" -3\t\",+01,2\n") ≡ record { object = 7; time = neg_ℤ (pos 3); x = pos 1; y = pos 2 } ∷ []
unfolding csv_on_literals
one_row = refl
