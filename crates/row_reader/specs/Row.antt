-- What one record is as a row.
use Rattle.std.specs.Prelude.{ℕ, ◌-◌, ◌^◌, ℤ, pos, neg_ℤ, List, [], ◌∷◌, length, Option, Some, None, option_map, Result, Ok, Err}
use Rattle.std.specs.Int.RustNames.{unsigned_abs}
use Rattle.std.specs.Option.{option_or}
use Rattle.track_types.specs.Bounds.{number_within, row_fault_of}
use Rattle.track_types.specs.Numeral.{numeral_of}
use Rattle.track_types.specs.declared.bounds.NumberFault.{NumberFault}
use Rattle.track_types.specs.declared.limit.TheConstants.{MAX_PLACE}
use Rattle.track_types.specs.declared.numeral.Numeral.{Numeral}
use Rattle.track_types.specs.declared.numeral.Numeral.TheVariants.{Value, Large, Not}
use Rattle.track_types.specs.declared.raw_row.RawRow.{RawRow}
use Rattle.track_types.specs.declared.raw_row.RowFault.{RowFault}
use Rattle.track_types.specs.declared.raw_row.RowFault.TheVariants.{Count}
use Rattle.row_reader.specs.declared.row.FieldFault.{FieldFault}

-- the fields of a record, each its bytes
abbrev pub Fields : Type 0
Fields = List (List ℕ)

-- why a field is no number within two bounds
abbrev pub fault_in : Result ℤ NumberFault → Option RowFault
fault_in (Ok value) = None
fault_in (Err fault) = Some (row_fault_of fault)

-- why a field is no numeral within two bounds
abbrev pub field_fault : ℤ → ℤ → List ℕ → Option RowFault
field_fault least greatest word = fault_in (number_within least greatest word)

-- an object is a number of 32 bits
abbrev pub object_fault : List ℕ → Option RowFault
object_fault = field_fault (pos 0) (pos (2 ^ 32 - 1))

-- a time and a coordinate are at most 2^40 away from 0
abbrev pub place_fault : List ℕ → Option RowFault
place_fault = field_fault (neg_ℤ (pos MAX_PLACE)) (pos MAX_PLACE)

-- a fault with its field's number
abbrev pub fault_at : ℕ → Option RowFault → Option FieldFault
fault_at field = option_map (λ fault. record { field = field; fault = fault })

-- why a record is no row: it does not have four fields, or else the first of them that is at fault
abbrev pub record_fault : Fields → Option FieldFault
record_fault (object ∷ time ∷ x ∷ y ∷ []) =
    option_or (fault_at 1 (object_fault object))
    (option_or (fault_at 2 (place_fault time)) (option_or (fault_at 3 (place_fault x)) (fault_at 4 (place_fault y))))
record_fault fields = Some (record { field = length fields; fault = Count })

-- the value of a numeral, and 0 for any other
abbrev pub numeral_value : Numeral → ℤ
numeral_value (Value value) = value
numeral_value Large = pos 0
numeral_value Not = pos 0

-- the value of a field
abbrev pub field_value : List ℕ → ℤ
field_value word = numeral_value (numeral_of word)

-- the row that a record without a fault is
abbrev pub raw_of : Fields → RawRow
raw_of (object ∷ time ∷ x ∷ y ∷ []) =
    record { object = unsigned_abs (field_value object); time = field_value time; x = field_value x; y = field_value y }
raw_of fields = record { object = 0; time = pos 0; x = pos 0; y = pos 0 }
