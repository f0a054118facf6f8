-- A word as a whole number within two bounds.
use Rattle.std.specs.Prelude.{ℕ, ℤ, if◌then◌else◌, List, Result, Ok, Err}
use Rattle.track_types.specs.Numeral.{numeral_of}
use Rattle.track_types.specs.Region.{is_between}
use Rattle.track_types.specs.declared.bounds.NumberFault.{NumberFault}
use Rattle.track_types.specs.declared.bounds.NumberFault.TheVariants.{NotNumber, Range}
use Rattle.track_types.specs.declared.raw_row.RowFault.{RowFault}
use Rattle.track_types.specs.declared.raw_row.RowFault.TheVariants as row
use Rattle.track_types.specs.declared.numeral.Numeral.{Numeral}
use Rattle.track_types.specs.declared.numeral.Numeral.TheVariants.{Value, Large, Not}

-- the value of a numeral, or that it is out of the bounds, or that there is no numeral
abbrev pub value_within : ℤ → ℤ → Numeral → Result ℤ NumberFault
value_within least greatest (Value value) = if is_between least greatest value then Ok value else Err Range
value_within least greatest Large = Err Range
value_within least greatest Not = Err NotNumber

-- the value of a word that is a numeral within two bounds, or why it is none
abbrev pub number_within : ℤ → ℤ → List ℕ → Result ℤ NumberFault
number_within least greatest word = value_within least greatest (numeral_of word)

-- what a field's fault makes of its record
abbrev pub row_fault_of : NumberFault → RowFault
row_fault_of NotNumber = row.NotNumber
row_fault_of Range = row.Range
