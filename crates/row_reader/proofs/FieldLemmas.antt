-- The fields of a record.
use Rattle.std.proofs.Common.{◌≡◌, ℕ, zero, suc, ◌<◌, [], ◌∷◌, length, get_or, Option, Some, None, IsSome, option_map, refl, arith}
use Rattle.csv.specs.Records.{field_at}
use Rattle.row_reader.specs.Row.{Fields}

-- there is a field at each place
pub field_at-below : (fields : Fields) (place : ℕ)
    → place < length fields → field_at fields place ≡ Some (get_or fields place [])
unfolding field_at
field_at-below [] place below = absurd (omega arith)
field_at-below (field ∷ fields) zero below = refl
field_at-below (field ∷ fields) (suc place) below = field_at-below fields place (omega arith)

-- what a value is mapped from is a value
pub IsSome-option_map : {A B : Type 0} (f : A → B) (option : Option A) (value : B)
    → option_map f option ≡ Some value → IsSome option
IsSome-option_map f None value e = cc
IsSome-option_map f (Some found) value e = refl
