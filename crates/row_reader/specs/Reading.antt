-- How far a reader is in a file.
use Rattle.std.specs.Prelude.{◌≡◌, ◌≤◌, ◌<◌, ◌+◌, ◌⊎◌, ℕ, Bool, true, false, List, [], ◌∷◌, ◌++◌, length, Option, Some}
use Rattle.csv.specs.Reading.{Ready, default_config, reader_config, reader_state, reader_trim, records_from, source_of}
use Rattle.csv.specs.declared.parser.State.{State}
use Rattle.csv.specs.declared.parser.State.TheVariants as st
use Rattle.csv.specs.declared.reader.Reader.{Reader}
use Rattle.csv.specs.declared.reader.Trim.TheVariants as trim
use Rattle.row_reader.specs.Row.{Fields}
use Rattle.row_reader.specs.Rows.{records_of}

-- so many records are all that a text has from a state
abbrev pub IsEnough : ℕ → State → List ℕ → Type 0
IsEnough count state text = (length text < count) ⊎ ((state ≡ st.StartRecord) × (text ≡ []))

-- the records of a file after those that were seen are the records of this text from this state
pub record IsTextAfter (bytes : List ℕ) (seen : List Fields) (state : State) (text : List ℕ) : Type 0 where
  pub count : ℕ
  pub enough : IsEnough count state text
  pub whole : records_of bytes ≡ seen ++ records_from default_config count state text
  pub within : length text ≤ length bytes

-- a reader of a file, whose source has these bytes left, has given these records, and goes on to give the others
pub record HasRead {R : Type 0} (remaining : R → Option (List ℕ)) (bytes : List ℕ) (seen : List Fields)
    (reader : Reader R) : Type 0 where
  pub text : List ℕ
  pub untrimmed : reader_trim reader ≡ trim.None
  pub ready : Ready reader
  pub plain : reader_config reader ≡ default_config
  pub source : source_of remaining reader ≡ Some text
  pub behind : IsTextAfter bytes seen (reader_state reader) text

-- what a further read shows: one record more, or that the file has no other
abbrev pub ShowsNext : {R : Type 0} → (R → Option (List ℕ)) → List ℕ → List Fields → Fields → Reader R → Bool → Type 0
ShowsNext remaining bytes seen fields reader true =
    HasRead remaining bytes (seen ++ (fields ∷ [])) reader × (length fields ≤ length bytes + 1)
ShowsNext remaining bytes seen fields reader false = records_of bytes ≡ seen
