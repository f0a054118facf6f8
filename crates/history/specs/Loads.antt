-- What came of files that were loaded, one after another.
use Rattle.std.specs.Prelude.{ℕ, Bool, true, false, List, [], ◌∷◌, ◌++◌}

-- a file that was loaded: its name, whether it could be begun, the bytes that came of it, oldest first, and whether
-- the last piece was empty, which is its end
pub record Load : Type 0 where
  pub name : List ℕ
  pub begun : Bool
  pub bytes : List ℕ
  pub ended : Bool

-- a file before any of its bytes came
abbrev pub new_load : List ℕ → Bool → Load
new_load name begun = record { name = name; begun = begun; bytes = []; ended = false }

-- whether a piece is the end: it has no bytes
abbrev pub is_end : List ℕ → Bool
is_end [] = true
is_end (byte ∷ others) = false

-- a file after one more piece of it came
abbrev pub grown : Load → List ℕ → Load
grown load piece = record load { bytes = load.bytes ++ piece; ended = is_end piece }

-- the loads after one more piece of the newest came; where none was begun, it is a piece of a file without a name
abbrev pub with_piece : List Load → List ℕ → List Load
with_piece [] piece = grown (new_load [] false) piece ∷ []
with_piece (newest ∷ older) piece = grown newest piece ∷ older

-- bytes that went through a device, oldest first, and whether the last piece was empty
pub record Stream : Type 0 where
  pub bytes : List ℕ
  pub ended : Bool

-- what came of the newest load
abbrev pub newest_stream : List Load → Stream
newest_stream [] = record { bytes = []; ended = false }
newest_stream (newest ∷ older) = record { bytes = newest.bytes; ended = newest.ended }

-- a load as a file: its name, and the bytes that came of it
abbrev pub file_of : Load → List ℕ × List ℕ
file_of load = (load.name, load.bytes)
