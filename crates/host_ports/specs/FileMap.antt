-- Files by name. They are told where an implementation says what they hold: files in memory do so, and those on disk do not.
use Rattle.std.specs.Prelude.{◌≡◌, ◌≢◌, ℕ, Bool, true, false, List, [], ◌∷◌, Option, Some, None, ⊤}
use Rattle.std.specs.Io.KnownBytes.{IsAtEnd}
use Rattle.std.specs.Map.{lookup}
use Rattle.std.specs.Str.{bytes_eq}

-- a name, then the bytes of that file; of two files of one name the first counts
abbrev pub FileMap : Type 0
FileMap = List (List ℕ × List ℕ)

-- the bytes of the file of that name, if there is one
abbrev pub file_named : FileMap → List ℕ → Option (List ℕ)
file_named files name = lookup (λ key. bytes_eq key name) files

-- the files after a save, which is the newest of them unless it failed
abbrev pub with_file : Bool → List ℕ → List ℕ → FileMap → FileMap
with_file true name bytes files = files
with_file false name bytes files = (name, bytes) ∷ files

-- where the files are told, there is one of that name, and all its bytes are still to come
abbrev pub IsOpened : Option FileMap → List ℕ → Option (List ℕ) → Type 0
IsOpened None name rest = ⊤
IsOpened (Some files) name rest = (bytes : List ℕ) × (file_named files name ≡ Some bytes) × (rest ≡ Some bytes)

-- the files are told, and there is none of that name
abbrev pub IsMissing : Option FileMap → List ℕ → Type 0
IsMissing None name = ⊥
IsMissing (Some files) name = file_named files name ≡ None

-- nothing is left to come, and where an implementation told what is left, it tells that still
abbrev pub LeavesNothing : Option (List ℕ) → Option (List ℕ) → Type 0
LeavesNothing None after = IsAtEnd after
LeavesNothing (Some bytes) after = after ≡ Some []

-- where the files are told, that name holds the bytes
abbrev pub IsSaved : Option FileMap → List ℕ → List ℕ → Type 0
IsSaved None name bytes = ⊤
IsSaved (Some files) name bytes = file_named files name ≡ Some bytes

-- every name but that one holds what it held, and files that were told are told still
abbrev pub KeepsOthers : Option FileMap → Option FileMap → List ℕ → Type 0
KeepsOthers None after name = ⊤
KeepsOthers (Some before) after name =
    (files : FileMap) × (after ≡ Some files)
    × ((other : List ℕ) → other ≢ name → file_named files other ≡ file_named before other)
