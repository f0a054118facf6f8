-- How the files in memory lie: their names and bytes one after another, in the order in which they came.
use Rattle.std.specs.Prelude.{ℕ, ◌-◌, ◌≤◌, List, [], length, drop, map, Option, Some, None, ⊤, slice_range, reverse}
use Rattle.host_ports.specs.FileMap.{FileMap}
use Rattle.host_ports.specs.declared.file_store.HeldFile.{HeldFile}
use Rattle.host_ports.specs.declared.file_store.Begun.{Begun}

-- the name of a file, then its bytes
abbrev pub file_entry : List ℕ → HeldFile → List ℕ × List ℕ
file_entry store file = (slice_range store file.start file.middle, slice_range store file.middle file.end)

-- the files by name, the one that came last first
abbrev pub file_map : List ℕ → List HeldFile → FileMap
file_map store files = reverse (map (file_entry store) files)

-- a file lies within what is stored
pub record IsInStore (store : List ℕ) (file : HeldFile) : Type 0 where
  pub name : file.start ≤ file.middle
  pub bytes : file.middle ≤ file.end
  pub inside : file.end ≤ length store

-- what is stored, the files by name, and room for how many bytes and files more is reserved
pub record FileStoreView : Type 0 where
  pub stored : List ℕ
  pub files : FileMap
  pub room : ℕ
  pub places : ℕ

-- the bytes that are still to come of the file that was begun
abbrev pub bytes_left : List ℕ → Option Begun → List ℕ
bytes_left store None = []
bytes_left store (Some begun) = drop begun.taken (slice_range store begun.file.middle begun.file.end)

-- how many of its bytes came
abbrev pub taken_count : Option Begun → ℕ
taken_count None = 0
taken_count (Some begun) = begun.taken

-- the file that was begun is there, and has the bytes that came
abbrev pub IsBegun : List ℕ → Option Begun → Type 0
IsBegun store None = ⊤
IsBegun store (Some begun) = IsInStore store begun.file × (begun.taken ≤ begun.file.end - begun.file.middle)
