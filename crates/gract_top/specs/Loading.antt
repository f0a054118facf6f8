-- What came of a file that was loaded.
use Rattle.std.specs.Prelude.{◌≡◌, ℕ, ◌+◌, ◌≤◌, ◌⊎◌, ⊤, true, not, nat_lt, List, [], ◌∷◌, length, take, Option, Some, None}
use Rattle.std.specs.Option.{option_map}
use Rattle.history.specs.Loads.{Load}
use Rattle.host_ports.specs.Faults.{Rose}
use Rattle.host_ports.specs.FileMap.{FileMap, IsMissing, file_named}
use Rattle.host_ports.specs.NumberedCalls.{one_more}
use Rattle.host_ports.specs.declared.files.Files.{Ghosts as OfFiles}
use Rattle.track_types.specs.Limits.{limit_of}
use Rattle.track_types.specs.declared.limit.LimitKind.{LimitKind}

-- where the files are told, these are the first bytes of the one of that name: all of it, or one more than the limit
abbrev pub HoldsFront : Option FileMap → List ℕ → ℕ → List ℕ → Type 0
HoldsFront None name limit bytes = ⊤
HoldsFront (Some files) name limit bytes =
    (whole : List ℕ) × (file_named files name ≡ Some whole) × (bytes ≡ take (limit + 1) whole)

-- the newest of the loads, if there is one
abbrev pub newest_load : List Load → Option Load
newest_load [] = None
newest_load (load ∷ older) = Some load

-- the loads before the newest
abbrev pub older_loads : List Load → List Load
older_loads [] = []
older_loads (load ∷ older) = older

-- the file of that name after these bytes of it came; they are all of it unless they are more than the limit
abbrev pub load_of : List ℕ → ℕ → List ℕ → Load
load_of name limit bytes =
    record { name = name; begun = true; bytes = bytes; ended = not (nat_lt limit (length bytes)) }

-- The newest load is that of this file, and these bytes of it came, and no others: those of the file where files are told. They
-- are as many as were taken.
pub record FileCame (map : Option FileMap) (loads : List Load) (taken : ℕ) (name : List ℕ) (limit : ℕ) (bytes : List ℕ) :
    Type 0 where
  pub counted : taken ≡ length bytes
  pub history : newest_load loads ≡ Some (load_of name limit bytes)
  pub held : HoldsFront map name limit bytes

-- One file was begun in between, the one of that name, and no other.
pub record BeginsFile (name : List ℕ) (before now : List Load) : Type 0 where
  pub named : option_map (λ (load : Load). load.name) (newest_load now) ≡ Some name
  pub older : older_loads now ≡ before

-- The bytes that came of a file are all of it, and no more than its limit.
pub record IsLoaded (kind : LimitKind) (map : Option FileMap) (loads : List Load) (taken : ℕ) (name bytes : List ℕ) : Type 0 where
  pub came : FileCame map loads taken name (limit_of kind) bytes
  pub short : length bytes ≤ limit_of kind

-- All bytes of a file were received: `has_taken` says what took them.
pub record IsReceived (kind : LimitKind) (map : Option FileMap) (loads : List Load) (taken : ℕ) (name : List ℕ)
    (has_taken : List ℕ → Type 0) : Type 0 where
  pub bytes : List ℕ
  pub loaded : IsLoaded kind map loads taken name bytes
  pub received : has_taken bytes

-- What loading a file says of the files: it was begun and no other, and nothing was saved.
pub record LoadsOnly {F : Type 0} (f : OfFiles F) (before now : F) (name : List ℕ) (failed : Type 0) : Type 0 where
  -- it failed where the device did, or where there is no such file
  pub load_failed : failed → Rose (f.load_faults before) (f.load_faults now) ⊎ IsMissing (f.map before) name
  pub missing : IsMissing (f.map before) name → failed
  pub untouched : (failed → ⊥) → f.load_faults now ≡ f.load_faults before
  pub faults : f.load_faults before ≤ f.load_faults now
  pub begins : f.begins now ≡ one_more (f.begins before)
  pub loads : BeginsFile name (f.loads before) (f.loads now)
  pub map : f.map now ≡ f.map before
  pub saves : f.saves now ≡ f.saves before
  pub saved : f.saved now ≡ f.saved before
  pub save_faults : f.save_faults now ≡ f.save_faults before
  pub given : f.given now ≡ f.given before
