-- What is known of files, all but what the next pass gives.
use Rattle.std.specs.Prelude.{◌≡◌, ℕ, ◌≤◌, List, length, Option}
use Rattle.track_types.specs.declared.limit.TheConstants.{MAX_INDEX}
use Rattle.history.specs.Loads.{Load}
use Rattle.host_ports.specs.FileMap.{FileMap}

-- the map, what is still to come of the begun file, what was loaded, how much came of the begun file, the faults, the
-- counts of calls, and what was saved
pub record FilesState : Type 0 where
  pub map : Option FileMap
  pub rest : Option (List ℕ)
  pub loads : List Load
  pub taken : ℕ
  pub load_faults : ℕ
  pub save_faults : ℕ
  pub saves : ℕ
  pub begins : ℕ
  pub saved : FileMap

-- the state of files, by the meanings of the trait
abbrev pub state_of : Option FileMap → Option (List ℕ) → List Load → ℕ → ℕ → ℕ → ℕ → ℕ → FileMap → FilesState
state_of map rest loads taken load_faults save_faults saves begins saved =
    record {
      map = map;
      rest = rest;
      loads = loads;
      taken = taken;
      load_faults = load_faults;
      save_faults = save_faults;
      saves = saves;
      begins = begins;
      saved = saved;
    }

-- every pass gives what it is handed
abbrev pub IsPlain : (List ℕ → List ℕ) → Type 0
IsPlain given = (bytes : List ℕ) → length bytes ≤ MAX_INDEX → given bytes ≡ bytes
