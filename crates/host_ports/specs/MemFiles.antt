-- What files in memory do.
use Rattle.std.specs.Prelude.{ℕ, ◌+◌, ◌-◌, min, nat_lt, Bool, ◌||◌, if◌then◌else◌, List, [], ◌∷◌, not, is_none, length, take, drop, Option, Some, None, unwrap_or}
use Rattle.history.specs.Loads.{Load, new_load, with_piece}
use Rattle.host_ports.specs.NumberedCalls.{Calls, no_calls, fails_next, counted, numbered, one_more, one_more_if}
use Rattle.host_ports.specs.FileMap.{FileMap, file_named, with_file}

-- The files by name; what is still to come of the one that was begun; what was loaded, and how much of that one; the
-- faults of loading, and the calls. Then how many bytes are left for saves, the calls and the faults of saving, what
-- the next pass gives in place of its bytes, and what was saved.
pub record MemFilesView : Type 0 where
  pub files : FileMap
  pub rest : List ℕ
  pub loads : List Load
  pub taken : ℕ
  pub calls : Calls
  pub room : ℕ
  pub begins : ℕ
  pub saves : ℕ
  pub save_faults : ℕ
  pub laid : Option (List ℕ)
  pub saved : FileMap

-- no files, and nothing begun
abbrev pub new_files : ℕ → List ℕ → MemFilesView
new_files room fails =
    record {
      files = [];
      rest = [];
      loads = [];
      taken = 0;
      calls = no_calls fails;
      room = room;
      begins = 0;
      saves = 0;
      save_faults = 0;
      laid = None;
      saved = [];
    }

-- the files after one was put, which is the first of its name
abbrev pub after_put : MemFilesView → List ℕ → List ℕ → MemFilesView
after_put files name bytes = record files { files = (name, bytes) ∷ files.files }

-- whether the next begin of that name succeeds
abbrev pub is_begun : MemFilesView → List ℕ → Bool
is_begun files name = not (fails_next files.calls || is_none (file_named files.files name))

-- the files after one of that name was begun: all its bytes are still to come, or none after a failure
abbrev pub after_begin : MemFilesView → List ℕ → MemFilesView
after_begin files name =
    record files {
      rest = if fails_next files.calls then [] else unwrap_or (file_named files.files name) [];
      loads = new_load name (is_begun files name) ∷ files.loads;
      taken = 0;
      calls = counted files.calls (fails_next files.calls);
      begins = one_more files.begins;
    }

-- how many bytes the next call gives to a buffer with that much room
abbrev pub next_pull : MemFilesView → ℕ → ℕ
next_pull files room = if fails_next files.calls then 0 else min room (length files.rest)

-- the files after the next bytes were pulled
abbrev pub after_pull : MemFilesView → ℕ → MemFilesView
after_pull files room =
    let count = next_pull files room in
    record files {
      rest = drop count files.rest;
      loads = if fails_next files.calls then files.loads else with_piece files.loads (take count files.rest);
      taken = files.taken + count;
      calls = counted files.calls (fails_next files.calls);
    }

-- whether the next save fails: by its number, as the seventeenth or a later one, or for want of room
abbrev pub is_refused : MemFilesView → List ℕ → List ℕ → Bool
is_refused files name bytes =
    fails_next files.calls || nat_lt 15 files.saves || nat_lt files.room (length name + length bytes)

-- the files after a save, which takes room and is the first of its name, or is a fault
abbrev pub after_save : MemFilesView → List ℕ → List ℕ → MemFilesView
after_save files name bytes =
    let refused = is_refused files name bytes in
    record files {
      files = if refused then files.files else ((name, bytes) ∷ files.files);
      calls = numbered files.calls;
      room = if refused then files.room else (files.room - (length name + length bytes));
      saves = one_more files.saves;
      save_faults = one_more_if refused files.save_faults;
      saved = with_file refused name bytes files.saved;
    }

-- what a pass gives: the bytes that were laid, or else those that it is handed
abbrev pub given_by : Option (List ℕ) → List ℕ → List ℕ
given_by None bytes = bytes
given_by (Some laid) bytes = laid
