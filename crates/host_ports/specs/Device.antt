-- What is known of a device behind std's reading and writing.
use Rattle.std.specs.Prelude.{ℕ, ◌+◌, List, [], Option, Some, Bool, Result, is_err}
use Rattle.history.specs.Loads.{Load}
use Rattle.host_ports.specs.Faults.{read_count}
use Rattle.host_ports.specs.FileMap.{FileMap, with_file}
use Rattle.host_ports.specs.NumberedCalls.{one_more, one_more_if}

-- how many bytes came from a device, and how often it failed
pub record Counts : Type 0 where
  pub taken : ℕ
  pub faults : ℕ

-- nothing came and nothing failed
abbrev pub no_counts : Counts
no_counts = record { taken = 0; faults = 0 }

-- the counts after a read: its bytes are counted, or a fault
abbrev pub after_read : {E : Type 0} → Counts → Result ℕ E → Counts
after_read counts outcome =
    record {
      taken = counts.taken + read_count outcome;
      faults = one_more_if (is_err outcome) counts.faults;
    }

-- the bytes that a reader has left, where it tells them, the bytes that came, whether it ended, and the counts
pub record ReaderView : Type 0 where
  pub left : Option (List ℕ)
  pub came : List ℕ
  pub ended : Bool
  pub counts : Counts

-- The bytes that are left of the file that was begun, where the files are told; what was loaded, how many bytes came of that
-- file, and the faults of loading; the calls of each kind; the faults of saving, and the files that were saved.
pub record DiskView : Type 0 where
  pub left : Option (List ℕ)
  pub loads : List Load
  pub counts : Counts
  pub begins : ℕ
  pub saves : ℕ
  pub save_faults : ℕ
  pub saved : FileMap

-- files before any was begun or saved
abbrev pub new_disk : DiskView
new_disk = record { left = Some []; loads = []; counts = no_counts; begins = 0; saves = 0; save_faults = 0; saved = [] }

-- one save more, and one fault more if it failed, or else one file more
abbrev pub after_disk_save : DiskView → List ℕ → List ℕ → Bool → DiskView
after_disk_save files name bytes is_fault =
    record files {
      saves = one_more files.saves;
      save_faults = one_more_if is_fault files.save_faults;
      saved = with_file is_fault name bytes files.saved;
    }

-- the bytes that a writer holds, where it tells them, those that it took, and how often it failed
pub record WriterView : Type 0 where
  pub contents : Option (List ℕ)
  pub said : List ℕ
  pub faults : ℕ
