-- The bytes of index files, and of those that are upgraded.
use Rattle.std.proofs.Common.{◌≡◌, ◌∙◌, ℕ, List, Result, Ok, Err, None, ap, sym}
use Rattle.std.specs.Prelude.{IfOk, OnOk}
use Rattle.track_types.specs.declared.flaw.Flaw.{Flaw}
use Rattle.track_types.specs.declared.parts.Parts.{Parts}
use Rattle.index_file.specs.File.{file_bytes, IsFormed}
use Rattle.index_file.proofs.FileLaws.{IsNewest-formed}
use Rattle.track_types.specs.declared.format_fault.FormatFault.{FormatFault}
use Rattle.track_index.specs.CheckFlaws.{check_flaw}
use Rattle.track_index.specs.Opening.{IsFile}
use Rattle.track_index.specs.Newest.{newest_of}
use Rattle.track_index.proofs.CheckLemmas.{IsSound-unflawed}
use Rattle.track_index.proofs.DecidingLemmas.{parts_in-file}
use Rattle.track_index.proofs.NewestLemmas.{newest_of-newest}
use Rattle.gract_top.specs.Upgrading.{upgrade_bytes, IsUpgrade}

-- parts that were read and upgraded are those of an index file
pub upgraded-file : (result : Result Parts FormatFault) (bytes : List ℕ) (parts : Parts) → IsFormed parts →
    bytes ≡ file_bytes parts → OnOk result (check_flaw parts ≡ None) →
    IfOk result (λ newest. newest ≡ newest_of parts) →
    IfOk result (λ newest. (held : Parts) × IsFile bytes held × (newest ≡ newest_of held))
upgraded-file (Ok newest) bytes parts formed spelled none is = (
  parts,
  record {
    valid = record { shaped = formed.shaped; sound = IsSound-unflawed parts formed.shaped none };
    formed = formed;
    spelled = spelled;
  },
  is,
)
upgraded-file (Err found) bytes parts formed spelled none is = tt

-- bytes are those of one index file at most
pub IsFile-one : (bytes : List ℕ) (first second : Parts) → IsFile bytes first → IsFile bytes second → first ≡ second
IsFile-one bytes first second one two =
    let both : ◌≡◌ {A = Result Parts Flaw} (Ok first) (Ok second) =
    sym (parts_in-file bytes first one) ∙ parts_in-file bytes second two in cc

-- the bytes of an index file and of its upgrade; a file of the newest version comes back as it is
pub IsUpgrade-file : (bytes newest : List ℕ) (parts : Parts) → IsFile bytes parts → newest ≡ upgrade_bytes parts →
    IsUpgrade bytes newest
IsUpgrade-file bytes newest parts file spelled = record {
  parts = parts;
  file = file;
  spelled = spelled;
  same = λ last. spelled ∙ ap file_bytes (newest_of-newest parts (IsNewest-formed parts file.formed last)) ∙ sym file.spelled;
}
