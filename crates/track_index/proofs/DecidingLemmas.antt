-- Bytes have no flaw if and only if they are those of an index file.
use Rattle.std.proofs.Common.{◌≡◌, ℕ, List, None, Result, Ok, Err, ap, sym, ◌∙◌}
use Rattle.std.specs.Prelude.{IfErr, IfOk}
use Rattle.track_types.specs.Flaws.{IsFormatFaultFor}
use Rattle.track_types.specs.declared.flaw.Flaw.{Flaw}
use Rattle.track_types.specs.declared.parts.Parts.{Parts}
use Rattle.snapshots.specs.SoundParts.{IsValid}
use Rattle.index_format.specs.Answers.{Gives}
use Rattle.track_types.specs.declared.format_fault.FormatFault.{FormatFault}
use Rattle.track_types.specs.declared.format_fault.FormatFault.TheVariants as fault
use Rattle.index_file.specs.File.{parts_in}
use Rattle.index_file.proofs.FileLaws.{parts_in-again}
use Rattle.track_index.specs.CheckFlaws.{check_flaw}
use Rattle.track_index.specs.Opening.{first_flaw, IsFile}
use Rattle.track_index.proofs.CheckLemmas.{check_flaw-sound}
use Rattle.track_index.proofs.OpeningLemmas.{first_flaw-read}

-- the bytes of an index file are read as its parts
pub parts_in-file : (bytes : List ℕ) (parts : Parts) → IsFile bytes parts → parts_in bytes ≡ Ok parts
parts_in-file bytes parts file = ap parts_in file.spelled ∙ parts_in-again parts file.formed

-- they have no flaw
pub first_flaw-file : (bytes : List ℕ) (parts : Parts) → IsFile bytes parts → first_flaw bytes ≡ None
first_flaw-file bytes parts file =
    first_flaw-read bytes parts (parts_in-file bytes parts file) ∙ check_flaw-sound parts file.valid.shaped file.valid.sound

-- where parts are those of the file, nothing but these are answered
pub decided : (read whole : Parts) (answer : Result Parts FormatFault) → ◌≡◌ {A = Result Parts Flaw} (Ok whole) (Ok read)
    → IsValid whole → IfOk answer (λ index. index ≡ read) → IfErr answer (IsFormatFaultFor (check_flaw read))
    → Gives (λ index. index) answer (Ok whole)
decided read whole (Ok index) same valid is fault = same ∙ ap Ok (sym is)
decided read whole (Err fault.Memory) same valid is fault = tt
decided read whole (Err (fault.Flaw flaw)) same valid is fault =
    let none = check_flaw-sound whole valid.shaped valid.sound in
    let parts : whole ≡ read = cc in
    let flawed = ap check_flaw parts in
    absurd (cc)
