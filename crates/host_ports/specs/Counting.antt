-- Where the devices behind the traits counted a fault.
use Rattle.std.specs.Prelude.{◌≡◌, ℕ, ◌≤◌}
use Rattle.host_ports.specs.Faults.{Rose}
use Rattle.host_ports.specs.declared.files.Files.{Ghosts as OfFiles}
use Rattle.host_ports.specs.declared.sink.Sink.{Ghosts as OfSink}
use Rattle.host_ports.specs.declared.source.Source.{Ghosts as OfSource}

-- A count of faults rose where the device failed, and stayed where it did not.
pub record CountsFaults (failed : Type 0) (before now : ℕ) : Type 0 where
  pub cause : failed → Rose before now
  pub untouched : (failed → ⊥) → now ≡ before
  pub faults : before ≤ now

-- the count of faults of saving rose where files failed, and stayed where they did not
abbrev pub SaveCounts : {F : Type 0} → OfFiles F → F → F → Type 0 → Type 0
SaveCounts g before now failed = CountsFaults failed (g.save_faults before) (g.save_faults now)

-- the count of faults rose where a sink failed, and stayed where it did not
abbrev pub SinkCounts : {K : Type 0} → OfSink K → K → K → Type 0 → Type 0
SinkCounts g before now failed = CountsFaults failed (g.faults before) (g.faults now)

-- the count of faults rose where a source failed, and stayed where it did not
abbrev pub SourceCounts : {S : Type 0} → OfSource S → S → S → Type 0 → Type 0
SourceCounts g before now failed = CountsFaults failed (g.faults before) (g.faults now)
