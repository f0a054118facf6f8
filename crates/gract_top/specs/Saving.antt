-- What saving leaves as it was.
use Rattle.std.specs.Prelude.{◌≡◌}
use Rattle.host_ports.specs.FilesState.{FilesState}
use Rattle.gract_top.specs.Counting.{CountsFiles}
use Rattle.gract_top.specs.declared.outcome.Outcome.{Outcome}

-- No file was begun, and nothing was loaded.
pub record SavesOnly (result : Outcome) (before now : FilesState) : Type 0 where
  pub loads : now.loads ≡ before.loads
  pub taken : now.taken ≡ before.taken
  pub begins : now.begins ≡ before.begins
  pub load_faults : now.load_faults ≡ before.load_faults
  pub counts : CountsFiles result before now
