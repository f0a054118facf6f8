-- What is known of files at a moment, by the meanings of their trait as a whole.
use Rattle.host_ports.specs.FilesState.{FilesState, state_of}
use Rattle.host_ports.specs.declared.files.Files.{Ghosts as OfFiles}

-- what is known of these files, all but what the next pass gives
abbrev pub files_at : {F : Type 0} → OfFiles F → F → FilesState
files_at g files =
    state_of (g.map files) (g.rest files) (g.loads files) (g.taken files) (g.load_faults files) (g.save_faults files)
    (g.saves files) (g.begins files) (g.saved files)
