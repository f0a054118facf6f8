-- What opening bytes gives: the parts that they hold, or the first flaw.
use Rattle.std.specs.Prelude.{◌≡◌, ℕ, List, Result, Ok, Err, Option, Some}
use Rattle.track_types.specs.declared.flaw.Flaw.{Flaw}
use Rattle.track_types.specs.declared.parts.Parts.{Parts}
use Rattle.snapshots.specs.IndexCost.{open_cost}
use Rattle.snapshots.specs.SoundParts.{IsValid}
use Rattle.index_file.specs.File.{file_bytes, parts_in, IsFormed}
use Rattle.track_index.specs.CheckFlaws.{check_flaw}

-- the bytes are those of an index file that holds these parts
pub record IsFile (bytes : List ℕ) (parts : Parts) : Type 0 where
  pub valid : IsValid parts
  pub formed : IsFormed parts
  pub spelled : bytes ≡ file_bytes parts

-- the first flaw of what was read: that of the reading, else that of the parts
unfoldable pub flaw_after : Result Parts Flaw → Option Flaw
flaw_after (Ok parts) = check_flaw parts
flaw_after (Err flaw) = Some flaw

-- the first flaw of bytes that are not those of an index file
abbrev pub first_flaw : List ℕ → Option Flaw
first_flaw bytes = flaw_after (parts_in bytes)

-- the reads by which what was read is checked: none where there are no parts
unfoldable pub cost_after : Result Parts Flaw → ℕ
cost_after (Ok parts) = open_cost parts
cost_after (Err flaw) = 0

-- how many reads it takes at most to open bytes
abbrev pub bytes_cost : List ℕ → ℕ
bytes_cost bytes = cost_after (parts_in bytes)
