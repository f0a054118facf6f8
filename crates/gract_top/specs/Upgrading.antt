-- What the bytes of an index file are in the newest version of the format, or why there are none.
use Rattle.std.specs.Prelude.{◌≡◌, ℕ, ⊤, List, Some}
use Rattle.track_types.specs.declared.limit.TheConstants.{MAX_VERSION}
use Rattle.track_types.specs.declared.parts.Parts.{Parts}
use Rattle.index_file.specs.File.{file_bytes}
use Rattle.track_index.specs.Opening.{first_flaw, IsFile}
use Rattle.track_index.specs.Newest.{newest_of}
use Rattle.gract_top.specs.declared.outcome.Outcome.{Outcome}
use Rattle.gract_top.specs.declared.outcome.Outcome.TheVariants as outcome

-- the bytes of an index file that holds the same in the newest version
abbrev pub upgrade_bytes : Parts → List ℕ
upgrade_bytes parts = file_bytes (newest_of parts)

-- The bytes are those of an index file, and others those of its upgrade: the same ones, where it is of the newest version.
pub record IsUpgrade (bytes newest : List ℕ) : Type 0 where
  pub parts : Parts
  pub file : IsFile bytes parts
  pub spelled : newest ≡ upgrade_bytes parts
  pub same : parts.frame.version ≡ MAX_VERSION → newest ≡ bytes

-- Why bytes were not upgraded: their first flaw, or out of memory.
abbrev pub NotUpgraded : Outcome → List ℕ → Type 0
NotUpgraded (outcome.Flaw flaw) bytes = first_flaw bytes ≡ Some flaw
NotUpgraded outcome.Memory bytes = ⊤
NotUpgraded other bytes = ⊥
