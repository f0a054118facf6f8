-- The bytes of an index file, and the parts that bytes hold, in each version of the format.
use Rattle.std.specs.Prelude.{◌≡◌, ℕ, false, if◌then◌else◌, List, length, Result, Ok}
use Rattle.track_types.specs.PartsForm.{IsShaped}
use Rattle.track_types.specs.Spelling.{holds_parts, spelling_of}
use Rattle.track_types.specs.declared.flaw.Flaw.{Flaw}
use Rattle.track_types.specs.declared.limit.TheConstants.{MAX_VERSION}
use Rattle.track_types.specs.declared.parts.Parts.{Parts}
use Rattle.rule_order.specs.Order.{IsSettled}
use Rattle.rule_store.specs.Table.{IsWholeTable}
use Rattle.snapshots.specs.Bounded.{AreBounds}
use Rattle.snapshots.specs.Parts.{rules_in}
use Rattle.snapshots.specs.SoundParts.{IsValid}
use Rattle.index_format.specs.Fields.{◌>>=◌}
use Rattle.index_format.specs.Spelling.{bytes_of_parts}
use Rattle.index_format.specs.OutlineFile.{outline_bytes}
use Rattle.index_format.specs.Stored.{stored_in}
use Rattle.index_format.specs.declared.stored.Stored.{Stored}
use Rattle.index_format.specs.declared.stored.Stored.TheVariants as stored
use Rattle.outline_parts.specs.OutlineOf.{outline_of}
use Rattle.outline_parts.specs.PartsOfOutline.{parts_of_outline}
use Rattle.index_file.specs.declared.file.Found.{Found}

-- the bytes of the index file that holds parts, in their version
unfoldable pub file_bytes : Parts → List ℕ
file_bytes parts =
    if holds_parts (spelling_of parts.frame.version) then bytes_of_parts parts else outline_bytes (outline_of parts)

-- the parts that are stored
abbrev pub parts_stored : Stored → Parts
parts_stored (stored.Parts parts) = parts
parts_stored (stored.Outline outline) = parts_of_outline outline

-- the parts that the bytes hold, from the first to the last, or the first flaw
unfoldable pub parts_in : List ℕ → Result Parts Flaw
parts_in bytes = do
  held ← stored_in bytes
  Ok (parts_stored held)

-- parts are those of an index, whose rules are in the order of the format
pub record IsOrdered (parts : Parts) : Type 0 where
  pub valid : IsValid parts
  pub order : IsSettled (length parts.alphabet) parts.rules

-- parts have the form that a file of their version holds; if that is an outline, they are those of an index, with their rules in order
pub record IsFormed (parts : Parts) : Type 0 where
  pub shaped : IsShaped parts
  pub ordered : holds_parts (spelling_of parts.frame.version) ≡ false → IsOrdered parts

-- parts are those of an index in the newest version
pub record IsNewest (parts : Parts) : Type 0 where
  pub newest : parts.frame.version ≡ MAX_VERSION
  pub ordered : IsOrdered parts

-- parts are those of an index, and this was found of them: the bounds of its logs, by period, and the entries of its symbols
pub record IsFoundOf (parts : Parts) (found : Found) : Type 0 where
  pub valid : IsValid parts
  pub bounds_are : AreBounds parts found.bounds.items
  pub table_is : IsWholeTable (rules_in parts) found.table
