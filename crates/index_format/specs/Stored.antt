-- What the bytes of an index file store, or their first flaw.
use Rattle.std.specs.Prelude.{◌≡◌, ℕ, true, if◌then◌else◌, List, Result, Ok}
use Rattle.track_types.specs.PartsForm.{IsShaped}
use Rattle.track_types.specs.Spelling.{holds_parts, spelling_of}
use Rattle.track_types.specs.declared.flaw.Flaw.{Flaw}
use Rattle.track_types.specs.declared.parts.Parts as whole
use Rattle.index_format.specs.declared.header.Header as headers
use Rattle.index_format.specs.declared.stored.Stored.{Stored}
use Rattle.index_format.specs.declared.stored.Stored.TheVariants.{Parts, Outline}
use Rattle.index_format.specs.Spelling.{bytes_of_parts}
use Rattle.index_format.specs.Fields.{◌>>=◌}
use Rattle.index_format.specs.Reading.{header_at, parts_after}
use Rattle.index_format.specs.OutlineFile.{outline_after, outline_bytes}
use Rattle.index_format.specs.IsOutline.{IsOutline}

-- what all bytes after the header store
unfoldable pub stored_after : headers.Header → List ℕ → Result Stored Flaw
stored_after header bytes =
    if holds_parts (spelling_of header.frame.version) then parts_after header bytes >>= (λ parts. Ok (Parts parts))
    else outline_after header bytes >>= (λ outline. Ok (Outline outline))

-- what the bytes store, from the first to the last
unfoldable pub stored_in : List ℕ → Result Stored Flaw
stored_in bytes = do
  header ← header_at bytes
  stored_after header.0 header.1

-- the bytes of the file
abbrev pub stored_bytes : Stored → List ℕ
stored_bytes (Parts parts) = bytes_of_parts parts
stored_bytes (Outline outline) = outline_bytes outline

-- parts of the form that a file stores as they are
pub record AreOldParts (parts : whole.Parts) : Type 0 where
  pub shaped : IsShaped parts
  pub old : holds_parts (spelling_of parts.frame.version) ≡ true

-- what is stored has the form of an index
abbrev pub IsStored : Stored → Type 0
IsStored (Parts parts) = AreOldParts parts
IsStored (Outline outline) = IsOutline outline
