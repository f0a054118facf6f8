-- What is read of a file is formed and spelled so, and what is formed is read again.
use Rattle.std.proofs.Common.{◌≡◌, ℕ, false, List, length, Result, Ok, Err, refl, sym, ◌∙◌, inl, inr}
use Rattle.std.specs.Prelude.{IfOk}
use Rattle.std.proofs.lemmas.Bool.{cases_Bool}
use Rattle.track_types.specs.Spelling.{holds_parts, spelling_of}
use Rattle.track_types.specs.declared.flaw.Flaw.{Flaw}
use Rattle.track_types.specs.declared.limit.TheConstants.{MAX_VERSION}
use Rattle.track_types.specs.declared.parts.Parts.{Parts}
use Rattle.track_types.specs.declared.format_fault.FormatFault.{FormatFault}
use Rattle.index_format.specs.Answers.{Gives}
use Rattle.index_format.specs.Fields.{◌>>=◌}
use Rattle.index_format.specs.OutlineFile.{outline_bytes}
use Rattle.index_format.specs.Stored.{stored_in, stored_bytes, IsStored}
use Rattle.index_format.specs.declared.stored.Stored.{Stored}
use Rattle.index_format.specs.declared.stored.Stored.TheVariants as stored
use Rattle.index_format.proofs.BitLemmas.{IsBytes}
use Rattle.index_format.proofs.SettledLaws.{in_order-settled, settled-in_order}
use Rattle.index_format.proofs.StoredLaws.{stored_in-takes, stored_in-again}
use Rattle.outline_parts.specs.OutlineOf.{outline_of}
use Rattle.outline_parts.specs.PartsOfOutline.{parts_of_outline}
use Rattle.outline_parts.proofs.AgainLemmas.{outline_of-parts}
use Rattle.outline_parts.proofs.OutlineOfLemmas.{IsOutline-outline_of}
use Rattle.outline_parts.proofs.PartsAgainLemmas.{parts_of_outline-outline_of}
use Rattle.outline_parts.proofs.ValidLemmas.{IsValid-outline}
use Rattle.index_file.specs.File.{file_bytes, parts_in, parts_stored, IsFormed, IsNewest}

-- what is stored gives parts that are formed, and the bytes are theirs
parts_stored-formed : (held : Stored) → IsStored held → IsFormed (parts_stored held) × (stored_bytes held ≡ file_bytes (parts_stored held))
unfolding file_bytes parts_of_outline
parts_stored-formed (stored.Parts parts) old =
    (record { shaped = old.shaped; ordered = λ no_parts. absurd (let e = sym old.old ∙ no_parts in cc) }, rw old.old refl)
parts_stored-formed (stored.Outline outline) is =
    let valid = IsValid-outline outline is in (
      record { shaped = valid.shaped; ordered = λ no_parts. record { valid = valid; order = in_order-settled (length outline.alphabet) outline.rules is.rules } },
      rw (is.spelling, outline_of-parts outline is) refl,
    )

-- parts that were read are formed, and the bytes are theirs
pub parts_in-takes : (bytes : List ℕ) → IsBytes bytes → IfOk (parts_in bytes) (λ parts. IsFormed parts × (bytes ≡ file_bytes parts))
unfolding parts_in
parts_in-takes bytes fits = of_stored (stored_in bytes) (stored_in-takes bytes fits)
  where
    of_stored : (read : Result Stored Flaw) → IfOk read (λ held. IsStored held × (bytes ≡ stored_bytes held))
        → IfOk (read >>= (λ held. Ok (parts_stored held))) (λ parts. IsFormed parts × (bytes ≡ file_bytes parts))
    of_stored (Ok held) (is, spelled) = let formed = parts_stored-formed held is in (formed.0, spelled ∙ formed.1)
    of_stored (Err flaw) given = tt

-- parts that are formed are read from their bytes
pub parts_in-again : (parts : Parts) → IsFormed parts → parts_in (file_bytes parts) ≡ Ok parts
unfolding parts_in file_bytes
parts_in-again parts formed = elim (cases_Bool (holds_parts (spelling_of parts.frame.version))) [
  | inl holds ↦ rw (holds, stored_in-again (stored.Parts parts) (record { shaped = formed.shaped; old = holds })) refl
  | inr no_parts ↦
      let ordered = formed.ordered no_parts in
      let order = settled-in_order (length parts.alphabet) parts.rules ordered.order in
      rw (no_parts, stored_in-again (stored.Outline (outline_of parts)) (IsOutline-outline_of parts ordered.valid no_parts order), parts_of_outline-outline_of parts ordered.valid no_parts order) refl
]

-- what was answered to bytes is as reading says
pub given_takes : {X : Type 0} (view : X → Parts) (bytes : List ℕ) (answer : Result X FormatFault) → IsBytes bytes
    → Gives view answer (parts_in bytes) → IfOk answer (λ x. IsFormed (view x) × (bytes ≡ file_bytes (view x)))
given_takes view bytes (Ok x) fits given = of_ok (parts_in bytes) (parts_in-takes bytes fits) given
  where
    of_ok : (read : Result Parts Flaw) → IfOk read (λ parts. IsFormed parts × (bytes ≡ file_bytes parts)) → read ≡ Ok (view x)
        → IsFormed (view x) × (bytes ≡ file_bytes (view x))
    of_ok read holds is = rw is at holds
given_takes view bytes (Err fault) fits given = tt

-- a file of the newest version holds an outline
pub newest-no_parts : (version : ℕ) → version ≡ MAX_VERSION → holds_parts (spelling_of version) ≡ false
newest-no_parts version newest = rw newest refl

-- parts that are formed are those of an index, if they are in the newest version
pub IsNewest-formed : (parts : Parts) → IsFormed parts → parts.frame.version ≡ MAX_VERSION → IsNewest parts
IsNewest-formed parts formed newest = record {
  newest = newest;
  ordered = formed.ordered (newest-no_parts parts.frame.version newest);
}

-- the file of parts in the newest version is that of their outline
pub file_bytes-newest : (parts : Parts) → IsNewest parts → file_bytes parts ≡ outline_bytes (outline_of parts)
unfolding file_bytes
file_bytes-newest parts is = rw (newest-no_parts parts.frame.version is.newest) refl
