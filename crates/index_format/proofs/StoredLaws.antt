-- The whole file: what is read has the form of an index and is spelled so, and what has it is read again.
use Rattle.std.proofs.Common.{◌≡◌, ℕ, List, ◌++◌, Result, Ok, Err, refl, sym, ap, ◌∙◌, inl, inr}
use Rattle.std.specs.Prelude.{IfOk}
use Rattle.std.proofs.lemmas.Bool.{cases_Bool}
use Rattle.track_types.specs.Spelling.{holds_parts, spelling_of}
use Rattle.track_types.specs.declared.flaw.Flaw.{Flaw}
use Rattle.track_types.specs.declared.format_fault.FormatFault.{FormatFault}
use Rattle.index_format.specs.declared.header.Header.{Header}
use Rattle.index_format.specs.declared.stored.Stored.{Stored}
use Rattle.index_format.specs.declared.stored.Stored.TheVariants.{Parts, Outline}
use Rattle.index_format.specs.Answers.{Gives}
use Rattle.index_format.specs.Spelling.{header_of, parts_bytes, header_bytes, bytes_of_parts}
use Rattle.index_format.specs.Reading.{header_at, parts_after}
use Rattle.index_format.specs.OutlineFile.{outline_after, outline_bytes, outline_header}
use Rattle.index_format.specs.Stored.{stored_after, stored_in, stored_bytes, IsStored}
use Rattle.index_format.proofs.BitLemmas.{IsBytes}
use Rattle.index_format.proofs.Laws.{Takes, then_ok}
use Rattle.index_format.specs.Headers.{IsHeader}
use Rattle.index_format.proofs.HeaderLaws.{header_at-takes, header_at-again}
use Rattle.index_format.proofs.PartsLaws.{parts_after-takes, parts_after-again, header_of-parts}
use Rattle.index_format.proofs.OutlineLaws.{outline_after-takes, outline_after-again, outline_header-is}

-- what was read after a header is stored in the bytes of both
stored_after-takes : (bytes : List ℕ) (h : Header) (rest : List ℕ) → Takes bytes (header_bytes h) rest → IsHeader h
    → IfOk (stored_after h rest) (λ stored. IsStored stored × (bytes ≡ stored_bytes stored))
unfolding stored_after bytes_of_parts outline_bytes
stored_after-takes bytes h rest taken is = elim (cases_Bool (holds_parts (spelling_of h.frame.version))) [
  | inl holds ↦
      rw holds (then_ok _ _ (parts_after h rest) (parts_after-takes h is holds rest taken.fits) (λ parts read.
      (read.0, taken.parts ∙ ap (λ head. header_bytes head ++ rest) (sym read.1) ∙ ap (λ tail. header_bytes (header_of parts) ++ tail) read.2)))
  | inr silent ↦
      rw silent (then_ok _ _ (outline_after h rest) (outline_after-takes h is silent rest taken.fits)
      (λ outline read. (
        read.0,
        taken.parts ∙ ap (λ head. header_bytes head ++ rest) (sym read.1)
            ∙ ap (λ tail. header_bytes (outline_header outline) ++ tail) read.2,
      )))
]

-- what was read has the form of an index, and the bytes are its
pub stored_in-takes : (bytes : List ℕ) → IsBytes bytes → IfOk (stored_in bytes) (λ stored. IsStored stored × (bytes ≡ stored_bytes stored))
unfolding stored_in
stored_in-takes bytes fits =
    then_ok _ _ (header_at bytes) (header_at-takes bytes fits) (λ header read. stored_after-takes bytes header.0 header.1 read.0 read.1)

-- what has the form of an index is read from its bytes
pub stored_in-again : (stored : Stored) → IsStored stored → stored_in (stored_bytes stored) ≡ Ok stored
unfolding stored_in stored_after bytes_of_parts outline_bytes
stored_in-again (Parts parts) old =
    rw (header_at-again (header_of parts) (parts_bytes parts) (header_of-parts parts old), old.old, parts_after-again parts old) refl
stored_in-again (Outline outline) is =
    rw (header_at-again (outline_header outline) _ (outline_header-is outline is), is.spelling, outline_after-again outline is) refl

-- what was answered to bytes, seen by view, is as reading says
pub given_takes : {X : Type 0} (view : X → Stored) (bytes : List ℕ) (answer : Result X FormatFault) → IsBytes bytes
    → Gives view answer (stored_in bytes) → IfOk answer (λ x. IsStored (view x) × (bytes ≡ stored_bytes (view x)))
given_takes view bytes (Ok x) fits given = of_ok (view x) (stored_in bytes) (stored_in-takes bytes fits) given
  where
    of_ok : (stored : Stored) (read : Result Stored Flaw) → IfOk read (λ stored. IsStored stored × (bytes ≡ stored_bytes stored))
        → read ≡ Ok stored → IsStored stored × (bytes ≡ stored_bytes stored)
    of_ok stored read holds is = rw is at holds
given_takes view bytes (Err fault) fits given = tt

-- what a file is: reading gives what is stored if and only if it has the form of an index and the bytes are its
pub stored_in-exactly : (bytes : List ℕ) → IsBytes bytes → (stored : Stored)
    → (stored_in bytes ≡ Ok stored → IsStored stored × (bytes ≡ stored_bytes stored))
    × (IsStored stored → bytes ≡ stored_bytes stored → stored_in bytes ≡ Ok stored)
stored_in-exactly bytes fits stored = (
  λ read. given_takes (λ stored. stored) bytes (Ok stored) fits read,
  λ is spelled. ap stored_in spelled ∙ stored_in-again stored is,
)
