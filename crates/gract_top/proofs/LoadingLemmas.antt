-- What came of a file that is too long.
use Rattle.std.proofs.Common.{◌≡◌, ◌+◌, ◌<◌, ◌≤◌, ◌++◌, ℕ, true, false, not, nat_lt, Option, Some, None, length, List, [], ◌∷◌, arith}
use Rattle.std.proofs.Common.{append-nil, take_all, refl, sym, ◌∙◌, append_assoc, length-append}
use Rattle.std.proofs.lemmas.Bool.Decides.{nat_tests}
use Rattle.std.proofs.Math.Seq.{take-append_seam}
use Rattle.std.specs.Io.KnownBytes.{Consumes, IsAtEnd, prepend_known}
use Rattle.history.specs.Loads.{Load, is_end}
use Rattle.host_ports.specs.FileMap.{FileMap, IsOpened}
use Rattle.track_types.specs.Limits.{limit_of}
use Rattle.track_types.specs.declared.limit.LimitKind.{LimitKind}
use Rattle.gract_top.specs.Loading.{HoldsFront, IsLoaded}
use Rattle.gract_top.specs.Refusal.{IsLengthRefused, length_refusal}
use Rattle.gract_top.specs.declared.outcome.Outcome.TheVariants as outcome

module _ (name : List ℕ) (limit : ℕ) (before piece : List ℕ) (past : length (before ++ piece) ≡ limit + 1) where
  -- what came of an opened file is its front
  HoldsFront-past : (map : Option FileMap) (rest now : Option (List ℕ)) → IsOpened map name (prepend_known before rest) →
      Consumes rest now piece → HoldsFront map name limit (before ++ piece)
  HoldsFront-past None rest now opened came = tt
  HoldsFront-past (Some files) None now opened came = absurd (let none = opened.2 in cc)
  HoldsFront-past (Some files) (Some bytes) None opened came = absurd (came)
  HoldsFront-past (Some files) (Some bytes) (Some left) opened came =
      let whole : opened.0 ≡ (before ++ piece) ++ left = grind (arith, append_assoc before piece left, opened.2, came) in
      (opened.0, opened.1, sym (rw (whole, sym past) (take-append_seam (before ++ piece) left)))

-- a piece with a byte is no end
piece-left : (piece : List ℕ) → 0 < length piece → is_end piece ≡ false
piece-left piece some = grind (arith)

-- what is longer than its limit is not all of a file
past-is : (limit : ℕ) (bytes : List ℕ) → limit < length bytes → not (nat_lt limit (length bytes)) ≡ false
past-is limit bytes past = grind (arith, nat_tests, past)

-- what is not longer is all of it
short-is : (limit : ℕ) (bytes : List ℕ) → length bytes ≤ limit → not (nat_lt limit (length bytes)) ≡ true
short-is limit bytes short = grind (arith, nat_tests, short)

-- a file of which one byte more came than it may have is refused
pub IsLengthRefused-past : (kind : LimitKind) (map : Option FileMap) (loads : List Load) (taken : ℕ) (name before piece : List ℕ)
    (older : List Load) (rest now : Option (List ℕ)) → IsOpened map name (prepend_known before rest) → Consumes rest now piece →
    loads ≡ record { name = name; begun = true; bytes = before ++ piece; ended = is_end piece } ∷ older →
    length before ≤ limit_of kind → length before + length piece ≡ limit_of kind + 1 → taken ≡ limit_of kind + 1 →
    IsLengthRefused kind map loads taken name (outcome.Limit kind (limit_of kind + 1))
IsLengthRefused-past kind map loads taken name before piece older rest now opened came added within past counted =
    let all : length (before ++ piece) ≡ limit_of kind + 1 = omega (arith, length-append before piece, past) in
    record {
      bytes = before ++ piece;
      came = record {
        counted = counted ∙ sym all;
        history = rw (
          added,
          piece-left piece (omega (arith, within, past)),
          past-is (limit_of kind) (before ++ piece) (omega (arith, all)),
        ) refl;
        held = HoldsFront-past name (limit_of kind) before piece all map rest now opened came;
      };
      refusal = grind (arith, nat_tests, all);
    }

-- what came of an opened file until its end is all of it
HoldsFront-all : (map : Option FileMap) (name : List ℕ) (limit : ℕ) (bytes piece : List ℕ) (rest now : Option (List ℕ)) →
    length bytes ≤ limit → piece ≡ [] → IsOpened map name (prepend_known bytes rest) → Consumes rest now piece →
    IsAtEnd now → HoldsFront map name limit bytes
HoldsFront-all None name limit bytes piece rest now short empty opened came at_end = tt
HoldsFront-all (Some files) name limit bytes piece None now short empty opened came at_end =
    absurd (let none = opened.2 in cc)
HoldsFront-all (Some files) name limit bytes piece (Some next) None short empty opened came at_end = absurd (came)
HoldsFront-all (Some files) name limit bytes piece (Some next) (Some left) short empty opened came at_end =
    let none : next ≡ [] = rw (came, empty) at_end in
    let whole : opened.0 ≡ bytes = grind (arith, opened.2, none, append-nil bytes) in
    (opened.0, opened.1, sym (rw whole (take_all (limit + 1) bytes (omega (arith, short)))))

-- a file of which all came is loaded
pub IsLoaded-end : (kind : LimitKind) (map : Option FileMap) (loads : List Load) (taken : ℕ) (older : List Load)
    (name bytes piece : List ℕ) (rest now : Option (List ℕ)) → taken ≡ length bytes → length bytes ≤ limit_of kind → piece ≡ [] →
    IsOpened map name (prepend_known bytes rest) → Consumes rest now piece → IsAtEnd now →
    loads ≡ record { name = name; begun = true; bytes = bytes ++ piece; ended = is_end piece } ∷ older →
    IsLoaded kind map loads taken name bytes
IsLoaded-end kind map loads taken older name bytes piece rest now counted short empty opened came at_end added = record {
  came = record {
    counted = counted;
    history = rw (added, empty, append-nil bytes, short-is (limit_of kind) bytes short) refl;
    held = HoldsFront-all map name (limit_of kind) bytes piece rest now short empty opened came at_end;
  };
  short = short;
}

-- a file that is not too long is not refused for its length
pub length_refusal-short : (kind : LimitKind) (bytes : List ℕ) → length bytes ≤ limit_of kind →
    length_refusal kind bytes ≡ None
length_refusal-short kind bytes short = grind (arith, nat_tests, short)
