-- Separating a text byte by byte, and cutting words off a line.
use Rattle.std.proofs.Common.{◌≡◌, ℕ, Bool, true, false, not, if◌then◌else◌, List, [], ◌∷◌, ◌++◌, refl, sym, ◌∙◌, ap}
use Rattle.std.proofs.Common.{append-nil, zero, suc, take, drop, subst, filter, length, length-append, nat_eq}
use Rattle.std.proofs.Common.{cond, arith, ◌<◌, ◌≤◌, get_or, inl, inr}
use Rattle.std.specs.List.{list_all}
use Rattle.std.proofs.lemmas.List.{take-append-drop}
use mathlib.Core.Bool.{false≢true}
use Rattle.std.proofs.lemmas.List.Folds.{list_all-append}
use Rattle.std.proofs.lemmas.Bool.{and_parts, cases_Bool, not-true}
use Rattle.std.specs.List.{count_by, onto_first, slice_split}
use Rattle.std.proofs.lemmas.List.Splits.{length-slice_split}
use Rattle.std.proofs.Math.Seq.{take-append_seam, get_or-append_seam}
use Rattle.question_shell.specs.Lines.{is_gap, is_line_feed, BeginsWord, EndsWord, has_byte}
use Rattle.question_shell.specs.Lines.{words_of, whole_lines, unended_line}

-- What a text is separated into: the pieces that an end byte ends, and what follows the last end byte.
pub record Pieces : Type 0 where
  pub ended : List (List ℕ)
  pub left : List ℕ

-- a byte in front of the first piece
abbrev pub begin_first : ℕ → List (List ℕ) → List ℕ → Pieces
begin_first byte [] left = record { ended = []; left = byte ∷ left }
begin_first byte (piece ∷ pieces) left = record { ended = (byte ∷ piece) ∷ pieces; left = left }

-- a text separated at the bytes that pass a test, which are in no piece
abbrev pub separated : (ℕ → Bool) → List ℕ → Pieces
separated is_end [] = record { ended = []; left = [] }
separated is_end (byte ∷ rest) =
    let pieces = separated is_end rest in
    if is_end byte
    then record { ended = [] ∷ pieces.ended; left = pieces.left }
    else begin_first byte pieces.ended pieces.left

-- they are what the text is split into
pub slice_split-separated : (is_end : ℕ → Bool) (text : List ℕ) →
    slice_split is_end text ≡ (separated is_end text).ended ++ (separated is_end text).left ∷ []
slice_split-separated is_end [] = refl
slice_split-separated is_end (byte ∷ text) =
    ap (λ pieces. cond (is_end byte) ([] ∷ pieces) (onto_first byte pieces)) (slice_split-separated is_end text)
    ∙ with_byte byte (separated is_end text).ended (separated is_end text).left (is_end byte)
  where
    with_byte : (byte : ℕ) (ended : List (List ℕ)) (left : List ℕ) (test : Bool) →
        let all = ended ++ left ∷ [] in
        let here : Pieces =
        if test then record { ended = [] ∷ ended; left = left } else begin_first byte ended left in
        cond test ([] ∷ all) (onto_first byte all) ≡ here.ended ++ here.left ∷ []
    with_byte byte ended left true = refl
    with_byte byte [] left false = refl
    with_byte byte (piece ∷ ended) left false = refl

-- there are as many ended pieces as ends
length-ended : (is_end : ℕ → Bool) (text : List ℕ) → length (separated is_end text).ended ≡ count_by is_end text
length-ended is_end text =
    omega (
      arith,
      length-slice_split is_end text,
      ap length (slice_split-separated is_end text),
      length-append (separated is_end text).ended ((separated is_end text).left ∷ []),
    )

pub whole_lines-is : (text : List ℕ) → whole_lines text ≡ (separated is_line_feed text).ended
unfolding whole_lines
whole_lines-is text =
    let ended = (separated is_line_feed text).ended in
    rw (slice_split-separated is_line_feed text, ← length-ended is_line_feed text) (take-append_seam ended _)

pub unended_line-is : (text : List ℕ) → unended_line text ≡ (separated is_line_feed text).left
unfolding unended_line
unended_line-is text =
    let ended = (separated is_line_feed text).ended in
    rw (slice_split-separated is_line_feed text, ← length-ended is_line_feed text) (get_or-append_seam ended _ [] [])

-- the words that a separated line has
abbrev pub words_in : Pieces → List (List ℕ)
words_in pieces = filter has_byte (pieces.ended ++ pieces.left ∷ [])

pub words_of-is : (line : List ℕ) → words_of line ≡ words_in (separated is_gap line)
words_of-is line = ap (filter has_byte) (slice_split-separated is_gap line)

-- no byte of a piece is an end
abbrev pub IsPiece : (ℕ → Bool) → List ℕ → Type 0
IsPiece is_end piece = list_all (λ byte. not (is_end byte)) piece ≡ true

piece_head : (is_end : ℕ → Bool) (byte : ℕ) (piece : List ℕ) → IsPiece is_end (byte ∷ piece) → is_end byte ≡ false
piece_head is_end byte piece whole =
    not-true (is_end byte) (and_parts (not (is_end byte)) (list_all (λ other. not (is_end other)) piece) whole).0

piece_tail : (is_end : ℕ → Bool) (byte : ℕ) (piece : List ℕ) → IsPiece is_end (byte ∷ piece) → IsPiece is_end piece
piece_tail is_end byte piece whole =
    (and_parts (not (is_end byte)) (list_all (λ other. not (is_end other)) piece) whole).1

-- the first n bytes of a text are one where none of them is an end
pub piece-take : (is_end : ℕ → Bool) (text : List ℕ) (n : ℕ) → n ≤ length text →
    ((k : ℕ) → k < n → ¬ (is_end (get_or text k 0) ≡ true)) → IsPiece is_end (take n text)
piece-take is_end text zero within none = refl
piece-take is_end [] (suc n) within none = refl
piece-take is_end (byte ∷ text) (suc n) within none =
    let later = piece-take is_end text n (omega arith) (λ k below. none (suc k) (omega arith)) in
    elim (cases_Bool (is_end byte)) [
      | inl ends ↦ absurd (none 0 (omega arith) ends)
      | inr inside ↦ rw (inside, later) refl
    ]

-- a piece, and the end byte after it
pub separated-piece : (is_end : ℕ → Bool) (piece : List ℕ) (end : ℕ) (rest : List ℕ) → IsPiece is_end piece →
    is_end end ≡ true →
    separated is_end (piece ++ end ∷ rest)
    ≡ record { ended = piece ∷ (separated is_end rest).ended; left = (separated is_end rest).left }
separated-piece is_end [] end rest whole ends = rw ends refl
separated-piece is_end (byte ∷ piece) end rest whole ends =
    let after = separated-piece is_end piece end rest (piece_tail is_end byte piece whole) ends in
    rw (piece_head is_end byte piece whole, after) refl

-- a piece with no end byte after it
pub separated-unended : (is_end : ℕ → Bool) (piece : List ℕ) → IsPiece is_end piece →
    separated is_end piece ≡ record { ended = []; left = piece }
separated-unended is_end [] whole = refl
separated-unended is_end (byte ∷ piece) whole =
    rw (piece_head is_end byte piece whole, separated-unended is_end piece (piece_tail is_end byte piece whole)) refl

-- gaps in front of a line part nothing
pub words_of-gap : (byte : ℕ) (rest : List ℕ) → is_gap byte ≡ true → words_of (byte ∷ rest) ≡ words_of rest
words_of-gap byte rest gap = rw gap refl

-- a word in front of a gap, or at the end of a line
pub words_of-word : (byte : ℕ) (word rest : List ℕ) → IsPiece is_gap (byte ∷ word) → EndsWord rest →
    words_of ((byte ∷ word) ++ rest) ≡ (byte ∷ word) ∷ words_of rest
words_of-word byte word [] whole ends =
    rw (append-nil word) (words_of-is (byte ∷ word) ∙ (ap words_in (separated-unended is_gap (byte ∷ word) whole)
    ∙ ap (λ words. (byte ∷ word) ∷ words) (sym (words_of-is []))))
words_of-word byte word (gap ∷ rest) whole ends =
    words_of-is ((byte ∷ word) ++ gap ∷ rest)
    ∙ ap words_in (separated-piece is_gap (byte ∷ word) gap rest whole ends)
    ∙ ap (λ words. (byte ∷ word) ∷ words) (sym (words_of-is rest) ∙ sym (words_of-gap gap rest ends))

-- the first n bytes of a line are its first word
pub words_of-take : (line : List ℕ) (n : ℕ) → has_byte line ≡ true → BeginsWord line → IsPiece is_gap (take n line) →
    EndsWord (drop n line) →
    words_of line ≡ take n line ∷ words_of (drop n line)
words_of-take [] n some begins whole ends = absurd (false≢true some)
words_of-take (byte ∷ rest) zero some begins whole ends = absurd (false≢true (sym begins ∙ ends))
words_of-take (byte ∷ rest) (suc n) some begins whole ends =
    let P : List ℕ → Type 0 = λ line. words_of (byte ∷ line) ≡ (byte ∷ take n rest) ∷ words_of (drop n rest) in
    subst P (take-append-drop n rest) (words_of-word byte (take n rest) (drop n rest) whole ends)

pub has_byte-nonempty : (text : List ℕ) → nat_eq (length text) 0 ≡ false → has_byte text ≡ true
has_byte-nonempty [] some = sym some
has_byte-nonempty (byte ∷ rest) some = refl

-- what comes after a text is separated after the text's last piece
pub separated-append : (is_end : ℕ → Bool) (front back : List ℕ) →
    let here = separated is_end front in
    let there = separated is_end (here.left ++ back) in
    separated is_end (front ++ back) ≡ record { ended = here.ended ++ there.ended; left = there.left }
separated-append is_end [] back = refl
separated-append is_end (byte ∷ front) back =
    rw (separated-append is_end front back)
    (step is_end byte back (separated is_end front).ended (separated is_end front).left (is_end byte) refl)
  where
    step : (is_end : ℕ → Bool) (byte : ℕ) (back : List ℕ) (ended : List (List ℕ)) (left : List ℕ) (test : Bool) →
        is_end byte ≡ test →
        let there = separated is_end (left ++ back) in
        let here : Pieces =
        if is_end byte then record { ended = [] ∷ ended; left = left } else begin_first byte ended left in
        let after = separated is_end (here.left ++ back) in
        let whole : Pieces =
        if is_end byte
        then record { ended = [] ∷ (ended ++ there.ended); left = there.left }
        else begin_first byte (ended ++ there.ended) there.left in
        let joined : Pieces = record { ended = here.ended ++ after.ended; left = after.left } in
        whole ≡ joined
    step is_end byte back ended left true e = rw e refl
    step is_end byte back [] left false e = rw e (rw e refl)
    step is_end byte back (piece ∷ ended) left false e = rw e refl

-- no end byte is in what follows the last one
pub piece-left : (is_end : ℕ → Bool) (text : List ℕ) → IsPiece is_end (separated is_end text).left
piece-left is_end [] = refl
piece-left is_end (byte ∷ text) =
    let pieces = separated is_end text in
    step is_end byte pieces.ended pieces.left (piece-left is_end text) (is_end byte) refl
  where
    step : (is_end : ℕ → Bool) (byte : ℕ) (ended : List (List ℕ)) (left : List ℕ) → IsPiece is_end left →
        (test : Bool) → is_end byte ≡ test →
        let here : Pieces =
        if is_end byte then record { ended = [] ∷ ended; left = left } else begin_first byte ended left in
        IsPiece is_end here.left
    step is_end byte ended left whole true e = rw e whole
    step is_end byte [] left whole false e = rw (e, e) whole
    step is_end byte (piece ∷ ended) left whole false e = rw e whole

piece-append : (is_end : ℕ → Bool) (piece more : List ℕ) → IsPiece is_end piece → IsPiece is_end more →
    IsPiece is_end (piece ++ more)
piece-append is_end piece more whole inside =
    rw (list_all-append (λ other. not (is_end other)) piece more, whole, inside) refl

-- a text, and an end byte after it
pub separated-end : (is_end : ℕ → Bool) (text : List ℕ) (end : ℕ) → is_end end ≡ true →
    separated is_end (text ++ end ∷ [])
    ≡ record { ended = (separated is_end text).ended ++ (separated is_end text).left ∷ []; left = [] }
separated-end is_end text end ends =
    let after = separated-piece is_end (separated is_end text).left end [] (piece-left is_end text) ends in
    rw (separated-append is_end text (end ∷ []), after) refl

-- a text, and after it bytes of which none is an end
pub separated-bytes : (is_end : ℕ → Bool) (text bytes : List ℕ) → IsPiece is_end bytes →
    separated is_end (text ++ bytes)
    ≡ record { ended = (separated is_end text).ended; left = (separated is_end text).left ++ bytes }
separated-bytes is_end text bytes inside =
    let left = (separated is_end text).left in
    let whole : IsPiece is_end (left ++ bytes) = piece-append is_end left bytes (piece-left is_end text) inside in
    let after = separated-unended is_end (left ++ bytes) whole in
    rw (separated-append is_end text bytes, after, append-nil (separated is_end text).ended) refl
