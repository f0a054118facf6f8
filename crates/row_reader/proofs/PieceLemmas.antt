-- The records of a text that is given piece by piece, each but the last ending with a line feed.
use Rattle.std.proofs.Common.{◌≡◌, ◌≢◌, ℕ, zero, suc, ◌+◌, Bool, true, false, if◌then◌else◌, List, [], ◌∷◌, ◌++◌, length, All, Option, Some, None}
use Rattle.std.proofs.Common.{refl, sym, ap, ◌∙◌, inl, inr, arith, append_assoc}
use Rattle.std.specs.List.{AllByRecursion, cons_option, enumerate_from, filter_map}
use Rattle.std.specs.Option.{option_or}
use Rattle.std.specs.Prelude.{get_or, reverse}
use Rattle.std.proofs.lemmas.Bool.{cases_Bool}
use Rattle.std.proofs.lemmas.Bool.Decides.{nat_tests}
use Rattle.std.proofs.lemmas.List.{reverse-append, reverse-reverse}
use Rattle.std.proofs.lemmas.List.Elements.{All-from_recursion, All-tail}
use Rattle.std.proofs.lemmas.List.Folds.{list_all-append}
use Rattle.std.proofs.lemmas.Slice.Eq.{bytes_eq-Decides, slice_eq-Decides}
use Rattle.csv.specs.Machine.{Read, ends_at_end, field_after, fields_after, is_end, next_record, step}
use Rattle.csv.specs.Reading.{default_config, records_from, records_next, strip_bom}
use Rattle.csv.specs.declared.parser.Action.TheVariants as act
use Rattle.csv.specs.declared.parser.State.{State}
use Rattle.csv.specs.declared.parser.State.TheVariants as st
use Rattle.track_types.specs.Numeral.{is_digit, numeral_of, signed_of, trimmed, unblanked_of, without_blanks_before}
use Rattle.track_types.specs.declared.numeral.Numeral.TheVariants.{Not}
use Rattle.track_types.specs.declared.raw_row.RowFault.TheVariants.{NotNumber}
use Rattle.row_reader.specs.Reading.{IsEnough}
use Rattle.row_reader.specs.Row.{Fields, fault_at, object_fault, place_fault, record_fault}
use Rattle.row_reader.specs.Rows.{data_among, is_data, is_heading, records_of, record_refusal, refusals_of}
use Rattle.row_reader.proofs.ReadingLemmas.{next_record-left}
use Rattle.row_reader.proofs.RowsLemmas.{data_from, refusal_of_placed}

-- the last field of a record does not end with a line feed
abbrev pub IsClosed : Fields → Type 0
IsClosed fields = (before : Fields) (word : List ℕ) → fields ≢ before ++ ((word ++ (10 ∷ [])) ∷ [])

-- all records of a text from a state, with the fields and the bytes of the field at hand
unfoldable rest_of : State → Fields → List ℕ → List ℕ → List Fields
rest_of state fields field [] = if ends_at_end state then (fields ++ (field ∷ [])) ∷ [] else []
rest_of state fields field (byte ∷ text) =
    let after = step default_config state byte in
    if is_end after.1 then fields_after after.1 fields field ∷ rest_of after.0 [] [] text
    else rest_of after.0 (fields_after after.1 fields field) (field_after after.1 byte field) text

-- the same with nothing at hand
abbrev from_start : State → List ℕ → List Fields
from_start state text = rest_of state [] [] text

-- the next record and the others
rest_of-next : (state : State) (fields : Fields) (field text : List ℕ)
    → rest_of state fields field text ≡ records_next from_start (next_record default_config state fields field text)
unfolding rest_of next_record
rest_of-next state fields field [] = grind arith
rest_of-next state fields field (byte ∷ text) =
    let after = step default_config state byte in
    grind (arith, rest_of-next after.0 (fields_after after.1 fields field) (field_after after.1 byte field) text)

-- as many records as are enough are all of them
records_from-rest : (count : ℕ) (state : State) (text : List ℕ) → IsEnough count state text
    → records_from default_config count state text ≡ from_start state text
unfolding records_from rest_of next_record
records_from-rest zero state text (inl below) = absurd (omega arith)
records_from-rest zero state text (inr ended) = rw (ended.0, ended.1) refl
records_from-rest (suc fewer) state text (inr ended) = rw (ended.0, ended.1) refl
records_from-rest (suc fewer) state text (inl below) =
    joined (next_record default_config state [] [] text) (λ read found.
    records_from-rest fewer read.1 read.2 (elim (next_record-left default_config state [] [] text read found) [
      | inl shorter ↦ inl (omega arith)
      | inr last ↦ inr last
    ]))
    ∙ sym (rest_of-next state [] [] text)
  where
    joined : (next : Option Read)
        → ((read : Read) → next ≡ Some read
        → records_from default_config fewer read.1 read.2 ≡ from_start read.1 read.2)
        → records_next (records_from default_config fewer) next ≡ records_next from_start next
    joined None rest = refl
    joined (Some read) rest = ap (λ records. read.0 ∷ records) (rest read refl)

-- whether a record has begun
abbrev is_begun : State → Bool
is_begun st.StartRecord = false
is_begun st.AfterCr = false
is_begun st.InComment = false
is_begun state = true

-- nothing is at hand where no record has begun
abbrev IsFresh : State → Fields → List ℕ → Type 0
IsFresh state fields field = is_begun state ≡ false → (fields ≡ []) × (field ≡ [])

-- where no record has begun after a byte, none had begun before it, and the byte was skipped
abbrev Waits : State → ℕ → Type 0
Waits state byte =
    is_end (step default_config state byte).1 ≡ false → is_begun (step default_config state byte).0 ≡ false
    → (is_begun state ≡ false) × ((step default_config state byte).1 ≡ act.Skip)

waits : (state : State) (byte : ℕ) → Waits state byte
waits st.StartRecord byte on none = (refl, grind (arith, nat_tests))
waits st.StartField byte on none = absurd (grind (arith, nat_tests))
waits st.InField byte on none = absurd (grind (arith, nat_tests))
waits st.InQuoted byte on none = absurd (grind (arith, nat_tests))
waits st.InEscape byte on none = cc
waits st.AfterQuote byte on none = absurd (grind (arith, nat_tests))
waits st.InComment byte on none = (refl, grind (arith, nat_tests))
waits st.AfterCr byte on none = (refl, grind (arith, nat_tests))

-- what comes after a line feed begins a record, unless the line feed is the last byte of a field within
-- quotes, which is then not closed
cut_from : (state : State) (fields : Fields) (field front more : List ℕ) → IsFresh state fields field
    → All IsClosed (rest_of state fields field (front ++ (10 ∷ [])))
    → rest_of state fields field (front ++ (10 ∷ more))
    ≡ rest_of state fields field (front ++ (10 ∷ [])) ++ from_start st.StartRecord more
unfolding rest_of
cut_from st.StartRecord fields field [] more fresh closed = rw ((fresh refl).0, (fresh refl).1) refl
cut_from st.AfterCr fields field [] more fresh closed = rw ((fresh refl).0, (fresh refl).1) refl
cut_from st.InComment fields field [] more fresh closed = rw ((fresh refl).0, (fresh refl).1) refl
cut_from st.StartField fields field [] more fresh closed = refl
cut_from st.InField fields field [] more fresh closed = refl
cut_from st.AfterQuote fields field [] more fresh closed = refl
cut_from st.InQuoted fields field [] more fresh closed = absurd (closed 0 [] (omega arith) fields field refl)
cut_from st.InEscape fields field [] more fresh closed = absurd (closed 0 [] (omega arith) fields field refl)
cut_from state fields field (byte ∷ front) more fresh closed =
    let after = step default_config state byte in
    let fields' = fields_after after.1 fields field in
    let field' = field_after after.1 byte field in
    elim (cases_Bool (is_end after.1)) [
      | inl ends ↦
          let others = All-tail IsClosed fields' (from_start after.0 (front ++ (10 ∷ []))) (rw ends at closed) in
          rw ends (ap (λ rest. fields' ∷ rest) (cut_from after.0 [] [] front more (λ none. (refl, refl)) others))
      | inr on ↦
          let still = λ (none : is_begun after.0 ≡ false). waits state byte on none in
          rw on
          (cut_from after.0 fields' field' front more
          (λ none. rw (still none).1 (fresh (still none).0)) (rw on at closed))
    ]

-- the mark is looked for in three bytes, none of them a line feed
strip_bom-append : (front more : List ℕ) → strip_bom (front ++ (10 ∷ more)) ≡ strip_bom front ++ (10 ∷ more)
unfolding strip_bom
strip_bom-append [] [] = refl
strip_bom-append [] (b ∷ []) = refl
strip_bom-append [] (b ∷ c ∷ more) = refl
strip_bom-append (a ∷ []) [] = refl
strip_bom-append (a ∷ []) (c ∷ more) = grind arith
strip_bom-append (a ∷ b ∷ []) more = grind arith
strip_bom-append (a ∷ b ∷ c ∷ front) more = grind arith

-- all records of a file
records_of-rest : (bytes : List ℕ) → records_of bytes ≡ from_start st.StartRecord (strip_bom bytes)
records_of-rest bytes =
    records_from-rest (length (strip_bom bytes) + 1) st.StartRecord (strip_bom bytes) (inl (omega arith))

-- a file may be cut after a line feed, where the records up to it are closed
pub cut : (front more : List ℕ) → All IsClosed (records_of (front ++ (10 ∷ [])))
    → records_of ((front ++ (10 ∷ [])) ++ more) ≡ records_of (front ++ (10 ∷ [])) ++ records_of (10 ∷ more)
unfolding rest_of strip_bom
cut front more closed =
    let first = records_of-rest (front ++ (10 ∷ [])) ∙ ap (from_start st.StartRecord) (strip_bom-append front []) in
    let second = records_of-rest (10 ∷ more) ∙ ap (from_start st.StartRecord) (strip_bom-append [] more) in
    let whole = records_of-rest (front ++ (10 ∷ more)) ∙ ap (from_start st.StartRecord) (strip_bom-append front more) in
    rw (append_assoc front (10 ∷ []) more, first, second, whole)
    (cut_from st.StartRecord [] [] (strip_bom front) more (λ none. (refl, refl)) (rw first at closed))

-- a line feed at a word's end is no blank
without_blanks_before-feed : (word : List ℕ)
    → without_blanks_before (word ++ (10 ∷ [])) ≡ without_blanks_before word ++ (10 ∷ [])
without_blanks_before-feed [] = refl
without_blanks_before-feed (byte ∷ rest) = grind (arith, without_blanks_before-feed rest)

trimmed-feed : (word : List ℕ) → trimmed (word ++ (10 ∷ [])) ≡ without_blanks_before word ++ (10 ∷ [])
trimmed-feed word =
    let front = without_blanks_before word in
    rw (without_blanks_before-feed word, reverse-append front (10 ∷ []))
    (rw (reverse-append (10 ∷ []) (reverse front), reverse-reverse front) refl)

-- and no digit, so that the word is no numeral
signed_of-feed : (is_negative : Bool) (word : List ℕ) → signed_of is_negative (word ++ (10 ∷ [])) ≡ Not
signed_of-feed is_negative word = rw (list_all-append is_digit word (10 ∷ [])) (grind arith)

unblanked_of-feed : (word : List ℕ) → unblanked_of (word ++ (10 ∷ [])) ≡ Not
unblanked_of-feed [] = refl
unblanked_of-feed (byte ∷ rest) =
    grind (arith, signed_of-feed true rest, signed_of-feed false rest, signed_of-feed false (byte ∷ rest))

numeral_of-feed : (word : List ℕ) → numeral_of (word ++ (10 ∷ [])) ≡ Not
numeral_of-feed word = ap unblanked_of (trimmed-feed word) ∙ unblanked_of-feed (without_blanks_before word)

-- the last field of four
fourth : (a b c d : List ℕ) (before : Fields) (word : List ℕ)
    → (a ∷ b ∷ c ∷ d ∷ []) ≡ before ++ (word ∷ []) → d ≡ word
fourth a b c d before word e =
    let last = ap (λ fields. get_or (reverse fields) 0 []) e in rw (reverse-append before (word ∷ [])) at last

-- where there is neither of two faults, the second is none
or_none : {T : Type 0} (first second : Option T) → option_or first second ≡ None → second ≡ None
or_none None second e = e
or_none (Some x) second e = cc

-- a record that is a row
closed_row : (fields : Fields) → record_fault fields ≡ None → IsClosed fields
closed_row [] none = cc
closed_row (a ∷ []) none = cc
closed_row (a ∷ b ∷ []) none = cc
closed_row (a ∷ b ∷ c ∷ []) none = cc
closed_row (a ∷ b ∷ c ∷ d ∷ e ∷ fields) none = cc
closed_row (a ∷ b ∷ c ∷ d ∷ []) none = λ before word e.
    let last = fourth a b c d before (word ++ (10 ∷ [])) e in
    let others = or_none (fault_at 2 (place_fault b)) _ (or_none (fault_at 1 (object_fault a)) _ none) in
    let y : fault_at 4 (place_fault d) ≡ None = or_none (fault_at 3 (place_fault c)) _ others in
    let feed : place_fault (word ++ (10 ∷ [])) ≡ Some NotNumber = rw (numeral_of-feed word) refl in
    let fault = rw (ap place_fault last, feed) at y in
    cc

-- a record that is a heading
closed_heading : (fields : Fields) → is_heading fields ≡ true → IsClosed fields
closed_heading fields is before word e =
    let same = (slice_eq-Decides bytes_eq-Decides fields _ true (sym is)).0 refl in
    let last = fourth _ _ _ _ before (word ++ (10 ∷ [])) (sym same ∙ e) in
    let feed = ap reverse last ∙ reverse-append word (10 ∷ []) in
    cc

-- where there are no refusals, there is none of the first record and none of the others
none_first : {T : Type 0} (first : Option T) (others : List T) → cons_option first others ≡ []
    → (first ≡ None) × (others ≡ [])
none_first None others e = (refl, e)
none_first (Some x) others e = cc

-- a record that is not refused has no fault
no_fault : (before nth : ℕ) (fields : Fields) → record_refusal before nth fields ≡ None → record_fault fields ≡ None
no_fault before nth fields none = grind arith

-- a record that is no data is a heading
headed : (nth : ℕ) (fields : Fields) → is_data nth fields ≡ false → is_heading fields ≡ true
headed nth fields is = grind arith

-- records that are not refused are closed
sound : (first before : ℕ) (all : List Fields)
    → filter_map refusal_of_placed (enumerate_from before (data_from first all)) ≡ [] → AllByRecursion IsClosed all
sound first before [] none = tt
sound first before (fields ∷ all) none =
    elim (cases_Bool (is_data first fields)) [
      | inl row ↦
          let here = none_first _ _ (rw row at none) in
          (closed_row fields (no_fault before first fields here.0), sound (first + 1) (before + 1) all here.1)
      | inr heading ↦
          (closed_heading fields (headed first fields heading), sound (first + 1) before all (rw heading at none))
    ]

-- and so are the last of them
sound-back : (seen records : List Fields) → AllByRecursion IsClosed (seen ++ records) → All IsClosed records
sound-back [] records all = All-from_recursion IsClosed records all
sound-back (fields ∷ seen) records all = sound-back seen records all.1

pub closed : (seen records : List Fields) → refusals_of (data_among (seen ++ records)) ≡ [] → All IsClosed records
closed seen records none = sound-back seen records (sound 1 0 (seen ++ records) none)
