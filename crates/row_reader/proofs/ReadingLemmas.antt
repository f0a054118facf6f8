-- How the records of a text come one after another.
use Rattle.std.proofs.Common.{◌≡◌, ◌⊎◌, inl, inr, ℕ, zero, suc, ◌+◌, ◌<◌, ◌≤◌, Bool, true, false, if◌then◌else◌, List, [], ◌∷◌, ◌++◌, length, Option, Some, None, IsSome, refl, sym, ap, ◌∙◌, arith, append_assoc, length-append}
use Rattle.std.proofs.lemmas.List.{append-nil}
use Rattle.csv.specs.Machine.{Read, ends_at_end, field_after, fields_after, is_end, next_record, step}
use Rattle.csv.specs.Reading.{ChangesHeaders, NextIs, ReadRecord, ReadsNext, default_config, is_bom, names_headers, pending_of, reader_config, reader_headers, reader_state, reader_trim, records_from, source_of, strip_bom, took_first}
use Rattle.csv.specs.declared.parser.Action.{Action}
use Rattle.csv.specs.declared.parser.Action.TheVariants as act
use Rattle.csv.specs.declared.parser.Config.{Config}
use Rattle.csv.specs.declared.parser.State.{State}
use Rattle.csv.specs.declared.parser.State.TheVariants as st
use Rattle.csv.specs.declared.reader.Reader.{Reader}
use Rattle.csv.specs.declared.reader.Trim.TheVariants as trim
use Rattle.row_reader.specs.Row.{Fields}
use Rattle.row_reader.specs.Reading.{HasRead, IsTextAfter, IsEnough, ShowsNext}
use Rattle.row_reader.specs.Rows.{records_of}

-- a choice that is some value
choice : {T : Type 0} (test : Bool) (value found : T) (other : Option T)
    → (if test then Some value else other) ≡ Some found → (value ≡ found) ⊎ (other ≡ Some found)
choice true value found other e = inl cc
choice false value found other e = inr e

-- a record takes a byte of the text, or it is the last
pub next_record-left : (cfg : Config) (state : State) (fields : Fields) (field text : List ℕ) (read : Read)
    → next_record cfg state fields field text ≡ Some read
    → (length read.2 < length text) ⊎ ((read.1 ≡ st.StartRecord) × (read.2 ≡ []))
unfolding next_record
next_record-left cfg state fields field [] read e =
    elim (choice (ends_at_end state) (fields ++ (field ∷ []), st.StartRecord, []) read None e) [
      | inl same ↦ inr (ap (λ (r : Read). r.1) (sym same), ap (λ (r : Read). r.2) (sym same))
      | inr none ↦ cc
    ]
next_record-left cfg state fields field (byte ∷ rest) read e =
    let after = step cfg state byte in
    let fields' = fields_after after.1 fields field in
    elim (choice (is_end after.1) (fields', after.0, rest) read _ e) [
      | inl same ↦ let left : rest ≡ read.2 = ap (λ (r : Read). r.2) same in inl (rw (← left) (omega arith))
      | inr more ↦
          elim (next_record-left cfg after.0 fields' (field_after after.1 byte field) rest read more) [
            | inl shorter ↦ inl (omega arith)
            | inr last ↦ inr last
          ]
    ]

-- an action adds a field at most
length-fields_after : (action : Action) (fields : Fields) (field : List ℕ)
    → length (fields_after action fields field) ≤ length fields + 1
length-fields_after act.Skip fields field = omega arith
length-fields_after act.Copy fields field = omega arith
length-fields_after act.EndField fields field = omega (arith, length-append fields (field ∷ []))
length-fields_after act.EndRecord fields field = omega (arith, length-append fields (field ∷ []))

-- a record has no more fields than its bytes and one
next_record-fields : (cfg : Config) (state : State) (fields : Fields) (field text : List ℕ) (read : Read)
    → next_record cfg state fields field text ≡ Some read → length read.0 ≤ length fields + length text + 1
unfolding next_record
next_record-fields cfg state fields field [] read e =
    elim (choice (ends_at_end state) (fields ++ (field ∷ []), st.StartRecord, []) read None e) [
      | inl same ↦
          let all : fields ++ (field ∷ []) ≡ read.0 = ap (λ (r : Read). r.0) same in
          rw (← all, length-append) (omega arith)
      | inr none ↦ cc
    ]
next_record-fields cfg state fields field (byte ∷ rest) read e =
    let after = step cfg state byte in
    let fields' = fields_after after.1 fields field in
    let few = length-fields_after after.1 fields field in
    elim (choice (is_end after.1) (fields', after.0, rest) read _ e) [
      | inl same ↦ let all : fields' ≡ read.0 = ap (λ (r : Read). r.0) same in rw (← all) (omega arith)
      | inr more ↦
          let others = next_record-fields cfg after.0 fields' (field_after after.1 byte field) rest read more in
          omega arith
    ]

-- no record begins at the end of a text
none_at_end : (cfg : Config) (read : Read) → next_record cfg st.StartRecord [] [] [] ≡ Some read → ⊥
unfolding next_record
none_at_end cfg read e = cc

-- the first of the records, and the others
records_from-some : (cfg : Config) (count : ℕ) (state : State) (text : List ℕ) (read : Read) → IsEnough count state text
    → next_record cfg state [] [] text ≡ Some read
    → (fewer : ℕ) × (records_from cfg count state text ≡ read.0 ∷ records_from cfg fewer read.1 read.2)
    × IsEnough fewer read.1 read.2
unfolding records_from
records_from-some cfg count state text read (inr ended) e = absurd (none_at_end cfg read (rw (ended.0, ended.1) at e))
records_from-some cfg zero state text read (inl below) e = absurd (omega arith)
records_from-some cfg (suc fewer) state text read (inl below) e =
    let enough = elim (next_record-left cfg state [] [] text read e) as (λ _. IsEnough fewer read.1 read.2) [
      | inl shorter ↦ inl (omega arith)
      | inr last ↦ inr last
    ] in
    (fewer, rw e refl, enough)

-- no record, and no others
records_from-none : (cfg : Config) (count : ℕ) (state : State) (text : List ℕ)
    → next_record cfg state [] [] text ≡ None → records_from cfg count state text ≡ []
unfolding records_from
records_from-none cfg zero state text e = refl
records_from-none cfg (suc fewer) state text e = rw e refl

-- one record more was seen
left_less : (bytes : List ℕ) (state : State) (text : List ℕ) (read : Read) → length text ≤ length bytes
    → next_record default_config state [] [] text ≡ Some read → length read.2 ≤ length bytes
left_less bytes state text read within e =
    elim (next_record-left default_config state [] [] text read e) [
      | inl shorter ↦ omega arith
      | inr last ↦ rw last.1 (omega arith)
    ]

behind-some : (bytes : List ℕ) (seen : List Fields) (state : State) (text : List ℕ) (read : Read)
    → IsTextAfter bytes seen state text → next_record default_config state [] [] text ≡ Some read
    → IsTextAfter bytes (seen ++ (read.0 ∷ [])) read.1 read.2 × (length read.0 ≤ length bytes + 1)
behind-some bytes seen state text read behind e =
    let others = records_from-some default_config behind.count state text read behind.enough e in
    let few = next_record-fields default_config state [] [] text read e in
    let within = behind.within in (
      record {
        count = others.0;
        enough = others.2;
        whole = behind.whole
            ∙ ap (λ rest. seen ++ rest) others.1
            ∙ sym (append_assoc seen (read.0 ∷ []) (records_from default_config others.0 read.1 read.2));
        within = left_less bytes state text read within e;
      },
      omega arith,
    )

-- all records were seen
behind-none : (bytes : List ℕ) (seen : List Fields) (state : State) (text : List ℕ)
    → IsTextAfter bytes seen state text → next_record default_config state [] [] text ≡ None → records_of bytes ≡ seen
behind-none bytes seen state text behind e =
    behind.whole
    ∙ ap (λ rest. seen ++ rest) (records_from-none default_config behind.count state text e)
    ∙ append-nil seen

-- what a read that found a record says of the next record
next-some : (next : Option Read) (fields : Fields) (state : State) (text : List ℕ)
    → NextIs next true fields state text → next ≡ Some (fields, state, text)
next-some None fields state text is = cc
next-some (Some read) fields state text is =
    let same : ◌≡◌ {A = Read} (fields, state, text) read = λ i. (is.1 i, is.2 i, is.3 i) in
    ap Some (sym same)

reads-some : (state : State) (text : List ℕ) (after : Option (List ℕ)) (fields : Fields) (state' : State)
    → ReadsNext default_config state (Some text) after true fields state'
    → (text' : List ℕ) × (after ≡ Some text')
    × (next_record default_config state [] [] text ≡ Some (fields, state', text'))
reads-some state text None fields state' reads = absurd reads
reads-some state text (Some text') fields state' reads = (text', refl, next-some _ fields state' text' reads)

-- what a read that found none says of it
next-none : (next : Option Read) (fields : Fields) (state : State) (text : List ℕ)
    → NextIs next false fields state text → next ≡ None
next-none None fields state text is = refl
next-none (Some read) fields state text is = cc

reads-none : (state : State) (text : List ℕ) (after : Option (List ℕ)) (fields : Fields) (state' : State)
    → ReadsNext default_config state (Some text) after false fields state'
    → next_record default_config state [] [] text ≡ None
reads-none state text None fields state' reads = absurd reads
reads-none state text (Some text') fields state' reads = next-none _ fields state' text' reads

-- a reader that found a record
has_read-some : {R : Type 0} (remaining : R → Option (List ℕ))
    (bytes : List ℕ) (seen : List Fields) (old new : Reader R) (fields : Fields)
    → HasRead remaining bytes seen old → took_first new ≡ true → ReadRecord remaining old new true fields
    → HasRead remaining bytes (seen ++ (fields ∷ [])) new × (length fields ≤ length bytes + 1)
has_read-some remaining bytes seen old new fields has took reads =
    let next = rw (has.plain, has.source) at reads.0 in
    let found = reads-some old.state has.text (pending_of (remaining new.rdr) new) fields new.state next in
    let more = behind-some bytes seen old.state has.text (fields, new.state, found.0) has.behind found.2 in (
      record {
        text = found.0;
        untrimmed = reads.3 ∙ has.untrimmed;
        ready = inl took;
        plain = reads.2 ∙ has.plain;
        source = rw reads.1 found.1;
        behind = more.0;
      },
      more.1,
    )

-- a reader that found none
has_read-end : {R : Type 0} (remaining : R → Option (List ℕ))
    (bytes : List ℕ) (seen : List Fields) (old new : Reader R) (fields : Fields)
    → HasRead remaining bytes seen old → ReadRecord remaining old new false fields → records_of bytes ≡ seen
has_read-end remaining bytes seen old new fields has reads =
    let next = rw (has.plain, has.source) at reads.0 in
    let none = reads-none old.state has.text (pending_of (remaining new.rdr) new) fields new.state next in
    behind-none bytes seen old.state has.text has.behind none

-- what a read shows
pub ShowsNext-read : {R : Type 0} (remaining : R → Option (List ℕ)) (bytes : List ℕ) (seen : List Fields) (old new : Reader R)
    (fields : Fields) (found : Bool) → HasRead remaining bytes seen old → took_first new ≡ true
    → ReadRecord remaining old new found fields → ShowsNext remaining bytes seen fields new found
ShowsNext-read remaining bytes seen old new fields true has took reads = has_read-some remaining bytes seen old new fields has took reads
ShowsNext-read remaining bytes seen old new fields false has took reads = has_read-end remaining bytes seen old new fields has reads

-- a text without its front, or the whole, is no longer
length-either : (test : Bool) (front rest : List ℕ)
    → length (if test then rest else front ++ rest) ≤ length (front ++ rest)
length-either true front rest = omega (arith, length-append front rest)
length-either false front rest = omega arith

-- without a byte order mark a text is no longer
length-strip_bom : (bytes : List ℕ) → length (strip_bom bytes) ≤ length bytes
unfolding strip_bom
length-strip_bom [] = omega arith
length-strip_bom (a ∷ []) = omega arith
length-strip_bom (a ∷ b ∷ []) = omega arith
length-strip_bom (a ∷ b ∷ c ∷ rest) = length-either (is_bom a b c) (a ∷ b ∷ c ∷ []) rest

-- a reader at the front of a file, which was given a header row
pub has_read-none : {R : Type 0} (remaining : R → Option (List ℕ)) (bytes : List ℕ) (reader given : Reader R)
    → reader_trim reader ≡ trim.None → names_headers reader ≡ true
    → reader_config reader ≡ default_config → reader_state reader ≡ st.StartRecord
    → source_of remaining reader ≡ Some (strip_bom bytes)
    → ChangesHeaders reader given → IsSome (reader_headers given) → HasRead remaining bytes [] given
has_read-none remaining bytes reader given untrimmed names plain start source changes headers = rw changes (record {
  text = strip_bom bytes;
  untrimmed = untrimmed;
  ready = inr (inl (names, headers));
  plain = plain;
  source = source;
  behind = record {
    count = length (strip_bom bytes) + 1;
    enough = inl (omega arith);
    whole = rw start refl;
    within = length-strip_bom bytes;
  };
})
