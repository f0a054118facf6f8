-- The rows of records that come after others, one record after another.
use Rattle.std.proofs.Common.{◌≡◌, ℕ, ◌+◌, ◌<◌, ◌≤◌, List, [], ◌∷◌, ◌++◌, length, All, slice_get, true, false, Option, Some, None, refl, sym, ap, ◌∙◌, arith, append_assoc, length-append}
use Rattle.std.proofs.lemmas.List.{append-nil, length-map}
use Rattle.std.proofs.lemmas.List.Elements.{All-append, All-cons, All-nil}
use Rattle.csv.specs.Reading.{default_config, reader_state, records_from}
use Rattle.csv.specs.declared.reader.Reader.{Reader}
use Rattle.track_types.specs.Limits.{limit_of}
use Rattle.track_types.specs.Near.{IsRawInRange}
use Rattle.track_types.specs.declared.limit.LimitKind.TheVariants.{Rows}
use Rattle.track_types.specs.declared.raw_row.RawRow.{RawRow}
use Rattle.row_reader.specs.Pieces.{AreRowsAfter, AreRowsOf, IsPast}
use Rattle.row_reader.specs.Reading.{HasRead}
use Rattle.row_reader.specs.Row.{Fields, raw_of}
use Rattle.row_reader.specs.Rows.{IsRowsFault, data_among, is_data, records_of, record_refusal, refusals_of, rows_of}
use Rattle.row_reader.specs.declared.fault.RowsFault.{RowsFault}
use Rattle.row_reader.specs.declared.reading.Progress.{Progress}
use Rattle.row_reader.proofs.RowsLemmas.{IsRowsFault-csv_fault, csv_fault-refusal, data_among-data, data_among-heading, refusals_of-row, rows_of-row}

-- no record was read yet
pub AreRowsAfter-none : (before : List Fields) (progress : Progress)
    → IsPast before progress → AreRowsAfter before [] progress []
AreRowsAfter-none before progress past = record {
  past = rw (append-nil before) past;
  rows = rw (append-nil before, append-nil (rows_of (data_among before))) refl;
  ranges = All-nil IsRawInRange;
}

-- a heading more
pub AreRowsAfter-heading : (before seen : List Fields) (fields : Fields) (nth given : ℕ) (more : List RawRow)
    → is_data nth fields ≡ false
    → AreRowsAfter before seen (record { next = nth; given = given }) more
    → AreRowsAfter before (seen ++ (fields ∷ [])) (record { next = nth + 1; given = given }) more
AreRowsAfter-heading before seen fields nth given more heading are =
    let all = before ++ seen in
    let past = are.past in
    let same = data_among-heading all fields nth past.number heading in
    record {
      past = rw (← append_assoc before seen (fields ∷ [])) (record {
        number = omega (arith, past.number, length-append all (fields ∷ []));
        accepted = ap refusals_of same ∙ past.accepted;
        given = past.given ∙ ap length (sym same);
        few = past.few;
      });
      rows = rw (← append_assoc before seen (fields ∷ [])) (ap rows_of same ∙ are.rows);
      ranges = are.ranges;
    }

-- a row more
pub AreRowsAfter-row : (before seen : List Fields) (fields : Fields) (nth given : ℕ) (more : List RawRow) (row : RawRow)
    → is_data nth fields ≡ true → record_refusal given nth fields ≡ None → given < limit_of Rows
    → row ≡ raw_of fields → IsRawInRange row
    → AreRowsAfter before seen (record { next = nth; given = given }) more
    → AreRowsAfter before (seen ++ (fields ∷ [])) (record { next = nth + 1; given = given + 1 }) (more ++ (row ∷ []))
AreRowsAfter-row before seen fields nth given more row is sound below same in_range are =
    let all = before ++ seen in
    let past = are.past in
    let longer = ap length (data_among-data all fields [] nth past.number is)
    ∙ length-append (data_among all) ((nth, fields) ∷ []) in
    record {
      past = rw (← append_assoc before seen (fields ∷ [])) (record {
        number = omega (arith, past.number, length-append all (fields ∷ []));
        accepted = refusals_of-row all fields nth past.number is past.accepted (rw past.given at sound);
        given = omega (arith, past.given, longer);
        few = omega (arith, below);
      });
      rows = rw (← append_assoc before seen (fields ∷ []), same, ← append_assoc _ more (raw_of fields ∷ []))
          (rows_of-row all fields nth past.number is ∙ ap (λ rows. rows ++ (raw_of fields ∷ [])) are.rows);
      ranges = All-append IsRawInRange more (row ∷ []) are.ranges
          (All-cons IsRawInRange row [] in_range (All-nil IsRawInRange));
    }

-- a record that is refused
pub IsRowsFault-refusal : {R : Type 0} (remaining : R → Option (List ℕ)) (bytes text : List ℕ)
    (before seen : List Fields) (fields : Fields) (nth given : ℕ)
    (fault : RowsFault) (more : List RawRow) (reader : Reader R)
    → is_data nth fields ≡ true → record_refusal given nth fields ≡ Some fault
    → AreRowsAfter before seen (record { next = nth; given = given }) more
    → HasRead remaining text (seen ++ (fields ∷ [])) reader
    → records_of bytes ≡ before ++ records_of text → IsRowsFault bytes fault
IsRowsFault-refusal remaining bytes text before seen fields nth given fault more reader is refused are has whole =
    let all = before ++ seen in
    let past = are.past in
    let behind = has.behind in
    let after = records_from default_config behind.count (reader_state reader) has.text in
    let joined : before ++ ((seen ++ (fields ∷ [])) ++ after) ≡ (all ++ (fields ∷ [])) ++ after =
    rw (append_assoc before seen (fields ∷ []), append_assoc before (seen ++ (fields ∷ [])) after) refl in
    IsRowsFault-csv_fault bytes fault
    (csv_fault-refusal bytes all fields after nth fault past.number is past.accepted (rw past.given at refused)
    (whole ∙ ap (λ records. before ++ records) behind.whole ∙ joined))

-- the rows of all records so far, of which there are not too many
pub rows-after : (before records : List Fields) (raws more : List RawRow) (progress : Progress)
    → raws ≡ rows_of (data_among before) → AreRowsAfter before records progress more
    → raws ++ more ≡ rows_of (data_among (before ++ records))
rows-after before records raws more progress given are = ap (λ first. first ++ more) given ∙ sym are.rows

pub few-rows : (records : List Fields) (raws : List RawRow) (progress : Progress)
    → raws ≡ rows_of (data_among records) → IsPast records progress → length raws ≤ limit_of Rows
few-rows records raws progress rows past =
    let count = ap length rows ∙ length-map (data_among records) _ in omega (arith, count, past.given, past.few)

-- the rows of a whole file, when the records of its last text were read
pub AreRowsOf-after : (bytes text : List ℕ) (before : List Fields) (raws more : List RawRow) (progress : Progress)
    → records_of bytes ≡ before ++ records_of text → raws ≡ rows_of (data_among before) → All IsRawInRange raws
    → AreRowsAfter before (records_of text) progress more → AreRowsOf bytes (raws ++ more)
AreRowsOf-after bytes text before raws more progress whole given ranges are =
    let rows = rows-after before (records_of text) raws more progress given are in
    record {
      accepted = ap (λ records. slice_get (refusals_of (data_among records)) 0) whole
          ∙ ap (λ refusals. slice_get refusals 0) are.past.accepted;
      rows = rows ∙ ap (λ records. rows_of (data_among records)) (sym whole);
      few = few-rows (before ++ records_of text) (raws ++ more) progress rows are.past;
      ranges = All-append IsRawInRange raws more ranges are.ranges;
    }
