-- The rows and the first fault of records, one record after another.
use Rattle.std.proofs.Common.{◌≡◌, ℕ, ◌+◌, List, [], ◌∷◌, ◌++◌, length, filter, Bool, true, false, slice_get, Some, None, refl, ap, ◌∙◌, arith, append_assoc, Option}
use Rattle.std.specs.List.{enumerate_from, filter_map}
use Rattle.std.proofs.lemmas.List.{append-nil, map-append}
use Rattle.std.proofs.lemmas.List.Elements.{filter-append, filter_map-append}
use Rattle.list_laws.proofs.RangeLemmas.{enumerate_from-append}
use Rattle.row_reader.specs.Row.{Fields, raw_of}
use Rattle.row_reader.specs.Rows.{IsRowsFault, csv_fault, data_among, is_data, records_of, record_refusal, refusals_of, rows_of}
use Rattle.row_reader.specs.declared.fault.RowsFault.TheVariants.{Row, Limit, Memory}
use Rattle.row_reader.specs.declared.fault.RowsFault.{RowsFault}

-- the tests of the definitions, as functions of pairs
abbrev is_data_pair : ℕ × Fields → Bool
is_data_pair numbered = is_data numbered.0 numbered.1

abbrev pub refusal_of_placed : ℕ × (ℕ × Fields) → Option RowsFault
refusal_of_placed placed = record_refusal placed.0 placed.1.0 placed.1.1

-- the data records among records that are numbered from another number
abbrev pub data_from : ℕ → List Fields → List (ℕ × Fields)
data_from first all = filter is_data_pair (enumerate_from first all)

-- a record after others is data, or it is none
data_among-append : (seen after : List Fields)
    → data_among (seen ++ after) ≡ data_among seen ++ data_from (1 + length seen) after
data_among-append seen after =
    ap (filter is_data_pair) (enumerate_from-append 1 seen after)
    ∙ filter-append is_data_pair (enumerate_from 1 seen) (enumerate_from (1 + length seen) after)

pub data_among-data : (seen : List Fields) (fields : Fields) (after : List Fields) (nth : ℕ) → nth ≡ length seen + 1
    → is_data nth fields ≡ true
    → data_among (seen ++ (fields ∷ after)) ≡ data_among seen ++ ((nth, fields) ∷ data_from (nth + 1) after)
data_among-data seen fields after nth number is =
    let here : 1 + length seen ≡ nth = omega arith in
    data_among-append seen (fields ∷ after) ∙ rw (here, is) refl

pub data_among-heading : (seen : List Fields) (fields : Fields) (nth : ℕ) → nth ≡ length seen + 1
    → is_data nth fields ≡ false → data_among (seen ++ (fields ∷ [])) ≡ data_among seen
data_among-heading seen fields nth number is =
    let here : 1 + length seen ≡ nth = omega arith in
    data_among-append seen (fields ∷ []) ∙ rw (here, is) (append-nil (data_among seen))

-- the refusals of data records after those that have none
refusals_of-append : (front back : List (ℕ × Fields)) → refusals_of front ≡ []
    → refusals_of (front ++ back) ≡ filter_map refusal_of_placed (enumerate_from (length front) back)
refusals_of-append front back none =
    let here : 0 + length front ≡ length front = omega arith in
    let placed = enumerate_from-append 0 front back ∙ ap (λ n. enumerate_from 0 front ++ enumerate_from n back) here in
    ap (filter_map refusal_of_placed) placed
    ∙ filter_map-append refusal_of_placed (enumerate_from 0 front) (enumerate_from (length front) back)
    ∙ ap (λ refusals. refusals ++ filter_map refusal_of_placed (enumerate_from (length front) back)) none

-- a row more
pub refusals_of-row : (seen : List Fields) (fields : Fields) (nth : ℕ)
    → nth ≡ length seen + 1 → is_data nth fields ≡ true
    → refusals_of (data_among seen) ≡ [] → record_refusal (length (data_among seen)) nth fields ≡ None
    → refusals_of (data_among (seen ++ (fields ∷ []))) ≡ []
refusals_of-row seen fields nth number is none sound =
    ap refusals_of (data_among-data seen fields [] nth number is)
    ∙ refusals_of-append (data_among seen) ((nth, fields) ∷ []) none
    ∙ rw sound refl

pub rows_of-row : (seen : List Fields) (fields : Fields) (nth : ℕ) → nth ≡ length seen + 1 → is_data nth fields ≡ true
    → rows_of (data_among (seen ++ (fields ∷ []))) ≡ rows_of (data_among seen) ++ (raw_of fields ∷ [])
rows_of-row seen fields nth number is =
    ap rows_of (data_among-data seen fields [] nth number is)
    ∙ map-append (λ numbered. raw_of numbered.1) (data_among seen) ((nth, fields) ∷ [])

-- a record that is refused after rows
pub csv_fault-refusal : (bytes : List ℕ) (seen : List Fields) (fields : Fields) (after : List Fields)
    (nth : ℕ) (fault : RowsFault)
    → nth ≡ length seen + 1 → is_data nth fields ≡ true → refusals_of (data_among seen) ≡ []
    → record_refusal (length (data_among seen)) nth fields ≡ Some fault
    → records_of bytes ≡ (seen ++ (fields ∷ [])) ++ after → csv_fault bytes ≡ Some fault
csv_fault-refusal bytes seen fields after nth fault number is none refused whole =
    ap (λ all. slice_get (refusals_of (data_among all)) 0) (whole ∙ append_assoc seen (fields ∷ []) after)
    ∙ ap (λ numbered. slice_get (refusals_of numbered) 0) (data_among-data seen fields after nth number is)
    ∙ ap (λ refusals. slice_get refusals 0)
    (refusals_of-append (data_among seen) ((nth, fields) ∷ data_from (nth + 1) after) none)
    ∙ rw refused refl

-- the first refusal of a file may be answered
pub IsRowsFault-csv_fault : (bytes : List ℕ) (fault : RowsFault) → csv_fault bytes ≡ Some fault → IsRowsFault bytes fault
IsRowsFault-csv_fault bytes (Row nth field fault) e = e
IsRowsFault-csv_fault bytes (Limit value) e = e
IsRowsFault-csv_fault bytes Memory e = tt
