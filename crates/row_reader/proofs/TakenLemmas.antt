-- What a parser has taken, one piece after another.
use Rattle.std.proofs.Common.{◌≡◌, ◌≢◌, ◌-◌, ◌<◌, ◌≤◌, ℕ, true, false, None, inl, inr, length, subst, List, [], ◌∷◌, ◌++◌, is_ok, OnOk, Result, Ok, Err, if◌then◌else◌, refl, sym, ap, ◌∙◌, arith, append_assoc, length-append}
use Rattle.std.specs.Prelude.{slice_index}
use Rattle.std.proofs.lemmas.Bool.{cases_order}
use Rattle.std.proofs.Math.ListN.{get_or-append}
use Rattle.std.proofs.Math.Seq.{get_or-append_right}
use Rattle.std.proofs.lemmas.List.{append-nil}
use Rattle.std.proofs.lemmas.List.Elements.{All-append}
use Rattle.std.proofs.lemmas.Result.{on_ok_weaker}
use Rattle.track_types.specs.Near.{IsRawInRange}
use Rattle.track_types.specs.declared.raw_row.RawRow.{RawRow}
use Rattle.row_reader.specs.Pieces.{Adds, AreRowsAfter, EndsLine, HasRefusal, HasTaken, HoldsLine, IsPast}
use Rattle.row_reader.specs.Row.{Fields}
use Rattle.row_reader.specs.Rows.{IsRowsFault, csv_fault, is_refusal, records_of}
use Rattle.row_reader.specs.declared.fault.RowsFault.{RowsFault}
use Rattle.row_reader.specs.declared.fault.RowsFault.TheVariants.{Row, Limit, Memory}
use Rattle.row_reader.specs.declared.parser.RowParser.{RowParser}
use Rattle.row_reader.specs.declared.parser.TheConstants.{LEAST}
use Rattle.row_reader.proofs.PieceLemmas.{closed, cut}
use Rattle.row_reader.proofs.ProgressLemmas.{rows-after}

-- a piece without a line feed goes on with the line
pub HoldsLine-more : (kept piece : List ℕ) → ((place : ℕ) → place < length piece → slice_index piece place ≢ 10)
    → HoldsLine kept → HoldsLine (kept ++ piece)
HoldsLine-more kept piece none holds = record {
  line = holds.line;
  few = holds.few;
  unended = λ place low high is.
      let beyond = λ (after : length kept ≤ place).
      none (place - length kept) (omega (arith, length-append kept piece, high, after))
      (sym (get_or-append_right kept piece place 0 after) ∙ is) in
      elim (cases_order place (length kept)) [
        | inl same ↦ beyond (omega (arith, same))
        | inr (inl before) ↦ holds.unended place low before (sym (get_or-append kept piece 0 place before) ∙ is)
        | inr (inr after) ↦ beyond (omega (arith, after))
      ];
}

-- few bytes hold no line that has ended
pub HoldsLine-few : (kept : List ℕ) → length kept < LEAST → HoldsLine kept
HoldsLine-few kept few = record {
  line = length kept;
  few = few;
  unended = λ place low high is. absurd (omega (arith, low, high));
}

-- a file has been refused, also where it goes on
refused_by : (lines : List ℕ) (fault : RowsFault) → is_refusal fault ≡ true → IsRowsFault lines fault → csv_fault lines ≢ None
refused_by lines (Row nth field cause) refusal is none = cc
refused_by lines (Limit value) refusal is none = cc
refused_by lines Memory refusal is none = cc

pub HasRefusal-more : (bytes piece : List ℕ) → HasRefusal bytes → HasRefusal (bytes ++ piece)
HasRefusal-more bytes piece has = record {
  lines = has.lines;
  others = has.others ++ piece;
  parts = ap (λ first. first ++ piece) has.parts ∙ append_assoc has.lines has.others piece;
  ended = has.ended;
  refused = has.refused;
}

-- what a parser keeps once a piece was put after it is little more than a line, unless it waits
abbrev pub StaysShort : List ℕ → RowParser → RowParser → Type 0
StaysShort piece old new = old.least ≤ LEAST → (old.is_waiting ≡ false → HoldsLine old.rest.items)
    → new.is_waiting ≡ false → HoldsLine (old.rest.items ++ piece)

-- a parser that waits once a piece was put after what it keeps did so before, or a record is refused
abbrev pub WaitsFor : List ℕ → RowParser → RowParser → Type 0
WaitsFor piece old new = (bytes : List ℕ) (raws : List RawRow) → HasTaken bytes raws old
    → new.is_waiting ≡ true → HasRefusal (bytes ++ piece)

-- what is kept was read with these lines, and a record was refused
pub waits-fault : (lines : List ℕ) (old new : RowParser) (fault : RowsFault) → EndsLine lines → is_refusal fault ≡ true
    → ((bytes : List ℕ) (before : List Fields) → IsPast before old.progress
    → records_of bytes ≡ before ++ records_of (old.rest.items ++ lines) → IsRowsFault bytes fault)
    → WaitsFor lines old new
waits-fault lines old new fault ended refusal refuses bytes raws has is = record {
  lines = bytes ++ lines;
  others = [];
  parts = sym (append-nil (bytes ++ lines));
  ended = record {
    front = bytes ++ ended.front;
    feed = ap (λ last. bytes ++ last) ended.feed ∙ sym (append_assoc bytes ended.front (10 ∷ []));
  };
  refused = refused_by (bytes ++ lines) fault refusal (refuses (bytes ++ lines) has.records has.past (has.whole lines));
}

-- a piece was put after what is kept
HasTaken-kept : (bytes piece : List ℕ) (raws : List RawRow) (old new : RowParser)
    → new.rest.items ≡ old.rest.items ++ piece → new.progress ≡ old.progress → new.least ≡ old.least
    → StaysShort piece old new → WaitsFor piece old new → HasTaken bytes raws old → HasTaken (bytes ++ piece) raws new
HasTaken-kept bytes piece raws old new rest same least stays waits has = record {
  records = has.records;
  whole = λ more.
      ap records_of (append_assoc bytes piece more)
      ∙ has.whole (piece ++ more)
      ∙ ap (λ text. has.records ++ records_of text)
      (sym (append_assoc old.rest.items piece more) ∙ ap (λ kept. kept ++ more) (sym rest));
  within = rw (rest, length-append old.rest.items piece, length-append bytes piece) (omega (arith, has.within));
  past = rw same has.past;
  rows = has.rows;
  ranges = has.ranges;
  least = rw least has.least;
  short = λ goes_on. subst HoldsLine (sym rest) (stays has.least has.short goes_on);
  waits = waits bytes raws has;
}

-- the same of a call that puts it there
pub HasTaken-piece : {T E : Type 0} (result : Result T E) (piece : List ℕ) (old new : RowParser)
    → new.rest.items ≡ (if is_ok result then old.rest.items ++ piece else old.rest.items)
    → new.progress ≡ old.progress → new.least ≡ old.least → StaysShort piece old new → WaitsFor piece old new
    → OnOk result ((bytes : List ℕ) (raws : List RawRow) → HasTaken bytes raws old → HasTaken (bytes ++ piece) raws new)
HasTaken-piece (Ok done) piece old new rest same least stays waits =
    λ bytes raws has. HasTaken-kept bytes piece raws old new rest same least stays waits has
HasTaken-piece (Err e) piece old new rest same least stays waits = tt

-- and where no row is put after those that were there
pub HasTaken-piece_alone : {T E : Type 0} (result : Result T E)
    (piece : List ℕ) (rows rows' : List RawRow) (old new : RowParser)
    → rows' ≡ rows → new.rest.items ≡ (if is_ok result then old.rest.items ++ piece else old.rest.items)
    → new.progress ≡ old.progress → new.least ≡ old.least → StaysShort piece old new → WaitsFor piece old new
    → OnOk result ((bytes : List ℕ) (raws : List RawRow) → HasTaken bytes raws old
    → Adds rows rows' (λ more. HasTaken (bytes ++ piece) (raws ++ more) new))
HasTaken-piece_alone result piece rows rows' old new none rest same least stays waits =
    on_ok_weaker result (λ kept bytes raws has. record {
      more = [];
      added = none ∙ sym (append-nil rows);
      promise = rw (append-nil raws) (kept bytes raws has);
    }) (HasTaken-piece result piece old new rest same least stays waits)

-- what is kept was read, and the lines after it, and a line feed stays
pub HasTaken-lines : (bytes lines : List ℕ) (raws more : List RawRow) (old new : RowParser)
    (has : HasTaken bytes raws old) → EndsLine lines → new.rest.items ≡ 10 ∷ []
    → new.least ≡ old.least → new.is_waiting ≡ old.is_waiting → AreRowsAfter has.records (records_of (old.rest.items ++ lines)) new.progress more
    → HasTaken (bytes ++ lines) (raws ++ more) new
HasTaken-lines bytes lines raws more old new has ended rest least same are =
    let kept = old.rest.items in
    let front = ended.front in
    let ends = ended.feed in
    let read = records_of (kept ++ lines) in
    let text : kept ++ lines ≡ (kept ++ front) ++ (10 ∷ []) =
    ap (λ last. kept ++ last) ends ∙ sym (append_assoc kept front (10 ∷ [])) in
    let shut = rw text at (closed has.records read are.past.accepted) in
    record {
      records = has.records ++ read;
      whole = λ others.
          ap records_of (append_assoc bytes lines others)
          ∙ has.whole (lines ++ others)
          ∙ ap (λ all. has.records ++ records_of all) (sym (append_assoc kept lines others))
          ∙ ap (λ records. has.records ++ records) (rw (text, rest) (cut (kept ++ front) others shut))
          ∙ sym (append_assoc has.records read (records_of (new.rest.items ++ others)));
      within = rw (rest, ends, length-append bytes (front ++ (10 ∷ [])), length-append front (10 ∷ [])) (omega arith);
      past = are.past;
      rows = rows-after has.records read raws more new.progress has.rows are;
      ranges = All-append IsRawInRange raws more has.ranges are.ranges;
      least = rw least has.least;
      short = λ goes_on. subst HoldsLine (sym rest) (HoldsLine-few (10 ∷ []) (omega arith));
      waits = λ is. HasRefusal-more bytes lines (has.waits (sym same ∙ is));
    }

-- the records of a file that ends with what is kept
pub records_of-kept : (bytes text : List ℕ) (raws : List RawRow) (parser : RowParser) → text ≡ parser.rest.items
    → (has : HasTaken bytes raws parser) → records_of bytes ≡ has.records ++ records_of text
records_of-kept bytes text raws parser kept has =
    ap records_of (sym (append-nil bytes))
    ∙ has.whole []
    ∙ ap (λ rest. has.records ++ records_of rest) (append-nil parser.rest.items ∙ sym kept)
