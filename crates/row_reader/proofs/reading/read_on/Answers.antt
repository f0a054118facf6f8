use Rattle.std.proofs.Common.{◌≡◌, true, Option, Some, None, IsSomeAnd, refl, ◌∙◌, [], ◌∷◌, ◌++◌, sym, arith, append_assoc}
use Rattle.std.proofs.lemmas.List.{append-nil}
use Rattle.std.proofs.lemmas.Option.{same_Some}
use Rattle.std.proofs.lemmas.Result.{err_from_is_err_and}
use Rattle.csv.specs.Records.{fields_of}
use Rattle.row_reader.specs.Reading.{ShowsNext}
use Rattle.row_reader.proofs.ProgressLemmas.{AreRowsAfter-heading, AreRowsAfter-none, AreRowsAfter-row, IsRowsFault-refusal}
use Rattle.row_reader.proofs.reading.read_on.Given.{Over}
use Rattle.row_reader.proofs.reading.read_on.Goals as goal
use Rattle.row_reader.proofs.reading.read_on.Goals.{After-is_data_record}

-- a value that is there
some_and : {T : Type 0} (value : Option T) (holds : T → Type 0) → IsSomeAnd value holds
    → (found : T) × (value ≡ Some found)
some_and None holds none = absurd none
some_and (Some found) holds is = (found, refl)

pub loop-nth-init : goal.loop-nth-init
loop-nth-init g c =
    let source = some_and (g.R.Read.remaining c.args.source) _ c.requires in
    record {
      text = source.0;
      known = source.1;
      seen = [];
      has_read = c.in_ok-reader.ensures.ok source.0 source.1;
      added = record {
        more = [];
        added = sym (append-nil c.args.rows.now.items);
        promise = λ before past. AreRowsAfter-none before c.args.progress past;
      };
    }

pub returns-then-not-branch-clause-ok : goal.returns-then-not-branch-clause-ok
returns-then-not-branch-clause-ok g c = λ text known.
    let invariant = c.loop-nth.invariant in
    let same = same_Some text invariant.text (sym known ∙ invariant.known) in
    rw (
      same,
      rw c.if-not-branch.true at
          (c.in_ok-read_next.ensures.found invariant.text invariant.seen invariant.has_read),
    ) invariant.added

-- the record that was read
shown_next : (g : Over) (c : After-is_data_record g)
    → ShowsNext g.R.Read.remaining c.loop-nth.invariant.text c.loop-nth.invariant.seen
    (fields_of c.read_next.new.fields) c.read_next.new.reader true
shown_next g c =
    let invariant = c.loop-nth.invariant in
    rw c.if-not-branch.false at
    (c.in_ok-read_next.ensures.found invariant.text invariant.seen invariant.has_read)

pub loop-nth-preserved-then-not-is_data_record : goal.loop-nth-preserved-then-not-is_data_record
loop-nth-preserved-then-not-is_data_record g c =
    let invariant = c.loop-nth.invariant in
    let shown = shown_next g (goal.at.loop-nth-preserved-then-not-is_data_record g c).After-is_data_record in
    let fields = fields_of c.read_next.new.fields in
    let heading = sym c.is_data_record.ensures ∙ c.if-not-is_data_record.true in
    record {
      text = invariant.text;
      known = invariant.known;
      seen = invariant.seen ++ (fields ∷ []);
      has_read = shown.0;
      added = record {
        more = invariant.added.more;
        added = invariant.added.added;
        promise = λ before past.
            AreRowsAfter-heading before invariant.seen fields c.loop-nth.nth c.loop-nth.given invariant.added.more
            heading (invariant.added.promise before past);
      };
    }

pub read_data-requires : goal.read_data-requires
read_data-requires g c =
    let invariant = c.loop-nth.invariant in
    let shown = shown_next g (goal.at.read_data-requires g c).After-is_data_record in
    let within = rw invariant.known at c.requires in
    omega (arith, shown.1, within)

pub returns-in_err-row-clause-fault : goal.returns-in_err-row-clause-fault
returns-in_err-row-clause-fault g c =
    let invariant = c.loop-nth.invariant in
    let shown = shown_next g (goal.at.returns-in_err-row-clause-fault g c).After-is_data_record in
    let fields = fields_of c.read_next.new.fields in
    let is = sym c.is_data_record.ensures ∙ c.if-not-is_data_record.false in
    let answered = err_from_is_err_and c.from_residual-in_err-row.result c.from_residual-in_err-row.ensures.1 in
    rw (answered.1, answered.2) (λ text known bytes before past whole.
    let same = same_Some text invariant.text (sym known ∙ invariant.known) in
    IsRowsFault-refusal g.R.Read.remaining bytes invariant.text before invariant.seen fields c.loop-nth.nth
    c.loop-nth.given c.in_err-row.field-0.0 invariant.added.more c.read_next.new.reader is c.in_err-row.ensures.err
    (invariant.added.promise before past) shown.0 (rw same at whole))

pub loop-nth-preserved : goal.loop-nth-preserved
loop-nth-preserved g c =
    let invariant = c.loop-nth.invariant in
    let shown = shown_next g (goal.at.loop-nth-preserved g c).After-is_data_record in
    let fields = fields_of c.read_next.new.fields in
    let is = sym c.is_data_record.ensures ∙ c.if-not-is_data_record.false in
    let row = c.in_ok-row.ensures in
    let more = invariant.added.more in
    record {
      text = invariant.text;
      known = invariant.known;
      seen = invariant.seen ++ (fields ∷ []);
      has_read = shown.0;
      added = record {
        more = more ++ (c.in_ok-row.row ∷ []);
        added = rw (c.in_ok-push.ensures.items, invariant.added.added)
            (append_assoc c.args.rows.now.items more (c.in_ok-row.row ∷ []));
        promise = λ before past.
            AreRowsAfter-row before invariant.seen fields c.loop-nth.nth c.loop-nth.given more c.in_ok-row.row
            is row.ok.0 row.within row.ok.1 row.ranges (invariant.added.promise before past);
      };
    }
