use Rattle.std.proofs.Common.{rules, ◌≡◌, ◌∙◌, true, false, List, ℕ, [], ◌∷◌, ◌++◌, length, take, is_ok, OnOk, Result, Ok, Err, if◌then◌else◌, refl, ap, vec_len, sym}
use Rattle.std.proofs.lemmas.Result.{on_ok_weaker}
use Rattle.row_reader.proofs.TakenLemmas.{HasTaken-lines, HasTaken-piece_alone, waits-fault}
use Rattle.row_reader.specs.declared.parser.RowParser.{RowParser}
use Rattle.row_reader.proofs.parser.RowParser.read_lines.Goals as goal

-- where the line feed was put into what was cleared, it is all that is kept
feed_alone : {T E : Type 0} (result : Result T E) (cleared kept : List ℕ) → cleared ≡ []
    → kept ≡ (if is_ok result then cleared ++ (10 ∷ []) else cleared) → OnOk result (kept ≡ 10 ∷ [])
feed_alone (Ok done) cleared kept none all = all ∙ ap (λ first. first ++ (10 ∷ [])) none
feed_alone (Err e) cleared kept none all = tt

pub returns-in-Ok : goal.returns-in-Ok
returns-in-Ok c =
    let old = c.args.self.now in
    let lines = c.args.lines.now in
    let known = c.chain-text.ensures.bytes ∙ rw c.as_slice.ensures.value refl in
    let read = c.in-Ok.ensures.ok (old.rest.items ++ lines) known in
    let alone = feed_alone c.extend_from_slice.result c.clear.new.self.items c.extend_from_slice.new.self.items
    c.clear.ensures.items c.extend_from_slice.ensures.items in
    on_ok_weaker c.extend_from_slice.result (λ rest bytes raws has. record {
      more = read.more;
      added = read.added;
      promise = HasTaken-lines bytes lines raws read.more old _ has c.requires.ended rest refl refl
          (read.promise has.records has.past);
    }) alone

pub returns-else-not-is_refusal : goal.returns-else-not-is_refusal
returns-else-not-is_refusal c =
    let rows = c.args.rows.now in
    let size : vec_len rows ≡ length rows.items = search rules in
    let old = c.args.self.now in
    let lines = c.args.lines.now in
    let none = c.truncate.ensures.items
    ∙ ap (λ count. take count c.read_on.new.rows.items) (c.len-count.ensures ∙ size)
    ∙ c.read_on.ensures.kept in
    let new : RowParser = record {
      rest = c.extend_from_slice-in-Err.new.self;
      progress = old.progress;
      is_waiting = true;
      least = old.least;
    } in
    HasTaken-piece_alone c.extend_from_slice-in-Err.result lines rows.items c.truncate.new.self.items old new none
    c.extend_from_slice-in-Err.ensures.items refl refl
    (λ least short goes_on. absurd (let waits : true ≡ false = goes_on in cc))
    (waits-fault lines old new c.in-Err.fault c.requires.ended
    (sym c.is_refusal.ensures ∙ c.if-not-is_refusal.false) (c.in-Err.ensures.fault (old.rest.items ++ lines)
    (c.chain-text.ensures.bytes ∙ rw c.as_slice.ensures.value refl)))
