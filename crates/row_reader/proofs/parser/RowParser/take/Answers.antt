use Rattle.std.proofs.Common.{◌≡◌, ◌∙◌, [], ◌∷◌, ◌++◌, ◌+◌, take, get_or, length, refl, arith, ap, sym, true, false, subst, append_assoc}
use Rattle.std.proofs.lemmas.Bool.{eqb-true}
use Rattle.std.proofs.lemmas.List.{get_or-drop, length-append, length-drop, take-append-drop, take_more}
use Rattle.std.proofs.lemmas.Result.{on_ok_weaker}
use Rattle.row_reader.specs.Pieces.{HasTaken}
use Rattle.row_reader.specs.declared.parser.RowParser.{RowParser}
use Rattle.row_reader.proofs.TakenLemmas.{HasRefusal-more, HasTaken-piece, HasTaken-piece_alone, HoldsLine-few, HoldsLine-more}
use Rattle.row_reader.proofs.parser.RowParser.take.Goals.{then-self-via-else-self+then-len-piece, then-self-via-then-self}
use Rattle.row_reader.proofs.parser.RowParser.take.Goals as goal

pub returns-then-self : goal.returns-then-self
returns-then-self c =
    HasTaken-piece_alone c.extend_from_slice.result c.args.piece.now c.args.rows.now.items _ c.args.self.now _ refl
    c.extend_from_slice.ensures.items refl refl
    (λ least short goes_on. elim c.then-self.branch [
      | then-self-via-then-self w ↦ absurd (let waits : true ≡ false = sym w.if-self.true ∙ goes_on in cc)
      | then-self-via-else-self+then-len-piece w ↦
          HoldsLine-few (c.args.self.now.rest.items ++ c.args.piece.now)
          (omega (arith, length-append c.args.self.now.rest.items c.args.piece.now, w.if-len-piece.true, w.len.ensures, least))
    ])
    (λ bytes raws has is. HasRefusal-more bytes c.args.piece.now (has.waits is))

pub returns-in_default : goal.returns-in_default
returns-in_default c =
    HasTaken-piece_alone c.extend_from_slice-in_default.result c.args.piece.now c.args.rows.now.items _ c.args.self.now _
    refl c.extend_from_slice-in_default.ensures.items refl refl
    (λ least short goes_on. HoldsLine-more c.args.self.now.rest.items c.args.piece.now
    (λ place high is. c.in_default.ensures place (omega arith) high (rw is refl)) (short goes_on))
    (λ bytes raws has is. HasRefusal-more bytes c.args.piece.now (has.waits is))

pub read_lines-requires-clause-ended : goal.read_lines-requires-clause-ended
read_lines-requires-clause-ended c =
    let piece = c.args.piece.now in
    let last = c.in-Some.last in
    let feed : get_or piece last 0 ≡ 10 = eqb-true _ 10 c.in-Some.ensures.1 in
    record {
      front = take last piece;
      feed =
          c.split_at.ensures.front
          ∙ take_more piece last 0 c.in-Some.ensures.0.high
          ∙ ap (λ byte. take last piece ++ (byte ∷ [])) feed;
    }

pub returns : goal.returns
returns c =
    let piece = c.args.piece.now in
    let last = c.in-Some.last in
    let lines = c.split_at.result.0.now in
    let others = c.split_at.result.1.now in
    let parts : lines ++ others ≡ piece =
    rw (c.split_at.ensures.front, c.split_at.ensures.back) (take-append-drop (last + 1) piece) in
    let new : RowParser = record {
      rest = c.extend_from_slice-2.new.self;
      progress = c.read_lines.new.self.progress;
      is_waiting = c.read_lines.new.self.is_waiting;
      least = c.read_lines.new.self.least;
    } in
    on_ok_weaker c.extend_from_slice-2.result (λ then bytes raws has.
    let read = c.in_ok-read_lines.ensures bytes raws has in
    record {
      more = read.more;
      added = read.added;
      promise = subst (λ all. HasTaken all (raws ++ read.more) new)
          (append_assoc bytes lines others ∙ ap (λ all. bytes ++ all) parts)
          (then (bytes ++ lines) (raws ++ read.more) read.promise);
    })
    (HasTaken-piece c.extend_from_slice-2.result others c.read_lines.new.self new c.extend_from_slice-2.ensures.items
    refl refl
    (λ least short goes_on. HoldsLine-more c.read_lines.new.self.rest.items others
    (λ place high is. c.in-Some.ensures.0.after (last + 1 + place) (omega arith)
    (omega (arith, high, ap length c.split_at.ensures.back, length-drop (last + 1) piece))
    (rw (sym (get_or-drop (last + 1) piece place 0), sym c.split_at.ensures.back, is) refl)) (short goes_on))
    (λ bytes raws has is. HasRefusal-more bytes others (has.waits is)))
