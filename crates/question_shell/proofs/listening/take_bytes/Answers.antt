use Rattle.std.proofs.Common.{◌++◌, ◌∷◌, [], Err, List, ℕ, Ok, ap, append-nil, append_assoc, refl, subst, sym, ◌∙◌}
use Rattle.std.proofs.lemmas.Result.{err_from_is_err_and}
use Rattle.question_shell.specs.Lines.{unended_line}
use Rattle.question_shell.specs.Session.{meaning_by}
use Rattle.question_shell.specs.Turns.{BytesTold, Heard, moment}
use Rattle.question_shell.proofs.SessionLemmas.{heard-bytes, piece_after, told-line, told-more}
use Rattle.question_shell.proofs.listening.take_bytes.Goals as goal

pub loop-line-init : goal.loop-line-init
loop-line-init g c = record {
  front = [];
  whole = refl;
  faults = refl;
  heard = λ start came heard.
      let meaning = meaning_by g.A.Answerer c.args.answerer in
      let here = moment (g.K.Sink.said c.args.sink.now) c.args.talk.now.text c.args.desk.now.view c.args.steps.now in
      let P : List ℕ → Type 0 = λ input. Heard meaning start here input c.args.talk.now.line in
      subst P (sym (append-nil came)) heard;
}

pub returns-in_err-take_line-clause-told : goal.returns-in_err-take_line-clause-told
returns-in_err-take_line-clause-told g c start came heard =
    let exit = err_from_is_err_and c.from_residual.result c.from_residual.ensures.1 in
    let meaning = meaning_by g.A.Answerer c.args.answerer in
    let before = c.loop-line in
    let here = moment (g.K.Sink.said before.sink) before.talk.text before.desk.view before.steps in
    let new = c.take_line.new in
    let now = moment (g.K.Sink.said new.sink) new.talk.text new.desk.view new.steps in
    let refused = c.in_err-take_line.field-0.0 in
    let front = before.invariant.front in
    let line = c.in-Some.line.now in
    let after = c.in-Some.after.now in
    let last = unended_line (came ++ front) in
    let hears = before.invariant.heard start came heard in
    let told = told-line meaning start here now came front line before.talk.line new.talk.line (Err refused)
    c.in-Some.ensures.line (c.in_err-take_line.ensures.told (last ++ line) (c.extend.ensures last hears.kept))
    c.take_line.ensures.line hears in
    let next = front ++ (line ++ 10 ∷ []) in
    let whole = piece_after c.args.bytes.now front before.left.now line after before.invariant.whole c.in-Some.ensures.some in
    let P : List ℕ → Type 0 = λ input. BytesTold meaning start now input new.talk.line (Err refused) in
    rw (exit.1, exit.2) (subst P (append_assoc came next after ∙ ap (λ rest. came ++ rest) (sym whole))
    (told-more meaning start now (came ++ next) after new.talk.line new.talk.line refused told))

pub loop-line-preserved : goal.loop-line-preserved
loop-line-preserved g c =
    let before = c.loop-line in
    let front = before.invariant.front in
    let line = c.in-Some.line.now in
    record {
      front = front ++ (line ++ 10 ∷ []);
      whole = piece_after c.args.bytes.now front before.left.now line c.in-Some.after.now before.invariant.whole
          c.in-Some.ensures.some;
      faults = c.in_ok-take_line.ensures.faults.untouched (λ same. absurd (cc)) ∙ before.invariant.faults;
      heard = λ start came heard.
          let meaning = meaning_by g.A.Answerer c.args.answerer in
          let here = moment (g.K.Sink.said before.sink) before.talk.text before.desk.view before.steps in
          let new = c.take_line.new in
          let now = moment (g.K.Sink.said new.sink) new.talk.text new.desk.view new.steps in
          let last = unended_line (came ++ front) in
          let hears = before.invariant.heard start came heard in
          told-line meaning start here now came front line before.talk.line new.talk.line (Ok tt)
          c.in-Some.ensures.line (c.in_ok-take_line.ensures.told (last ++ line) (c.extend.ensures last hears.kept))
          c.take_line.ensures.line hears;
    }

pub returns-clause-told : goal.returns-clause-told
returns-clause-told g c start came heard =
    let meaning = meaning_by g.A.Answerer c.args.answerer in
    let before = c.loop-line in
    let here = moment (g.K.Sink.said before.sink) before.talk.text before.desk.view before.steps in
    let front = before.invariant.front in
    let left = before.left.now in
    let new = c.extend-2.new.self in
    let hears = before.invariant.heard start came heard in
    let P : List ℕ → Type 0 = λ input. Heard meaning start here input new in
    subst P (append_assoc came front left ∙ ap (λ rest. came ++ rest) (sym before.invariant.whole))
    (heard-bytes meaning start here (came ++ front) left before.talk.line new c.in_default.ensures.none
    (c.extend-2.ensures (unended_line (came ++ front)) hears.kept) hears)
