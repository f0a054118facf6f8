use Rattle.std.proofs.Common.{◌≡◌, ◌+◌, ◌<◌, ◌≤◌, [], ◌++◌, length, length-append, take, drop, refl, ap}
use Rattle.std.proofs.Common.{append-nil, arith, rules, ◌∙◌, Err}
use Rattle.std.proofs.lemmas.Result.{err_from_is_err_and}
use Rattle.host_ports.specs.Faults.{Rose}
use Rattle.host_ports.specs.declared.sink.Sink.{Ghosts as OfSink}
use Rattle.host_ports.specs.declared.source.Source.{Ghosts as OfSource}
use Rattle.track_types.specs.Limits.{limit_of}
use Rattle.track_types.specs.declared.limit.LimitKind.TheVariants.{Questions}
use Rattle.question_shell.specs.RunEnds.{CountsRun}
use Rattle.question_shell.specs.Session.{Meaning, Run, meaning_by, run_by}
use Rattle.question_shell.specs.declared.shell_fault.ShellFault.TheVariants as shell
use Rattle.question_shell.proofs.RunLemmas.{AnswersRun-answered, Brings, CountsRun-cut, Ends, Stands, answers-all}
use Rattle.question_shell.proofs.RunLemmas.{answers-first, answers-whole, cut-end, cut-piece}
use Rattle.question_shell.proofs.SessionLemmas.{came-more, came-nothing, heard-all, heard-nothing, moment_of, piece_heard}
use Rattle.question_shell.proofs.shell.run.Given.{Over}
use Rattle.question_shell.proofs.shell.run.Goals as goal
use Rattle.question_shell.proofs.shell.run.Goals.{After-listen, After-take_end, After-take_piece}

module _ (g : Over) (c : After-listen g) where
  abbrev meaning : Meaning
  meaning = meaning_by g.A.Answerer c.args.answerer

  -- at the call
  abbrev before : Run
  before = run_by g.S.Source g.K.Sink c.args.source.now c.args.sink.now c.args.desk.now.view c.args.steps.now

  -- before more is listened to
  abbrev here : Run
  here = run_by g.S.Source g.K.Sink c.pieces.source c.pieces.sink c.pieces.desk.view c.pieces.steps

  stands : Stands meaning before here c.pieces.talk.line
  stands =
      let read = c.pieces.invariant in
      let short : length read.bytes ≤ limit_of Questions = omega (arith, read.count, c.pieces-test.true) in
      record {
        bytes = read.bytes;
        came = read.came;
        short = short;
        heard = heard-all meaning (moment_of before) (moment_of here) read.bytes c.pieces.talk.line short read.heard;
      }

-- the end came
ends : (g : Over) (c : After-take_end g) →
    Ends
    (run_by g.S.Source g.K.Sink c.pieces.source c.pieces.sink
    c.pieces.desk.view c.pieces.steps)
    (run_by g.S.Source g.K.Sink c.listen.new.self c.take_end.new.sink c.take_end.new.desk.view c.take_end.new.steps)
ends g c =
    let piece = take c.in_ok-count.count c.listen.new.buf in
    let nothing : piece ≡ [] = rw c.if-count-eq0.true refl in
    let room : 0 < length c.listen.new.buf = search rules in
    record {
      piece = piece;
      nothing = nothing;
      history = c.in_ok-count.ensures.came;
      consumed = c.in_ok-count.ensures.read.0;
      taken = omega (arith, c.in_ok-count.ensures.taken, ap length nothing, c.if-count-eq0.true);
      ended = record {
        ended = rw (c.in_ok-count.ensures.ended, c.if-count-eq0.true) refl;
        at_end = c.in_ok-count.ensures.read.1 c.if-count-eq0.true room;
      };
    }

-- a piece more came
brings : (g : Over) (c : After-take_piece g) →
    Brings c.pieces.invariant.bytes
    (run_by g.S.Source g.K.Sink c.pieces.source c.pieces.sink
    c.pieces.desk.view c.pieces.steps)
    (run_by g.S.Source g.K.Sink c.listen.new.self c.take_piece.new.sink c.take_piece.new.desk.view
    c.take_piece.new.steps)
    (take c.in_ok-count.count c.listen.new.buf)
    (take c.min-counted.result (c.listen.new.buf ++ drop c.min-room.result c.pieces.buffer))
brings g c =
    let read = c.pieces.invariant in
    let piece = take c.in_ok-count.count c.listen.new.buf in
    let short : length read.bytes ≤ limit_of Questions = omega (arith, read.count, c.pieces-test.true) in
    let fits : c.pieces.taken + c.in_ok-count.count ≤ limit_of Questions + 1 = search rules in
    record {
      history = c.in_ok-count.ensures.came;
      consumed = c.in_ok-count.ensures.read.0;
      taken = omega (arith, c.in_ok-count.ensures.taken, c.in_ok-count.ensures.within.1);
      few = search rules;
      within = omega (arith, fits, read.count, length-append read.bytes piece, c.in_ok-count.ensures.within.1);
      front = piece_heard read.bytes c.listen.new.buf (drop c.min-room.result c.pieces.buffer) c.in_ok-count.count
          c.min-counted.result short c.in_ok-count.ensures.within.0 (rw (← read.count) c.min-counted.ensures);
    }

pub pieces-init : goal.pieces-init
pieces-init g c =
    let meaning = meaning_by g.A.Answerer c.args.answerer in
    let before = run_by g.S.Source g.K.Sink c.args.source.now c.args.sink.now c.args.desk.now.view c.args.steps.now in
    record {
      bytes = [];
      came = came-nothing before;
      count = refl;
      within = omega arith;
      heard = heard-nothing meaning (moment_of before) c.new-talk.result.line c.new-talk.ensures.line;
      text = c.new-talk.ensures.text;
      listen_faults = refl;
      say_faults = refl;
    }

pub returns-in_err-count-clause-answers : goal.returns-in_err-count-clause-answers
returns-in_err-count-clause-answers g c =
    let gave = err_from_is_err_and c.from_residual.result c.from_residual.ensures.1 in
    rw (gave.1, gave.2)
    (AnswersRun-answered _ _ _ _ (answers-whole (stands g (goal.at.returns-in_err-count-clause-answers g c).After-listen)
    (c.in_err-count.ensures.came ∙ append-nil _) c.in_err-count.ensures.read
    (omega (arith, c.in_err-count.ensures.taken)) refl))

-- of a run that the source cut off the source alone counts a fault
heard-none : {S K : Type 0} (s : OfSource S) (k : OfSink K) (source_before source_here source_now : S)
    (sink_before sink_now : K) → s.faults source_here ≡ s.faults source_before →
    Rose (s.faults source_here) (s.faults source_now) → s.faults source_here ≤ s.faults source_now →
    k.faults sink_now ≡ k.faults sink_before → s.taken source_now ≤ s.taken source_before + (limit_of Questions + 1) →
    CountsRun s k (Err shell.Listen) source_before source_now sink_before sink_now
heard-none s k source_before source_here source_now sink_before sink_now before rose more said within = grind (arith)

pub returns-in_err-count-clause-counts : goal.returns-in_err-count-clause-counts
returns-in_err-count-clause-counts g c =
    let read = c.pieces.invariant in
    let failed = c.in_err-count.ensures in
    let gave = err_from_is_err_and c.from_residual.result c.from_residual.ensures.1 in
    rw (gave.1, gave.2) (heard-none g.S.Source g.K.Sink _ c.pieces.source _ _ _ read.listen_faults failed.cause failed.faults
    read.say_faults (search rules))

pub returns-in_err-take_end-clause-answers : goal.returns-in_err-take_end-clause-answers
returns-in_err-take_end-clause-answers g c =
    let place = goal.at.returns-in_err-take_end-clause-answers g c in
    let gave = err_from_is_err_and c.from_residual-in_err-take_end.result c.from_residual-in_err-take_end.ensures.1 in
    rw (gave.1, gave.2) (cut-end (stands g place.After-listen) (ends g place.After-take_end) c.in_err-take_end.field-0.0
    (λ start came heard. c.in_err-take_end.ensures.told start came (rw c.pieces.invariant.text heard)))

pub returns-in_err-take_end-clause-counts : goal.returns-in_err-take_end-clause-counts
returns-in_err-take_end-clause-counts g c =
    let gave = err_from_is_err_and c.from_residual-in_err-take_end.result c.from_residual-in_err-take_end.ensures.1 in
    rw (gave.1, gave.2) (CountsRun-cut g.S.Source g.K.Sink _ _ _ c.pieces.sink _ c.in_err-take_end.field-0.0
    (c.in_ok-count.ensures.untouched ∙ c.pieces.invariant.listen_faults) c.pieces.invariant.say_faults
    c.in_err-take_end.ensures.faults (search rules))

pub returns-then-count-eq0-clause-answers : goal.returns-then-count-eq0-clause-answers
returns-then-count-eq0-clause-answers g c =
    let place = goal.at.returns-then-count-eq0-clause-answers g c in
    AnswersRun-answered _ _ _ _ (answers-all (stands g place.After-listen) (ends g place.After-take_end)
    (λ start came heard. c.in_ok-take_end.ensures.told start came (rw c.pieces.invariant.text heard)))

pub pieces-preserved : goal.pieces-preserved
unfolding stands
pieces-preserved g c =
    let place = goal.at.pieces-preserved g c in
    let at = place.After-listen in
    let read = c.pieces.invariant in
    let known = stands g at in
    let new = brings g place.After-take_piece in
    let piece = take c.in_ok-count.count c.listen.new.buf in
    record {
      bytes = read.bytes ++ piece;
      came = came-more (before g at) (here g at) _ read.bytes piece read.came new.history new.consumed new.taken;
      count = omega (arith, read.count, length-append read.bytes piece, c.in_ok-count.ensures.within.1);
      within = search rules;
      heard = rw new.front
          (c.in_ok-take_piece.ensures.told (moment_of (before g at)) read.bytes (rw read.text known.heard));
      text = c.in_ok-take_piece.ensures.said;
      listen_faults = c.in_ok-count.ensures.untouched ∙ read.listen_faults;
      say_faults = c.in_ok-take_piece.ensures.faults.untouched (λ same. absurd (cc)) ∙ read.say_faults;
    }

pub returns-in_err-take_piece-clause-answers : goal.returns-in_err-take_piece-clause-answers
unfolding stands
returns-in_err-take_piece-clause-answers g c =
    let place = goal.at.returns-in_err-take_piece-clause-answers g c in
    let gave = err_from_is_err_and c.from_residual-in_err-take_piece.result c.from_residual-in_err-take_piece.ensures.1 in
    rw (gave.1, gave.2) (cut-piece (stands g place.After-listen) (brings g place.After-take_piece) c.take_piece.new.talk.line
    c.in_err-take_piece.field-0.0
    (λ start came heard. c.in_err-take_piece.ensures.told start came (rw c.pieces.invariant.text heard)))

pub returns-in_err-take_piece-clause-counts : goal.returns-in_err-take_piece-clause-counts
returns-in_err-take_piece-clause-counts g c =
    let gave = err_from_is_err_and c.from_residual-in_err-take_piece.result c.from_residual-in_err-take_piece.ensures.1 in
    rw (gave.1, gave.2) (CountsRun-cut g.S.Source g.K.Sink _ _ _ c.pieces.sink _ c.in_err-take_piece.field-0.0
    (c.in_ok-count.ensures.untouched ∙ c.pieces.invariant.listen_faults) c.pieces.invariant.say_faults
    c.in_err-take_piece.ensures.faults (search rules))

pub returns-clause-answers : goal.returns-clause-answers
returns-clause-answers g c =
    let read = c.pieces.invariant in
    let meaning = meaning_by g.A.Answerer c.args.answerer in
    let past : length read.bytes ≡ limit_of Questions + 1 =
    omega (arith, read.count, read.within, c.pieces-test.false) in
    AnswersRun-answered meaning _ _ _
    (omega (arith, read.count, past), answers-first meaning _ _ read.bytes c.pieces.talk.line read.came past read.heard)
