-- From what is told of lines to what a run promises.
use Rattle.std.proofs.Common.{◌≡◌, ℕ, ◌+◌, ◌≤◌, List, [], ◌++◌, length, sym, ap, ◌∙◌, subst, arith, Result, Ok, Err, refl}
use Rattle.std.proofs.Common.{append-nil, inl, inr, take, drop}
use Rattle.std.specs.Io.KnownBytes.{Consumes, Keeps}
use Rattle.host_ports.specs.Counting.{SinkCounts}
use Rattle.host_ports.specs.Histories.{Gains}
use Rattle.host_ports.specs.declared.sink.Sink.{Ghosts as OfSink}
use Rattle.host_ports.specs.declared.source.Source.{Ghosts as OfSource}
use Rattle.std.proofs.lemmas.List.{take-append-drop}
use Rattle.track_types.specs.Limits.{limit_of}
use Rattle.track_types.specs.declared.limit.LimitKind.TheVariants.{Questions}
use Rattle.question_shell.specs.Desk.{held_of}
use Rattle.question_shell.specs.Lines.{input_lines, unended_line, whole_lines}
use Rattle.question_shell.specs.RunEnds.{AnswersRun, CountsRun, fault_of_turn}
use Rattle.question_shell.specs.Session.{AnswersAll, AnswersBefore, AnswersFirst, AnswersFront, AnswersToPiece}
use Rattle.question_shell.specs.Session.{AnswersWhole, AreTaken, Came, HasEnded, Meaning, Run}
use Rattle.question_shell.specs.Turns.{BytesTold, Heard, AnswersLines, Moment, AnswersBytes, Turns, TurnsFront}
use Rattle.question_shell.specs.declared.shell_fault.ShellFault.{ShellFault}
use Rattle.question_shell.specs.declared.shell_fault.ShellFault.TheVariants as shell
use Rattle.question_shell.specs.declared.turn_fault.TurnFault.{TurnFault}
use Rattle.question_shell.specs.declared.turn_fault.TurnFault.TheVariants as fault
use Rattle.question_shell.proofs.SlotLemmas.{slots-independent}
use Rattle.question_shell.proofs.SaysLemmas.{Gains-says}
use Rattle.question_shell.proofs.SessionLemmas.{answers-turns, came-end, came-kept, came-more, heard-again, moment_of, told-more}

module _ (meaning : Meaning) (before now : Run) where
  -- what a run has to have answered, where it ends so
  abbrev Answered : Result (Unit {0}) ShellFault → Type 0
  Answered (Ok done) = AnswersAll meaning before now
  Answered (Err shell.Listen) = AnswersWhole meaning before now
  Answered (Err shell.Say) = AnswersFront meaning before now
  Answered (Err (shell.Limit value)) = (value ≡ limit_of Questions + 1) × AnswersFirst meaning before now
  Answered (Err shell.Memory) = AnswersBefore meaning before now

  pub AnswersRun-answered : (result : Result (Unit {0}) ShellFault) → Answered result → AnswersRun meaning result before now
  AnswersRun-answered result told = grind (arith)

  -- a run that an answer cut off
  AnswersRun-cut : (refused : TurnFault) → (refused ≡ fault.Say → AnswersFront meaning before now) →
      (refused ≡ fault.Memory → AnswersBefore meaning before now) →
      AnswersRun meaning (Err (fault_of_turn refused)) before now
  AnswersRun-cut fault.Say front stopped = AnswersRun-answered (Err shell.Say) (front refl)
  AnswersRun-cut fault.Memory front stopped = AnswersRun-answered (Err shell.Memory) (stopped refl)

-- of a run that an answer cut off the sink alone counts a fault
pub CountsRun-cut : {S K : Type 0} (s : OfSource S) (k : OfSink K) (source_before source_now : S)
    (sink_before sink_here sink_now : K) (refused : TurnFault) → s.faults source_now ≡ s.faults source_before →
    k.faults sink_here ≡ k.faults sink_before →
    SinkCounts k sink_here sink_now (◌≡◌ {A = Result (Unit {0}) TurnFault} (Err refused) (Err fault.Say)) →
    s.taken source_now ≤ s.taken source_before + (limit_of Questions + 1) →
    CountsRun s k (Err (fault_of_turn refused)) source_before source_now sink_before sink_now
CountsRun-cut s k source_before source_now sink_before sink_here sink_now fault.Say heard here counts within = grind (arith)
CountsRun-cut s k source_before source_now sink_before sink_here sink_now fault.Memory heard here counts within = grind (arith)

-- what is told of bytes is told of their whole lines
pub told-whole : (meaning : Meaning) (start now : Moment) (all : List ℕ) (line : List ℕ) (refused : TurnFault) →
    BytesTold meaning start now all line (Err refused) → AnswersLines meaning start now (whole_lines all) (Err refused)
told-whole meaning start now all line fault.Say told = told
told-whole meaning start now all line fault.Memory told = told

-- what was refused at the bytes up to the longest input is refused at all that came
pub refused-first : (meaning : Meaning) (start now : Moment) (first all : List ℕ) (line : List ℕ)
    (refused : TurnFault) →
    take (limit_of Questions) all ≡ first → BytesTold meaning start now first line (Err refused) →
    AnswersLines meaning start now (whole_lines all) (Err refused)
refused-first meaning start now first all line refused is_first told =
    let P : List ℕ → Type 0 = λ input. BytesTold meaning start now input line (Err refused) in
    let whole = ap (λ text. text ++ drop (limit_of Questions) all) (sym is_first)
    ∙ take-append-drop (limit_of Questions) all in
    told-whole meaning start now all line refused (subst P whole
    (told-more meaning start now first (drop (limit_of Questions) all) line line refused told))

-- where the sink failed, a front of the replies was said
front-say : (meaning : Meaning) (start now : Moment) (lines : List (List ℕ)) (refused : TurnFault) →
    AnswersLines meaning start now lines (Err refused) → refused ≡ fault.Say → TurnsFront meaning start now lines
front-say meaning start now lines fault.Say told is = told
front-say meaning start now lines fault.Memory told is = absurd (cc)

-- the sink failed at a piece of the bytes, after all before it was answered
pub last-piece : (meaning : Meaning) (before between now : Run) (bytes front piece : List ℕ) (line : List ℕ)
    (lines : List (List ℕ)) (refused : TurnFault) → bytes ≡ front ++ piece → length piece ≤ 4096 →
    Heard meaning (moment_of before) (moment_of between) front line →
    AnswersLines meaning (moment_of between) (moment_of now) lines (Err refused) → refused ≡ fault.Say →
    AnswersToPiece meaning before now bytes
last-piece meaning before between now bytes front piece line lines refused split short heard told is =
    let turns = front-say meaning (moment_of between) (moment_of now) lines refused told is in
    record {
      heard = front;
      piece = piece;
      split = split;
      short = short;
      spoken = between.said;
      answered = Gains-says before.said between.said _ heard.turns.said;
      rest = turns.said.says.sent;
      said = turns.said.says.said;
    }

module _ (meaning : Meaning) (before now : Run) (bytes : List ℕ) (came : Came before now bytes)
    (within : length bytes ≤ limit_of Questions + 1) (lines : List (List ℕ)) (taken : AreTaken now bytes lines)
    (refused : TurnFault) (told : AnswersLines meaning (moment_of before) (moment_of now) lines (Err refused))
  where
    -- the sink failed
    pub answers-front : refused ≡ fault.Say → AnswersToPiece meaning before now bytes → AnswersFront meaning before now
    answers-front is last =
        let front = front-say meaning (moment_of before) (moment_of now) lines refused told is in
        record {
          bytes = bytes;
          came = came;
          within = within;
          lines = lines;
          taken = taken;
          text = front.said.says.sent;
          unsaid = front.said.unsaid;
          front = front.said.says.split;
          said = front.said.says.said;
          last = last;
          reads = omega (arith, front.reads);
        }

    -- memory was refused
    pub answers-before : refused ≡ fault.Memory → AnswersBefore meaning before now
    answers-before is =
        let P : TurnFault → Type 0 = λ fault. AnswersLines meaning (moment_of before) (moment_of now) lines (Err fault) in
        let stopped = subst P is told in
        record {
          bytes = bytes;
          came = came;
          within = within;
          all = lines;
          taken = taken;
          lines = stopped.lines;
          stops = stopped.stops;
          said = Gains-says before.said now.said _ stopped.said;
          desk = stopped.desk;
          slots = slots-independent meaning (held_of before.desk) stopped.lines;
          reads = stopped.reads;
        }

-- Where a run stands as it listens again: what came was heard, and nothing is held back.
pub record Stands (meaning : Meaning) (before here : Run) (line : List ℕ) : Type 0 where
  pub bytes : List ℕ
  pub came : Came before here bytes
  pub short : length bytes ≤ limit_of Questions
  pub heard : Heard meaning (moment_of before) (moment_of here) bytes line

-- one byte too many came
pub answers-first : (meaning : Meaning) (before now : Run) (bytes : List ℕ) (line : List ℕ) →
    Came before now bytes → length bytes ≡ limit_of Questions + 1 →
    Heard meaning (moment_of before) (moment_of now) (take (limit_of Questions) bytes) line →
    AnswersFirst meaning before now
answers-first meaning before now bytes line came past heard = record {
  bytes = bytes;
  came = came;
  past = past;
  answers = answers-turns meaning before now (whole_lines (take (limit_of Questions) bytes)) heard.turns;
}

-- The end came where a run listened.
pub record Ends (here now : Run) : Type 0 where
  pub piece : List ℕ
  pub nothing : piece ≡ []
  pub history : Gains here.came now.came piece
  pub consumed : Consumes here.rest now.rest piece
  pub taken : now.taken ≡ here.taken + length piece
  pub ended : HasEnded now

-- A piece came after these bytes, of which so much may be answered.
pub record Brings (bytes : List ℕ) (here now : Run) (piece counted : List ℕ) : Type 0 where
  pub history : Gains here.came now.came piece
  pub consumed : Consumes here.rest now.rest piece
  pub taken : now.taken ≡ here.taken + length piece
  pub few : length piece ≤ 4096
  pub within : length (bytes ++ piece) ≤ limit_of Questions + 1
  pub front : take (limit_of Questions) (bytes ++ piece) ≡ bytes ++ counted

module _ {meaning : Meaning} {before here now : Run} {line : List ℕ} (stands : Stands meaning before here line) where
  -- the source failed, and nothing else changed
  pub answers-whole : now.came ≡ here.came → Keeps here.rest now.rest → now.taken ≡ here.taken → moment_of now ≡ moment_of here →
      AnswersWhole meaning before now
  answers-whole silent kept taken same = record {
    bytes = stands.bytes;
    came = came-kept before here now stands.bytes stands.came silent kept taken;
    within = stands.short;
    answers = answers-turns meaning before now (whole_lines stands.bytes)
        (subst (λ (here : Moment). Turns meaning (moment_of before) here (whole_lines stands.bytes)) (sym same)
        stands.heard.turns);
  }

  -- the end came
  module _ (ends : Ends here now) where
    came-here : Came before now stands.bytes
    came-here = came-end before here now stands.bytes ends.piece ends.nothing stands.came ends.history ends.consumed ends.taken

    pub answers-all : ((start : Moment) (came : List ℕ) → Heard meaning start (moment_of here) came line →
        Turns meaning start (moment_of now) (input_lines came)) → AnswersAll meaning before now
    answers-all told = record {
      bytes = stands.bytes;
      came = came-here;
      ended = ends.ended;
      within = stands.short;
      answers = answers-turns meaning before now (input_lines stands.bytes) (told (moment_of before) stands.bytes stands.heard);
    }

    module _ (refused : TurnFault)
        (told : (start : Moment) (came : List ℕ) → Heard meaning start (moment_of here) came line →
        AnswersLines meaning start (moment_of now) (input_lines came) (Err refused))
      where
        front-end : refused ≡ fault.Say → AnswersFront meaning before now
        front-end say =
            let again = heard-again meaning (moment_of before) (moment_of here) stands.bytes line stands.heard in
            let last = last-piece meaning before here now stands.bytes stands.bytes [] line _ refused (sym (append-nil stands.bytes))
            (omega arith) stands.heard (told (moment_of here) (unended_line stands.bytes) again) say in
            answers-front meaning before now stands.bytes came-here (omega (arith, stands.short)) (input_lines stands.bytes)
            (inr (ends.ended, refl)) refused (told (moment_of before) stands.bytes stands.heard) say last

        before-end : refused ≡ fault.Memory → AnswersBefore meaning before now
        before-end memory =
            answers-before meaning before now stands.bytes came-here (omega (arith, stands.short)) (input_lines stands.bytes)
            (inr (ends.ended, refl)) refused (told (moment_of before) stands.bytes stands.heard) memory

        pub cut-end : AnswersRun meaning (Err (fault_of_turn refused)) before now
        cut-end = AnswersRun-cut meaning before now refused front-end before-end

  -- a piece more came, and was answered as far as it may be
  module _ {piece counted : List ℕ} (brings : Brings stands.bytes here now piece counted) (new : List ℕ) (refused : TurnFault)
      (told : AnswersBytes meaning (moment_of here) line counted (moment_of now) new (Err refused))
    where
      came-piece : Came before now (stands.bytes ++ piece)
      came-piece = came-more before here now stands.bytes piece stands.came brings.history brings.consumed brings.taken

      told-piece : AnswersLines meaning (moment_of before) (moment_of now) (whole_lines (stands.bytes ++ piece)) (Err refused)
      told-piece =
          refused-first meaning (moment_of before) (moment_of now) (stands.bytes ++ counted) (stands.bytes ++ piece) new refused
          brings.front (told (moment_of before) stands.bytes stands.heard)

      front-piece : refused ≡ fault.Say → AnswersFront meaning before now
      front-piece say =
          let again = heard-again meaning (moment_of before) (moment_of here) stands.bytes line stands.heard in
          let told_here = told-whole meaning (moment_of here) (moment_of now) _ new refused
          (told (moment_of here) (unended_line stands.bytes) again) in
          let last = last-piece meaning before here now (stands.bytes ++ piece) stands.bytes piece line _ refused refl brings.few
          stands.heard told_here say in
          answers-front meaning before now (stands.bytes ++ piece) came-piece brings.within (whole_lines (stands.bytes ++ piece)) (inl refl)
          refused told-piece say last

      before-piece : refused ≡ fault.Memory → AnswersBefore meaning before now
      before-piece memory =
          answers-before meaning before now (stands.bytes ++ piece) came-piece brings.within (whole_lines (stands.bytes ++ piece))
          (inl refl) refused told-piece memory

      pub cut-piece : AnswersRun meaning (Err (fault_of_turn refused)) before now
      cut-piece = AnswersRun-cut meaning before now refused front-piece before-piece
