-- Bytes that come, and the lines that they are.
use Rattle.std.proofs.Common.{◌≡◌, ℕ, ◌+◌, ◌≤◌, ◌-◌, List, [], ◌∷◌, ◌++◌, length, refl, sym}
use Rattle.std.proofs.Common.{ap, ◌∙◌, subst, append_assoc}
use Rattle.std.proofs.Common.{append-nil, length-append, arith, ◌⊎◌, Option, Some, None, Result, Ok, Err, take}
use Rattle.std.proofs.Common.{min, take_all, take-take, inl, inr}
use mathlib.Core.Bool.{false≢true}
use Rattle.std.proofs.lemmas.Bool.{cases_lt}
use Rattle.std.proofs.lemmas.List.{take-append-le, length-take}
use Rattle.std.proofs.Math.Seq.{take-append-add}
use Rattle.std.specs.Io.KnownBytes.{Consumes, Keeps}
use Rattle.host_ports.specs.Histories.{Gains}
use Rattle.host_ports.specs.Faults.{Rose}
use Rattle.track_types.specs.Limits.{limit_of}
use Rattle.track_types.specs.declared.limit.LimitKind.TheVariants.{Questions}
use Rattle.question_shell.specs.Desk.{held_of}
use Rattle.question_shell.specs.Grammar.{question_of}
use Rattle.question_shell.specs.LineKept.{kept_of}
use Rattle.question_shell.specs.Lines.{if_any, is_line_feed, input_lines, unended_line, whole_lines}
use Rattle.question_shell.specs.Says.{Cuts, voice}
use Rattle.question_shell.specs.Session.{Answers, Came, Meaning, Run, replies_by}
use Rattle.question_shell.specs.Turns.{AnswerTold, BytesTold, Heard, AnswersLines, Moment, Flushes, Turns}
use Rattle.question_shell.specs.Turns.{TurnsBefore, TurnsFront, moment}
use Rattle.question_shell.specs.declared.turn_fault.TurnFault.{TurnFault}
use Rattle.question_shell.specs.declared.turn_fault.TurnFault.TheVariants as fault
use Rattle.question_shell.proofs.LineLemmas.{IsPiece, Pieces, piece-left, separated, separated-append, separated-bytes}
use Rattle.question_shell.proofs.LineLemmas.{separated-end, separated-unended}
use Rattle.question_shell.proofs.LineLemmas.{unended_line-is, whole_lines-is}
use Rattle.question_shell.proofs.SaysLemmas.{Gains-append, Gains-says}
use Rattle.question_shell.proofs.SlotLemmas.{slots-independent}
use Rattle.question_shell.proofs.TurnLemmas.{before-cut, before-more, before-say, front-append, front-more}
use Rattle.question_shell.proofs.TurnLemmas.{front-one, stops-here, turns-append, turns-cut, turns-nothing}
use Rattle.question_shell.proofs.TurnLemmas.{turns-one, turns-say}

-- bytes taken after others
pub Consumes-append : (before between now : Option (List ℕ)) (first second : List ℕ) →
    Consumes before between first → Consumes between now second → Consumes before now (first ++ second)
Consumes-append None between now first second one two = tt
Consumes-append (Some said) None now first second one two = absurd one
Consumes-append (Some said) (Some more) None first second one two = absurd two
Consumes-append (Some said) (Some more) (Some all) first second one two =
    one ∙ (ap (λ text. first ++ text) two ∙ sym (append_assoc first second all))

-- the whole lines of a text, and of what comes after it
pub whole_lines-append : (front back : List ℕ) →
    whole_lines (front ++ back) ≡ whole_lines front ++ whole_lines (unended_line front ++ back)
whole_lines-append front back =
    rw (
      whole_lines-is (front ++ back),
      whole_lines-is front,
      whole_lines-is (unended_line front ++ back),
      unended_line-is front,
    )
    (ap (λ (pieces : Pieces). pieces.ended) (separated-append is_line_feed front back))

-- what follows the last line feed has no whole line
pub whole_lines-unended : (came : List ℕ) → whole_lines (unended_line came) ≡ []
whole_lines-unended came =
    rw (whole_lines-is (unended_line came), unended_line-is came)
    (ap (λ (pieces : Pieces). pieces.ended)
    (separated-unended is_line_feed (separated is_line_feed came).left (piece-left is_line_feed came)))

pub unended_line-unended : (came : List ℕ) → unended_line (unended_line came) ≡ unended_line came
unended_line-unended came =
    rw (unended_line-is (unended_line came), unended_line-is came)
    (ap (λ (pieces : Pieces). pieces.left)
    (separated-unended is_line_feed (separated is_line_feed came).left (piece-left is_line_feed came)))

-- a line feed ends the line that was coming
pub whole_lines-feed : (came : List ℕ) → whole_lines (came ++ 10 ∷ []) ≡ whole_lines came ++ unended_line came ∷ []
whole_lines-feed came =
    rw (whole_lines-is (came ++ 10 ∷ []), whole_lines-is came, unended_line-is came)
    (ap (λ (pieces : Pieces). pieces.ended) (separated-end is_line_feed came 10 refl))

pub unended_line-feed : (came : List ℕ) → unended_line (came ++ 10 ∷ []) ≡ []
unended_line-feed came =
    unended_line-is (came ++ 10 ∷ []) ∙ ap (λ (pieces : Pieces). pieces.left) (separated-end is_line_feed came 10 refl)

-- bytes without a line feed belong to it
pub whole_lines-bytes : (came bytes : List ℕ) → IsPiece is_line_feed bytes → whole_lines (came ++ bytes) ≡ whole_lines came
whole_lines-bytes came bytes inside =
    rw (whole_lines-is (came ++ bytes), whole_lines-is came)
    (ap (λ (pieces : Pieces). pieces.ended) (separated-bytes is_line_feed came bytes inside))

pub unended_line-bytes : (came bytes : List ℕ) → IsPiece is_line_feed bytes →
    unended_line (came ++ bytes) ≡ unended_line came ++ bytes
unended_line-bytes came bytes inside =
    rw (unended_line-is (came ++ bytes), unended_line-is came)
    (ap (λ (pieces : Pieces). pieces.left) (separated-bytes is_line_feed came bytes inside))

-- nothing came
pub heard-nothing : (meaning : Meaning) (here : Moment) (line : List ℕ) → line ≡ kept_of [] →
    Heard meaning here here [] line
unfolding whole_lines unended_line
heard-nothing meaning here line kept = record { turns = turns-nothing meaning here; kept = kept }

-- the line that is coming is heard from here on
pub heard-again : (meaning : Meaning) (start here : Moment) (came : List ℕ) (line : List ℕ) →
    Heard meaning start here came line → Heard meaning here here (unended_line came) line
heard-again meaning start here came line heard = record {
  turns = rw (whole_lines-unended came) (turns-nothing meaning here);
  kept = heard.kept ∙ ap kept_of (sym (unended_line-unended came));
}

module _ (meaning : Meaning) (start : Moment) where
  -- bytes without a line feed
  pub heard-bytes : (now : Moment) (came bytes : List ℕ) (line new : List ℕ) → IsPiece is_line_feed bytes →
      new ≡ kept_of (unended_line came ++ bytes) → Heard meaning start now came line →
      Heard meaning start now (came ++ bytes) new
  heard-bytes now came bytes line new inside extended heard = record {
    turns = rw (whole_lines-bytes came bytes inside) heard.turns;
    kept = extended ∙ ap kept_of (sym (unended_line-bytes came bytes inside));
  }

  -- a line feed, and what is told of the answer to the line that it ends
  pub told-feed : (between now : Moment) (came : List ℕ) (line new : List ℕ) (result : Result Unit TurnFault) →
      AnswerTold meaning between now (question_of (unended_line came)) result → new ≡ kept_of [] →
      Heard meaning start between came line → BytesTold meaning start now (came ++ 10 ∷ []) new result
  told-feed between now came line new (Ok done) told cleared heard =
      let last = unended_line came in
      record {
        turns = rw (whole_lines-feed came)
            (turns-append meaning start between now (whole_lines came) (last ∷ []) heard.turns
            (turns-one meaning between now last told));
        kept = cleared ∙ ap kept_of (sym (unended_line-feed came));
      }
  told-feed between now came line new (Err fault.Say) told cleared heard =
      let last = unended_line came in
      rw (whole_lines-feed came)
      (front-append meaning start between now (whole_lines came) (last ∷ []) heard.turns
      (front-one meaning between now last told))
  told-feed between now came line new (Err fault.Memory) told cleared heard =
      let last = unended_line came in
      rw (whole_lines-feed came) (stops-here meaning start between now (whole_lines came) last heard.turns told)

  -- the rest of a line, its line feed, and what is told of the answer to it
  pub told-line : (between now : Moment) (came front bytes : List ℕ) (line new : List ℕ)
      (result : Result Unit TurnFault) → IsPiece is_line_feed bytes →
      AnswerTold meaning between now (question_of (unended_line (came ++ front) ++ bytes)) result →
      new ≡ kept_of [] → Heard meaning start between (came ++ front) line →
      BytesTold meaning start now (came ++ (front ++ (bytes ++ 10 ∷ []))) new result
  told-line between now came front bytes line new result inside told cleared heard =
      let all = came ++ front in
      let kept = kept_of (unended_line all ++ bytes) in
      let P : List ℕ → Type 0 = λ last. AnswerTold meaning between now (question_of last) result in
      let Q : List ℕ → Type 0 = λ input. BytesTold meaning start now input new result in
      subst Q (append_assoc all bytes (10 ∷ []) ∙ append_assoc came front (bytes ++ 10 ∷ []))
      (told-feed between now (all ++ bytes) kept new result (subst P (sym (unended_line-bytes all bytes inside)) told)
      cleared (heard-bytes between all bytes line kept inside refl heard))

  -- what is told of some bytes after a refusal is told of more
  pub front-bytes : (now : Moment) (came more : List ℕ) → TurnsFront meaning start now (whole_lines came) →
      TurnsFront meaning start now (whole_lines (came ++ more))
  front-bytes now came more front =
      rw (whole_lines-append came more)
      (front-more meaning start now (whole_lines came) (whole_lines (unended_line came ++ more)) front)

  pub before-bytes : (now : Moment) (came more : List ℕ) → TurnsBefore meaning start now (whole_lines came) →
      TurnsBefore meaning start now (whole_lines (came ++ more))
  before-bytes now came more stopped =
      rw (whole_lines-append came more)
      (before-more meaning start now (whole_lines came) (whole_lines (unended_line came ++ more)) stopped)

  -- a last line that no line feed ends, and what is told of its answer; where it has no byte, it asks nothing
  pub told-end : (between now : Moment) (came : List ℕ) (line : List ℕ) (result : Result Unit TurnFault) →
      AnswerTold meaning between now (question_of (unended_line came)) result →
      Heard meaning start between came line → AnswersLines meaning start now (input_lines came) result
  told-end between now came line result told heard = by_line (unended_line came) result told
    where
      by_line : (last : List ℕ) (result : Result Unit TurnFault) →
          AnswerTold meaning between now (question_of last) result →
          AnswersLines meaning start now (whole_lines came ++ if_any last) result
      by_line [] (Ok done) told =
          rw (append-nil (whole_lines came))
          (turns-say meaning start between now (whole_lines came) heard.turns told.said told.desk
          (omega (arith, told.reads)))
      by_line [] (Err fault.Say) told =
          rw (append-nil (whole_lines came))
          (turns-cut meaning start between now (whole_lines came) heard.turns told.said (omega (arith, told.reads)))
      by_line [] (Err fault.Memory) told = absurd (false≢true told.takes)
      by_line (byte ∷ last) (Ok done) told =
          turns-append meaning start between now (whole_lines came) ((byte ∷ last) ∷ []) heard.turns
          (turns-one meaning between now (byte ∷ last) told)
      by_line (byte ∷ last) (Err fault.Say) told =
          front-append meaning start between now (whole_lines came) ((byte ∷ last) ∷ []) heard.turns
          (front-one meaning between now (byte ∷ last) told)
      by_line (byte ∷ last) (Err fault.Memory) told =
          stops-here meaning start between now (whole_lines came) (byte ∷ last) heard.turns told

  -- what is told of lines, after what was held back was said too
  pub rest-lines : (between : Moment) (now : List ℕ) (lines : List (List ℕ))
      (answered result : Result Unit TurnFault) →
      AnswersLines meaning start between lines answered → Flushes between.voice now answered result →
      AnswersLines meaning start (record between { voice = voice now [] }) lines result
  rest-lines between now lines (Ok done) (Ok still) told rest =
      turns-say meaning start between (record between { voice = voice now [] }) lines told rest refl (omega arith)
  rest-lines between now lines (Ok done) (Err fault.Say) told rest =
      turns-cut meaning start between (record between { voice = voice now [] }) lines told rest (omega arith)
  rest-lines between now lines (Ok done) (Err fault.Memory) told rest = absurd rest
  rest-lines between now lines (Err fault.Say) (Ok still) told rest = absurd rest
  rest-lines between now lines (Err fault.Say) (Err fault.Say) told rest =
      let P : List ℕ → Type 0 = λ said. Cuts start.voice said (replies_by meaning start.desk lines) in
      record { said = subst P (sym rest) told.said; reads = told.reads }
  rest-lines between now lines (Err fault.Say) (Err fault.Memory) told rest = absurd rest
  rest-lines between now lines (Err fault.Memory) (Ok still) told rest = absurd rest
  rest-lines between now lines (Err fault.Memory) (Err fault.Say) told rest =
      before-cut meaning start between (record between { voice = voice now [] }) lines told rest (omega arith)
  rest-lines between now lines (Err fault.Memory) (Err fault.Memory) told rest =
      before-say meaning start between (record between { voice = voice now [] }) lines told rest refl (omega arith)

  pub rest-bytes : (between : Moment) (now : List ℕ) (came : List ℕ) (line : List ℕ)
      (answered result : Result Unit TurnFault) → BytesTold meaning start between came line answered →
      Flushes between.voice now answered result →
      BytesTold meaning start (record between { voice = voice now [] }) came line result
  rest-bytes between now came line (Ok done) (Ok still) told rest = record {
    turns = rest-lines between now (whole_lines came) (Ok done) (Ok still) told.turns rest;
    kept = told.kept;
  }
  rest-bytes between now came line (Ok done) (Err fault.Say) told rest =
      rest-lines between now (whole_lines came) (Ok done) (Err fault.Say) told.turns rest
  rest-bytes between now came line (Ok done) (Err fault.Memory) told rest = absurd rest
  rest-bytes between now came line (Err fault.Say) (Ok still) told rest = absurd rest
  rest-bytes between now came line (Err fault.Say) (Err fault.Say) told rest =
      rest-lines between now (whole_lines came) (Err fault.Say) (Err fault.Say) told rest
  rest-bytes between now came line (Err fault.Say) (Err fault.Memory) told rest = absurd rest
  rest-bytes between now came line (Err fault.Memory) (Ok still) told rest = absurd rest
  rest-bytes between now came line (Err fault.Memory) (Err fault.Say) told rest =
      rest-lines between now (whole_lines came) (Err fault.Memory) (Err fault.Say) told rest
  rest-bytes between now came line (Err fault.Memory) (Err fault.Memory) told rest =
      rest-lines between now (whole_lines came) (Err fault.Memory) (Err fault.Memory) told rest

  -- what was refused at some bytes is refused at more
  pub told-more : (now : Moment) (came more : List ℕ) (line other : List ℕ) (refused : TurnFault) →
      BytesTold meaning start now came line (Err refused) →
      BytesTold meaning start now (came ++ more) other (Err refused)
  told-more now came more line other fault.Say told = front-bytes now came more told
  told-more now came more line other fault.Memory told = before-bytes now came more told

-- a count that rose later rose
pub rose-later : (before between now : ℕ) → before ≤ between → Rose between now → Rose before now
rose-later before between now up (inl rose) = inl (omega arith)
rose-later before between now up (inr most) = inr most

-- the causes of two calls, one after the other
pub rose-after : (before between now : ℕ) (P : Type 0) → before ≤ between → (P → Rose before between) →
    (P × (now ≡ between)) ⊎ Rose between now → Rose before now
rose-after before between now P up first (inl (failed, same)) = rw same (first failed)
rose-after before between now P up first (inr rose) = rose-later before between now up rose

-- the moment of a run at which nothing is held back
abbrev pub moment_of : Run → Moment
moment_of here = moment here.said [] here.desk here.steps

-- lines that were answered with nothing held back
pub answers-turns : (meaning : Meaning) (before now : Run) (lines : List (List ℕ)) →
    Turns meaning (moment_of before) (moment_of now) lines → Answers meaning before now lines
answers-turns meaning before now lines turns =
    record {
      said = Gains-says before.said now.said _ turns.said;
      desk = turns.desk;
      slots = slots-independent meaning (held_of before.desk) lines;
      reads = turns.reads;
    }

-- at first nothing came
pub came-nothing : (before : Run) → Came before before []
came-nothing before = record {
  history = sym (append-nil before.came);
  consumed = consumes_nothing before.rest;
  counted = omega arith;
}
  where
    consumes_nothing : (rest : Option (List ℕ)) → Consumes rest rest []
    consumes_nothing None = tt
    consumes_nothing (Some bytes) = refl

-- a piece more came
pub came-more : (before between now : Run) (bytes piece : List ℕ) → Came before between bytes →
    Gains between.came now.came piece → Consumes between.rest now.rest piece →
    now.taken ≡ between.taken + length piece → Came before now (bytes ++ piece)
came-more before between now bytes piece came history consumed counted = record {
  history = Gains-append before.came between.came now.came bytes piece came.history history;
  consumed = Consumes-append before.rest between.rest now.rest bytes piece came.consumed consumed;
  counted = omega (arith, came.counted, length-append bytes piece);
}

-- the end came
pub came-end : (before between now : Run) (bytes piece : List ℕ) → piece ≡ [] → Came before between bytes →
    Gains between.came now.came piece → Consumes between.rest now.rest piece →
    now.taken ≡ between.taken + length piece → Came before now bytes
came-end before between now bytes piece empty came history consumed counted =
    let P : List ℕ → Type 0 = λ all. Came before now all in
    subst P (append-nil bytes) (came-more before between now bytes [] came
    (subst (λ (text : List ℕ). Gains between.came now.came text) empty history)
    (subst (λ (text : List ℕ). Consumes between.rest now.rest text) empty consumed)
    (subst (λ (text : List ℕ). now.taken ≡ between.taken + length text) empty counted))

-- nothing more came
pub came-kept : (before between now : Run) (bytes : List ℕ) → Came before between bytes →
    now.came ≡ between.came → Keeps between.rest now.rest → now.taken ≡ between.taken → Came before now bytes
came-kept before between now bytes came same kept counted = record {
  history = same ∙ came.history;
  consumed = consumes_kept before.rest between.rest now.rest came.consumed kept;
  counted = counted ∙ came.counted;
}
  where
    consumes_kept : (first second third : Option (List ℕ)) → Consumes first second bytes → Keeps second third →
        Consumes first third bytes
    consumes_kept None second third consumed kept = tt
    consumes_kept (Some xs) None third consumed kept = absurd consumed
    consumes_kept (Some xs) (Some ys) None consumed kept = absurd kept
    consumes_kept (Some xs) (Some ys) (Some zs) consumed kept = consumed ∙ ap (λ rest. bytes ++ rest) (sym kept)

-- as long as the input is not too long, all of it is heard
pub heard-all : (meaning : Meaning) (start now : Moment) (bytes : List ℕ) (line : List ℕ) →
    length bytes ≤ limit_of Questions →
    Heard meaning start now (take (limit_of Questions) bytes) line → Heard meaning start now bytes line
heard-all meaning start now bytes line within heard =
    let P : List ℕ → Type 0 = λ input. Heard meaning start now input line in
    subst P (take_all (limit_of Questions) bytes within) heard

-- what is left of a piece after one more of its lines
pub piece_after : (piece front left line after : List ℕ) → piece ≡ front ++ left → left ≡ line ++ 10 ∷ after →
    piece ≡ (front ++ (line ++ 10 ∷ [])) ++ after
piece_after piece front left line after whole cut =
    whole ∙ (ap (λ rest. front ++ rest) (cut ∙ sym (append_assoc line (10 ∷ []) after))
    ∙ sym (append_assoc front (line ++ 10 ∷ []) after))

take_least : (n m : ℕ) (xs : List ℕ) (least : ℕ) → least ≡ min m n → take n (take m xs) ≡ take least xs
take_least n m xs least is_least = elim (cases_lt m n) [
  | inl below ↦
      let short : length (take m xs) ≤ n = omega (arith, length-take m xs) in
      let same : m ≡ least = omega arith in
      take_all n (take m xs) short ∙ ap (λ k. take k xs) same
  | inr at_least ↦
      let same : n ≡ least = omega arith in
      take-take n m xs at_least ∙ ap (λ k. take k xs) same
]

-- of a piece that came, what is heard: all up to the longest input
pub piece_heard : (bytes buffer behind : List ℕ) (count counted : ℕ) → length bytes ≤ limit_of Questions →
    count ≤ length buffer →
    counted ≡ min count (limit_of Questions - length bytes) →
    take (limit_of Questions) (bytes ++ take count buffer) ≡ bytes ++ take counted (buffer ++ behind)
piece_heard bytes buffer behind count counted short within least =
    let rest = limit_of Questions - length bytes in
    let whole : length bytes + rest ≡ limit_of Questions = omega arith in
    let P : ℕ → Type 0 = λ n. take n (bytes ++ take count buffer) ≡ bytes ++ take rest (take count buffer) in
    let front = subst P whole (take-append-add bytes (take count buffer) rest) in
    let fits : counted ≤ length buffer = omega arith in
    let same = take_least rest count buffer counted least ∙ sym (take-append-le counted buffer behind fits) in
    front ∙ ap (λ text. bytes ++ text) same
