-- Answering one line after another.
use Rattle.std.proofs.Common.{◌≡◌, ℕ, ◌+◌, ◌≤◌, List, [], ◌∷◌, ◌++◌, refl, sym, ap, ◌∙◌, append_assoc}
use Rattle.std.proofs.Common.{append-nil, Option, Result, Ok, Err, arith, subst, true}
use Rattle.track_types.specs.Chart.{ChartView}
use Rattle.track_types.specs.declared.facts.Facts.{Facts}
use Rattle.track_types.specs.declared.question.Question.{Question}
use Rattle.track_types.specs.declared.stop.Stop.{Stop}
use Rattle.question_shell.specs.Desk.{DeskView}
use Rattle.question_shell.specs.Grammar.{question_of}
use Rattle.question_shell.specs.Replies.{costs_of, desk_after, replies_of, turn_of}
use Rattle.question_shell.specs.Reply.{asked_cost}
use Rattle.question_shell.specs.Says.{Cuts, Says, Voice, voice}
use Rattle.question_shell.specs.Session.{Meaning, costs_by, desk_by, replies_by, takes_memory}
use Rattle.question_shell.specs.Turns.{AnswerTold, LineTold, Moment, Refused, Takes, TakesFront, Turns}
use Rattle.question_shell.specs.Turns.{TurnsBefore, TurnsFront, moment, turn_by}
use Rattle.question_shell.specs.declared.bad.Bad.{Bad}
use Rattle.question_shell.specs.declared.turn_fault.TurnFault.{TurnFault}
use Rattle.question_shell.specs.declared.turn_fault.TurnFault.TheVariants as fault
use Rattle.question_shell.proofs.SaysLemmas.{cuts-append, cuts-more, says-append, says-nothing}

-- the desk after some lines and then others
pub desk_after-append : (chart : ChartView) (facts : Facts) (desk : List (Option (List Stop)))
    (first second : List (List ℕ)) →
    desk_after chart facts desk (first ++ second) ≡ desk_after chart facts (desk_after chart facts desk first) second
unfolding desk_after
desk_after-append chart facts desk [] second = refl
desk_after-append chart facts desk (line ∷ first) second =
    desk_after-append chart facts (turn_of chart facts desk line).desk first second

-- the replies to some lines and then others
pub replies_of-append : (chart : ChartView) (facts : Facts) (desk : List (Option (List Stop)))
    (first second : List (List ℕ)) →
    replies_of chart facts desk (first ++ second)
    ≡ replies_of chart facts desk first ++ replies_of chart facts (desk_after chart facts desk first) second
unfolding replies_of desk_after
replies_of-append chart facts desk [] second = refl
replies_of-append chart facts desk (line ∷ first) second =
    let turn = turn_of chart facts desk line in
    ap (λ text. turn.text ++ text) (replies_of-append chart facts turn.desk first second)
    ∙ sym (append_assoc turn.text (replies_of chart facts turn.desk first) _)

-- what some lines and then others cost
pub costs_of-append : (cost : Question → ℕ) (chart : ChartView) (facts : Facts) (desk : List (Option (List Stop)))
    (first second : List (List ℕ)) →
    costs_of cost chart facts desk (first ++ second)
    ≡ costs_of cost chart facts desk first + costs_of cost chart facts (desk_after chart facts desk first) second
unfolding costs_of desk_after
costs_of-append cost chart facts desk [] second = omega arith
costs_of-append cost chart facts desk (line ∷ first) second =
    omega (arith, costs_of-append cost chart facts (turn_of chart facts desk line).desk first second)

module _ (meaning : Meaning) (before : Moment) where
  -- no line
  pub turns-nothing : Turns meaning before before []
  unfolding replies_of desk_after costs_of
  turns-nothing = record { said = says-nothing before.voice; desk = refl; reads = omega arith }

  -- one line
  pub turns-one : (now : Moment) (line : List ℕ) → Takes meaning before now (question_of line) →
      Turns meaning before now (line ∷ [])
  unfolding replies_of desk_after costs_of
  turns-one now line takes =
      let P : List ℕ → Type 0 = λ text. Says before.voice now.voice text in
      record {
        said = subst P (sym (append-nil (turn_by meaning before (question_of line)).text)) takes.said;
        desk = takes.desk;
        reads = omega (arith, takes.reads);
      }

  pub front-one : (now : Moment) (line : List ℕ) → TakesFront meaning before now (question_of line) →
      TurnsFront meaning before now (line ∷ [])
  unfolding replies_of costs_of
  front-one now line takes =
      let P : List ℕ → Type 0 = λ text. Cuts before.voice now.voice.said text in
      record {
        said = subst P (sym (append-nil (turn_by meaning before (question_of line)).text)) takes.said;
        reads = omega (arith, takes.reads);
      }

  module _ (between now : Moment) (first second : List (List ℕ)) (turns : Turns meaning before between first) where
    -- lines after others
    pub turns-append : Turns meaning between now second → Turns meaning before now (first ++ second)
    turns-append more =
        let next = subst (λ (desk : List (Option (List Stop))).
        Says between.voice now.voice (replies_by meaning desk second))
        turns.desk more.said in
        let said = says-append before.voice between.voice now.voice _ _ turns.said next in
        let desk = more.desk ∙ (ap (λ desk. desk_by meaning desk second) turns.desk
        ∙ sym (desk_after-append meaning.chart meaning.facts before.desk first second)) in
        let costs : costs_by meaning between.desk second
        ≡ costs_by meaning (desk_by meaning before.desk first) second =
        ap (λ desk. costs_by meaning desk second) turns.desk in
        record {
          said = rw (replies_of-append meaning.chart meaning.facts before.desk first second) said;
          desk = desk;
          reads = omega (
            arith,
            turns.reads,
            more.reads,
            costs,
            costs_of-append meaning.cost meaning.chart meaning.facts before.desk first second,
          );
        }

    -- a front of the replies to lines after others
    pub front-append : TurnsFront meaning between now second → TurnsFront meaning before now (first ++ second)
    front-append more =
        let next = subst (λ (desk : List (Option (List Stop))).
        Cuts between.voice now.voice.said (replies_by meaning desk second))
        turns.desk more.said in
        let said = cuts-append before.voice between.voice now.voice.said _ _ turns.said next in
        let costs : costs_by meaning between.desk second
        ≡ costs_by meaning (desk_by meaning before.desk first) second =
        ap (λ desk. costs_by meaning desk second) turns.desk in
        record {
          said = rw (replies_of-append meaning.chart meaning.facts before.desk first second) said;
          reads = omega (
            arith,
            turns.reads,
            more.reads,
            costs,
            costs_of-append meaning.cost meaning.chart meaning.facts before.desk first second,
          );
        }

  -- the front of the replies to some lines is one of the replies to more
  pub front-more : (now : Moment) (lines more : List (List ℕ)) → TurnsFront meaning before now lines →
      TurnsFront meaning before now (lines ++ more)
  front-more now lines more front = record {
    said = rw (replies_of-append meaning.chart meaning.facts before.desk lines more)
        (cuts-more before.voice now.voice.said _ _ front.said);
    reads = omega (
      arith,
      front.reads,
      costs_of-append meaning.cost meaning.chart meaning.facts before.desk lines more,
    );
  }

  -- a line that takes memory is among more lines too
  pub before-more : (now : Moment) (all more : List (List ℕ)) → TurnsBefore meaning before now all →
      TurnsBefore meaning before now (all ++ more)
  before-more now all more stopped = record {
    lines = stopped.lines;
    stops = record {
      line = stopped.stops.line;
      behind = stopped.stops.behind ++ more;
      split = ap (λ lines. lines ++ more) stopped.stops.split
          ∙ append_assoc stopped.lines (stopped.stops.line ∷ stopped.stops.behind) more;
      takes = stopped.stops.takes;
    };
    said = stopped.said;
    desk = stopped.desk;
    reads = stopped.reads;
  }

  -- what was held back is said
  pub turns-say : (between now : Moment) (lines : List (List ℕ)) → Turns meaning before between lines →
      Says between.voice now.voice [] → now.desk ≡ between.desk → now.due ≤ between.due →
      Turns meaning before now lines
  turns-say between now lines turns says desk due =
      let P : List ℕ → Type 0 = λ text. Says before.voice now.voice text in
      let text = replies_by meaning before.desk lines in
      record {
        said = subst P (append-nil text) (says-append before.voice between.voice now.voice text [] turns.said says);
        desk = desk ∙ turns.desk;
        reads = omega (arith, turns.reads, due);
      }

  -- a front of it is said
  pub turns-cut : (between now : Moment) (lines : List (List ℕ)) → Turns meaning before between lines →
      Cuts between.voice now.voice.said [] → now.due ≤ between.due → TurnsFront meaning before now lines
  turns-cut between now lines turns cuts due =
      let P : List ℕ → Type 0 = λ text. Cuts before.voice now.voice.said text in
      let text = replies_by meaning before.desk lines in
      record {
        said = subst P (append-nil text)
            (cuts-append before.voice between.voice now.voice.said text [] turns.said cuts);
        reads = omega (arith, turns.reads, due);
      }

  -- the lines before one that takes memory, without their reads
  front_of : (between : Moment) (all : List (List ℕ)) → (stopped : TurnsBefore meaning before between all) →
      Turns meaning before (record between { due = 0 }) stopped.lines
  front_of between all stopped = record { said = stopped.said; desk = stopped.desk; reads = omega arith }

  pub before-say : (between now : Moment) (all : List (List ℕ)) → TurnsBefore meaning before between all →
      Says between.voice now.voice [] → now.desk ≡ between.desk → now.due ≤ between.due →
      TurnsBefore meaning before now all
  before-say between now all stopped says desk due =
      let turns = turns-say (record between { due = 0 }) (record now { due = 0 }) stopped.lines (front_of between all stopped)
      says desk (omega arith) in
      record {
        lines = stopped.lines;
        stops = stopped.stops;
        said = turns.said;
        desk = turns.desk;
        reads = omega (arith, stopped.reads, due);
      }

  pub before-cut : (between now : Moment) (all : List (List ℕ)) → TurnsBefore meaning before between all →
      Cuts between.voice now.voice.said [] → now.due ≤ between.due → TurnsFront meaning before now all
  before-cut between now all stopped cuts due =
      let first = turns-cut (record between { due = 0 }) (record now { due = 0 }) stopped.lines
      (front_of between all stopped) cuts (omega arith) in
      let lines = stopped.lines ++ stopped.stops.line ∷ [] in
      let more = front-more (record now { due = 0 }) stopped.lines (stopped.stops.line ∷ []) first in
      let front : TurnsFront meaning before now lines =
      record { said = more.said; reads = omega (arith, stopped.reads, due) } in
      let P : List (List ℕ) → Type 0 = λ lines. TurnsFront meaning before now lines in
      subst P (append_assoc stopped.lines (stopped.stops.line ∷ []) stopped.stops.behind ∙ sym stopped.stops.split)
      (front-more now lines stopped.stops.behind front)

  -- memory was refused to a line, after lines that were answered
  pub stops-here : (between now : Moment) (lines : List (List ℕ)) (line : List ℕ) →
      Turns meaning before between lines → Refused meaning between now (question_of line) →
      TurnsBefore meaning before now (lines ++ line ∷ [])
  unfolding costs_of
  stops-here between now lines line turns refused = record {
    lines = lines;
    stops = record {
      line = line;
      behind = [];
      split = refl;
      takes = subst (λ (desk : List (Option (List Stop))). takes_memory desk (question_of line) ≡ true) turns.desk
          refused.takes;
    };
    said = rw refused.voice turns.said;
    desk = refused.desk ∙ turns.desk;
    reads = omega (
      arith,
      turns.reads,
      refused.reads,
      ap (λ desk. asked_cost meaning.cost desk (question_of line)) turns.desk,
      costs_of-append meaning.cost meaning.chart meaning.facts before.desk lines (line ∷ []),
    );
  }

  -- what is told of a reply of one line is told of the answer to a question that it answers
  pub told-line : (now : Moment) (asked : Result (Option Question) Bad) (text : List ℕ)
      (result : Result Unit TurnFault) → turn_by meaning before asked ≡ record { text = text; desk = now.desk } →
      now.due ≤ before.due + asked_cost meaning.cost before.desk asked →
      LineTold before.voice now.voice text result → AnswerTold meaning before now asked result
  told-line now asked text (Ok done) turn reads told = record { said = rw turn told; desk = rw turn refl; reads = reads }
  told-line now asked text (Err fault.Say) turn reads told = record { said = rw turn told; reads = reads }
  told-line now asked text (Err fault.Memory) turn reads told = absurd told

-- an answer to a question alone, of which what is held back is said too
module _ (meaning : Meaning) (said0 said : List ℕ) (text : List ℕ) (desk0 desk : DeskView) (steps0 steps : ℕ)
    (asked : Result (Option Question) Bad)
  where
    abbrev first : Moment
    first = moment said0 [] desk0 steps0

    pub alone-err : (refused : TurnFault) → AnswerTold meaning first (moment said text desk steps) asked (Err refused) →
        AnswerTold meaning first (moment said [] desk steps) asked (Err refused)
    alone-err fault.Say told = record { said = told.said; reads = told.reads }
    alone-err fault.Memory told = record {
      takes = told.takes;
      voice = ap (λ (here : Voice). voice here.said []) told.voice;
      desk = told.desk;
      reads = told.reads;
    }

    pub alone-said : (now : List ℕ) → Takes meaning first (moment said text desk steps) asked →
        Says (voice said text) (voice now []) [] → Takes meaning first (moment now [] desk steps) asked
    alone-said now takes says = record {
      said = subst (λ (all : List ℕ). Says (voice said0 []) (voice now []) all)
          (append-nil (turn_by meaning first asked).text)
          (says-append (voice said0 []) (voice said text) (voice now []) _ [] takes.said says);
      desk = takes.desk;
      reads = takes.reads;
    }

    pub alone-cut : (now : List ℕ) → Takes meaning first (moment said text desk steps) asked →
        Cuts (voice said text) now [] → TakesFront meaning first (moment now [] desk steps) asked
    alone-cut now takes cuts = record {
      said = subst (λ (all : List ℕ). Cuts (voice said0 []) now all)
          (append-nil (turn_by meaning first asked).text)
          (cuts-append (voice said0 []) (voice said text) now _ [] takes.said cuts);
      reads = takes.reads;
    }
