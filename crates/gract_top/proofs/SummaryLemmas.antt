-- A summary said piece by piece.
use Rattle.std.proofs.Common.{◌≡◌, ℕ, ◌+◌, ◌≤◌, List, [], ◌∷◌, ◌++◌, take, drop, Option, Result, Ok, Err, Some, arith}
use Rattle.std.proofs.Common.{IfErr, OnErr, None, refl, sym, ap, ◌∙◌, append-nil, append_assoc}
use Rattle.std.proofs.lemmas.List.{take-append-drop}
use Rattle.std.proofs.lemmas.List.Sums.{sum_by-cons}
use Rattle.host_ports.specs.Histories.{Gains}
use Rattle.std.specs.List.{sum_by}
use Rattle.host_ports.specs.declared.fault.Cut.{Cut}
use Rattle.question_shell.specs.Desk.{DeskView, empty_desk}
use Rattle.question_shell.specs.Reply.{asked_cost, desk_of, listed, ok_line, slot_desk}
use Rattle.question_shell.specs.Session.{Meaning}
use Rattle.question_shell.specs.SlotParts.{OfNoSlot, SlotPart, slot_part}
use Rattle.question_shell.specs.Turns.{AnswerTold, moment}
use Rattle.question_shell.specs.declared.turn_fault.TurnFault.{TurnFault}
use Rattle.question_shell.proofs.SaysLemmas.{Gains-append, Gains-nothing}
use Rattle.track_types.specs.Chart.{ChartView}
use Rattle.track_types.specs.declared.facts.Facts.{Facts}
use Rattle.track_types.specs.declared.question.Question.{Question}
use Rattle.track_types.specs.declared.question.Question.TheVariants as question
use Rattle.track_types.specs.declared.stop.Stop.{Stop}
use Rattle.gract_top.specs.Sampling.{SaysFront, Speech}
use Rattle.gract_top.specs.Summary.{IsSlotless, IsOfNoSlot, count_line, counts_of, found_by}

-- a question that is counted asks nothing of a slot
of-no-slot : (asked : Question) (part : SlotPart) → IsOfNoSlot asked part → part ≡ OfNoSlot
of-no-slot asked part counted = grind (arith)

-- it leaves the desk as it is
pub counted-desk : (chart : ChartView) (desk : List (Option (List Stop))) (asked : Question) → IsSlotless asked →
    desk_of chart desk asked ≡ desk
counted-desk chart desk asked counted = ap (slot_desk chart desk) (of-no-slot asked (slot_part asked) counted)

-- and costs no more than it may
pub counted-cost : (cost : Question → ℕ) (desk : List (Option (List Stop))) (asked : Question) → IsSlotless asked →
    asked_cost cost desk (Ok (Some asked)) ≤ cost asked
counted-cost cost desk asked counted = grind (arith)

-- the reply to `info` was said, or a front of it
module _ (meaning : Meaning) (said0 said : List ℕ) (desk : DeskView) (steps0 steps : ℕ) where
  abbrev info : List ℕ
  info = listed (found_by meaning.chart meaning.facts question.Info) None

  pub info-front : (refused : TurnFault) → AnswerTold meaning (moment said0 [] empty_desk steps0)
      (moment said [] desk steps) (Ok (Some question.Info)) (Err refused) →
      SaysFront said0 said info × (steps ≤ steps0)
  info-front refused told = grind (arith)

-- a front of a text is one of a longer text
pub SaysFront-more : (before now : List ℕ) (text more : List ℕ) → SaysFront before now text →
    SaysFront before now (text ++ more)
SaysFront-more before now text more says = record {
  front = says.front;
  unsaid = says.unsaid ++ more;
  split = ap (λ whole. whole ++ more) says.split ∙ append_assoc says.front says.unsaid more;
  said = says.said;
}

-- a front of a text was said after another text
pub SaysFront-after : (before between now : List ℕ) (first second : List ℕ) → Gains before between first →
    SaysFront between now second → SaysFront before now (first ++ second)
SaysFront-after before between now first second one says = record {
  front = first ++ says.front;
  unsaid = says.unsaid;
  split = ap (λ text. first ++ text) says.split ∙ sym (append_assoc first says.front says.unsaid);
  said = Gains-append before between now first says.front one says.said;
}

-- a piece that was cut
pub SaysFront-cut : {T : Type 0} (result : Result T Cut) (before now : List ℕ) (piece : List ℕ) →
    IfErr result (λ cut. Gains before now (take cut.sent piece)) → OnErr result (SaysFront before now piece)
SaysFront-cut (Ok value) before now piece said = tt
SaysFront-cut (Err cut) before now piece said = record {
  front = take cut.sent piece;
  unsaid = drop cut.sent piece;
  split = sym (take-append-drop cut.sent piece);
  said = said;
}

module _ (chart : ChartView) (facts : Facts) (cost : Question → ℕ) where
  -- The last lines of the replies were said, but for those to the questions that are left, within their costs.
  pub record IsCounting (all left : List Question) (before now : Speech) : Type 0 where
    pub done : List ℕ
    pub whole : counts_of chart facts all ≡ done ++ counts_of chart facts left
    pub said : Gains before.said now.said done
    pub reads : now.steps + sum_by cost left ≤ before.steps + sum_by cost all

  -- no line yet
  pub IsCounting-begun : (all : List Question) (here : Speech) → IsCounting all all here here
  IsCounting-begun all here = record {
    done = [];
    whole = refl;
    said = Gains-nothing here.said;
    reads = omega arith;
  }

  -- all lines
  pub IsCounting-done : (all left : List Question) (before now : Speech) → IsCounting all left before now → left ≡ [] →
      Gains before.said now.said (counts_of chart facts all)
  unfolding counts_of
  IsCounting-done all left before now counting none =
      let whole : counts_of chart facts all ≡ counting.done = counting.whole ∙ rw none (append-nil counting.done) in
      rw whole counting.said

  module _ {all left rest : List Question} {asked : Question} {before now : Speech} (count : ℕ)
      (counting : IsCounting all left before now) (cut : left ≡ asked ∷ rest)
      (counted : count_line chart facts asked ≡ ok_line count)
    where
      whole-next : counts_of chart facts all ≡ (counting.done ++ ok_line count) ++ counts_of chart facts rest
      unfolding counts_of
      whole-next = counting.whole
          ∙ (ap (λ left. counting.done ++ counts_of chart facts left) cut
          ∙ (ap (λ line. counting.done ++ (line ++ counts_of chart facts rest)) counted
          ∙ sym (append_assoc counting.done (ok_line count) (counts_of chart facts rest))))

      -- the line of one question more was said
      pub IsCounting-next : (after : Speech) → after.steps ≤ now.steps + cost asked →
          Gains now.said after.said (ok_line count) → IsCounting all rest before after
      IsCounting-next after read says = record {
        done = counting.done ++ ok_line count;
        whole = whole-next;
        said = Gains-append before.said now.said after.said counting.done (ok_line count) counting.said says;
        reads = let sums = ap (sum_by cost) cut ∙ sum_by-cons cost asked rest in
            omega (arith, counting.reads, read, sums);
      }

      -- it was cut
      pub IsCounting-cut : (after : List ℕ) → SaysFront now.said after (ok_line count) →
          SaysFront before.said after (counts_of chart facts all)
      IsCounting-cut after says = rw whole-next (SaysFront-more before.said after (counting.done ++ ok_line count)
          (counts_of chart facts rest)
          (SaysFront-after before.said now.said after counting.done (ok_line count) counting.said says))

  -- one question more was asked within its cost
  pub IsCounting-read : (all left rest : List Question) (asked : Question) (before now : Speech) (end : ℕ) →
      IsCounting all left before now → left ≡ asked ∷ rest → end ≤ now.steps + cost asked →
      end ≤ before.steps + sum_by cost all
  IsCounting-read all left rest asked before now end counting cut read =
      let sums = ap (sum_by cost) cut ∙ sum_by-cons cost asked rest in omega (arith, counting.reads, read, sums)
