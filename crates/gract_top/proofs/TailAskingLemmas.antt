-- How a call of `ask` with a tail ends, and that it does all where all is there.
use Rattle.std.proofs.Common.{◌≡◌, ◌≢◌, ℕ, false, List, Option, arith}
use Rattle.std.proofs.Common.{inl, inr, sym, ap, ◌∙◌, subst}
use mathlib.Core.Bool.{false≢true}
use Rattle.host_ports.specs.FilesState.{FilesState}
use Rattle.host_ports.specs.Faults.{Rose}
use Rattle.live_tail.specs.Join.{IsAsBuiltTogether}
use Rattle.live_tail.specs.View.{TailedView}
use Rattle.track_types.specs.Chart.{ChartView}
use Rattle.track_types.specs.declared.parts.Parts.{Parts}
use Rattle.snapshots.specs.IndexCost.{open_cost}
use Rattle.snapshots.specs.Parts.{chart_in}
use Rattle.track_index.specs.Opening.{bytes_cost, IsFile}
use Rattle.track_index.proofs.DecidingLemmas.{parts_in-file}
use Rattle.track_index.proofs.OpeningLemmas.{bytes_cost-read}
use Rattle.gract_top.specs.Beginning.{progress}
use Rattle.gract_top.specs.Completeness.{HasIndex, HasQuestions, HasTail}
use Rattle.gract_top.specs.Counting.{CountsFiles}
use Rattle.gract_top.specs.Outcome.{AnswersSource, Talk}
use Rattle.gract_top.specs.Refusal.{is_early}
use Rattle.gract_top.specs.TailAsking.{AnswersTailed, EndsAskTail, tailed_meaning}
use Rattle.gract_top.specs.TailOpening.{OpensTailed, StopsAtEither, settings_in}
use Rattle.gract_top.specs.declared.outcome.Outcome.{Outcome}
use Rattle.gract_top.specs.declared.outcome.Outcome.TheVariants as outcome
use Rattle.gract_top.proofs.CompletenessLemmas.{IsGood, IsUntroubled, by_cause, questions-short}
use Rattle.gract_top.proofs.EndsLemmas.{is_early-refusal}
use Rattle.gract_top.proofs.StoppingLemmas.{CountsFiles-same}
use Rattle.gract_top.proofs.TailOpeningLemmas.{OpensTailed-unsaved, StopsAtEither-good}

-- the bytes of an index file are opened within the cost of its parts
pub bytes_cost-file : (bytes : List ℕ) (parts : Parts) → IsFile bytes parts → bytes_cost bytes ≡ open_cost parts
bytes_cost-file bytes parts file =
    bytes_cost-read bytes parts (parts_in-file bytes parts file)

-- the lines were answered over an index and a tail that were joined
pub answers-joined : (result : Outcome) (parts : Parts) (untouched : Type 0) (before now : Talk) (tail : Option ChartView)
    (asked joined : TailedView) → asked ≡ joined → joined ≡ record { parts = parts; tail = tail } →
    AnswersSource result untouched (tailed_meaning asked.parts asked.tail) before now →
    AnswersSource result untouched (tailed_meaning parts tail) before now
answers-joined result parts untouched before now tail asked joined same both answers =
    let Over : TailedView → Type 0 = λ these. AnswersSource result untouched (tailed_meaning these.parts these.tail) before now in
    subst Over (same ∙ both) answers

module _ (result : Outcome) (index csv : List ℕ) (untouched : Type 0) (files_before files_now : FilesState)
    (before now : Talk)
  where
    -- a call that ended at one of its files
    pub EndsAskTail-stopped : StopsAtEither result index csv (progress files_before before.steps) (progress files_now now.steps) →
        CountsFiles result files_before files_now → untouched →
        EndsAskTail result index csv untouched files_before files_now before now
    EndsAskTail-stopped stops counts same = grind (arith)

    -- a call that went on from both
    pub EndsAskTail-opened : (parts : Parts) (tail : Option ChartView) (opened : ℕ) → is_early result ≡ false →
        result ≢ outcome.SaveFailed →
        OpensTailed index csv parts tail (progress files_before before.steps) (progress files_now opened) →
        IsAsBuiltTogether (chart_in parts) tail →
        AnswersSource result untouched (tailed_meaning parts tail) (record before { steps = opened }) now →
        EndsAskTail result index csv untouched files_before files_now before now
    EndsAskTail-opened parts tail opened late unsaved opens together answers =
        let bytes = opens.opens.bytes in
        let same : bytes_cost bytes ≡ open_cost parts = bytes_cost-file bytes parts opens.opens.file in
        record {
          counts = CountsFiles-same result files_before files_now unsaved
              (opens.grids.load_faults ∙ opens.opens.load_faults) (opens.grids.save_faults ∙ opens.opens.save_faults);
          unsaved = OpensTailed-unsaved index csv parts tail (progress files_before before.steps) (progress files_now opened) opens;
          ended = inr (record {
            late = late;
            parts = parts;
            tail = tail;
            opened = opened;
            opens = opens;
            cost = omega (arith, opens.opens.cost, opens.grids.steps, same);
            together = together;
            answers = answers;
          });
        }

module _ (result : Outcome) (index csv : List ℕ) (untouched : Type 0) (files_before files_now : FilesState)
    (before now : Talk) (ready : HasIndex files_before.map index)
    (tail : HasTail files_before.map csv (settings_in ready.parts)) (lines : HasQuestions before.rest)
    (untroubled : IsUntroubled result)
    (calm : Rose files_before.load_faults files_now.load_faults → ⊥)
  where
    -- what holds where the lines were answered
    answers-good : AnswersTailed result index csv untouched files_before files_now before now → IsGood result
    answers-good over =
        let Over : Outcome → Type 0 = λ other. AnswersTailed other index csv untouched files_before files_now before now in
        by_cause result untroubled
        (λ failed. false≢true (sym over.late ∙ ap is_early failed))
        (λ refusal. false≢true (sym over.late ∙ is_early-refusal result refusal))
        (λ flaw is. (subst Over is over).answers.answered)
        (λ value is.
        let first = (subst Over is over).answers.answered.1 in
        questions-short before.rest now.rest first.bytes lines first.came.consumed first.past)
        (λ setting left right is. (subst Over is over).answers.answered)
        (λ object is. (subst Over is over).answers.answered)

    -- a call of `ask` with a tail
    pub ask_tail-good : EndsAskTail result index csv untouched files_before files_now before now → IsGood result
    ask_tail-good ends = elim ends.ended [
      | inl stops ↦
          StopsAtEither-good index csv (progress files_before before.steps) ready tail result (progress files_now now.steps)
          untroubled calm stops.0
      | inr over ↦ answers-good over
    ]
