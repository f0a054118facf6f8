-- Where what a request needs is there and no device fails, a call is done or out of memory.
use Rattle.std.proofs.Common.{◌≡◌, ◌≢◌, ℕ, ◌+◌, ◌≤◌, true, List, length, Option, Some, None, ◌⊎◌, arith}
use Rattle.std.proofs.Common.{inl, inr, sym, ap, ◌∙◌, subst, length-append}
use Rattle.std.proofs.lemmas.List.{take_all}
use Rattle.std.specs.Io.KnownBytes.{Consumes}
use Rattle.history.specs.Loads.{Load}
use Rattle.host_ports.specs.FileMap.{FileMap, IsMissing, file_named}
use Rattle.host_ports.specs.FilesState.{FilesState, IsPlain}
use Rattle.host_ports.specs.Faults.{Rose}
use Rattle.track_types.specs.Limits.{limit_of}
use Rattle.track_types.specs.declared.flaw.Flaw.{Flaw}
use Rattle.track_types.specs.declared.limit.LimitKind.TheVariants as limit
use Rattle.track_types.specs.declared.setting.Setting.{Setting}
use Rattle.track_index.specs.Opening.{first_flaw}
use Rattle.track_index.proofs.DecidingLemmas.{first_flaw-file}
use Rattle.gract_top.specs.Completeness.{HasAccepted, HasIndex, HasQuestions}
use Rattle.gract_top.specs.Ends.{AnswersChart, AnswersFile, EndsAsk, EndsBuild, EndsOnce, OutsideView}
use Rattle.gract_top.specs.Ends.{Saved, written}
use Rattle.gract_top.specs.Loading.{FileCame}
use Rattle.gract_top.specs.Outcome.{EndsOpened, Talk}
use Rattle.gract_top.specs.Refusal.{IsIndexRefused, IsRefused, file_refusal, is_late, is_bytes_refusal, length_refusal}
use Rattle.gract_top.proofs.LoadingLemmas.{length_refusal-short}
use Rattle.gract_top.specs.Sampling.{EndsSample, Speech, sample_refusal}
use Rattle.gract_top.specs.declared.outcome.Outcome.{Outcome}
use Rattle.gract_top.specs.declared.outcome.Outcome.TheVariants as outcome
use Rattle.gract_top.specs.declared.request.SampleSettings.{SampleSettings}
use Rattle.gract_top.specs.declared.request.Settings.{Settings}

-- an outcome that is good: all was done, or memory was refused
abbrev pub IsGood : Outcome → Type 0
IsGood result = (result ≡ outcome.Done) ⊎ (result ≡ outcome.Memory)

-- An outcome that names neither the words nor a device, unless a file was not loaded.
pub record IsUntroubled (result : Outcome) : Type 0 where
  pub words : (place : ℕ) → result ≢ outcome.Words place
  pub save : result ≢ outcome.SaveFailed
  pub listen : result ≢ outcome.ListenFailed
  pub say : result ≢ outcome.SayFailed

-- the causes that lead to the others
pub by_cause : (result : Outcome) → IsUntroubled result → (result ≢ outcome.LoadFailed) →
    (is_bytes_refusal result ≡ true → ⊥) → ((flaw : Flaw) → result ≢ outcome.Flaw flaw) →
    ((value : ℕ) → result ≢ outcome.Limit limit.Questions value) →
    ((setting : Setting) (left right : ℕ) → result ≢ outcome.Settings setting left right) →
    ((object : ℕ) → result ≢ outcome.Common object) → IsGood result
by_cause result untroubled load refused flawed long settings common = grind (arith)

-- a file that is held is not missing
pub file_named-found : (map : Option FileMap) (files : FileMap) (name bytes : List ℕ) → map ≡ Some files →
    file_named files name ≡ Some bytes → IsMissing map name → ⊥
file_named-found map files name bytes told holds missing = grind (arith)

-- what came of a file that is not too long is all of it
pub came-whole : (map : Option FileMap) (files : FileMap) (loads : List Load) (taken : ℕ) (name whole : List ℕ) (most : ℕ) (bytes : List ℕ) →
    map ≡ Some files → file_named files name ≡ Some whole → length whole ≤ most → FileCame map loads taken name most bytes →
    bytes ≡ whole
came-whole None files loads taken name whole most bytes told holds short came = absurd (cc)
came-whole (Some others) files loads taken name whole most bytes told holds short came =
    let same : others ≡ files = cc in
    let holds_now : file_named others name ≡ Some whole = ap (λ these. file_named these name) same ∙ holds in
    let front = came.held in
    let one : front.0 ≡ whole = cc in
    front.2 ∙ rw one (take_all (most + 1) whole (omega (arith, short)))

-- an accepted file is not too long
accepted-short : (bytes : List ℕ) (settings : Settings) → file_refusal bytes settings ≡ None →
    length bytes ≤ limit_of limit.Csv
accepted-short bytes settings accepted = grind (arith)

-- an accepted file is not refused
accepted-kept : (map : Option FileMap) (loads : List Load) (taken : ℕ) (csv : List ℕ) (settings : Settings) (cause : Outcome) →
    HasAccepted map csv settings → IsRefused map loads taken csv settings cause → ⊥
accepted-kept map loads taken csv settings cause ready refused =
    let short = accepted-short ready.bytes settings ready.accepted in
    let same : refused.bytes ≡ ready.bytes =
    came-whole map ready.files loads taken csv ready.bytes (limit_of limit.Csv) refused.bytes ready.told ready.holds short refused.came in
    let both : Some cause ≡ None =
    sym refused.refusal ∙ ap (λ bytes. file_refusal bytes settings) same ∙ ready.accepted in
    absurd (cc)

-- an index file that is not too long is not refused
pub index-kept : (map : Option FileMap) (loads : List Load) (taken : ℕ) (index : List ℕ) (cause : Outcome) → HasIndex map index →
    IsIndexRefused map loads taken index cause → ⊥
index-kept map loads taken index cause ready refused =
    let same : refused.bytes ≡ ready.bytes =
    came-whole map ready.files loads taken index ready.bytes (limit_of limit.Index) refused.bytes ready.told ready.holds
    ready.short refused.came in
    let none = length_refusal-short limit.Index ready.bytes ready.short in
    let both : Some cause ≡ None = sym refused.refusal ∙ ap (length_refusal limit.Index) same ∙ none in
    absurd (cc)

-- no more questions come than are told
pub questions-short : (told now : Option (List ℕ)) (bytes : List ℕ) → HasQuestions told → Consumes told now bytes →
    length bytes ≡ limit_of limit.Questions + 1 → ⊥
questions-short None now bytes ready came past = absurd (let none = ready.told in cc)
questions-short (Some lines) None bytes ready came past = came
questions-short (Some lines) (Some rest) bytes ready came past =
    let told = ready.told in
    let same : lines ≡ ready.bytes = cc in
    let lengths = ap length came ∙ length-append bytes rest in
    omega (arith, lengths, ap length same, ready.short, past)

module _ (untouched : Type 0) (before now : Talk) (ready : HasQuestions before.rest) where
  -- bytes that hold parts are neither flawed nor asked too much
  opened-long : (bytes : List ℕ) (value : ℕ) →
      EndsOpened (outcome.Limit limit.Questions value) bytes untouched before now → ⊥
  opened-long bytes value (inl unopened) = unopened
  opened-long bytes value (inr ends) =
      let first = ends.answers.answers.answered.1 in
      questions-short before.rest now.rest first.bytes ready first.came.consumed first.past

module _ (untouched : Type 0) (before now : Talk) where
  -- what is answered from bytes that were opened is no refusal of a union
  opened-settings : (setting : Setting) (left right : ℕ) (bytes : List ℕ) →
      EndsOpened (outcome.Settings setting left right) bytes untouched before now → ⊥
  opened-settings setting left right bytes ends = grind (arith)

  opened-common : (object : ℕ) (bytes : List ℕ) → EndsOpened (outcome.Common object) bytes untouched before now → ⊥
  opened-common object bytes ends = grind (arith)

-- a call of `once`
pub once-good : (result : Outcome) (csv : List ℕ) (settings : Settings) (untouched : Type 0) (before now : OutsideView) →
    EndsOnce result csv settings untouched before now → HasAccepted before.files.map csv settings →
    HasQuestions before.talk.rest → IsPlain before.given → IsUntroubled result →
    (Rose before.files.load_faults now.files.load_faults → ⊥) → IsGood result
once-good result csv settings untouched before now ends ready lines plain untroubled calm =
    by_cause result untroubled
    (λ failed. elim (ends.loading.one.load_failed failed) [
      | inl rose ↦ calm rose
      | inr missing ↦ file_named-found before.files.map ready.files csv ready.bytes ready.told ready.holds missing
    ])
    (λ refusal. accepted-kept before.files.map now.files.loads now.files.taken csv settings result ready (ends.refused refusal))
    (λ flaw is.
    let Over : Outcome → Type 0 = λ other. AnswersChart other csv settings untouched before now in
    let late : is_late result ≡ true = ap is_late is in
    let answers = subst Over is (ends.late late) in
    elim (answers.plain plain) [
      | inl memory ↦ absurd (let same = memory.0 in cc)
      | inr over ↦ over.answers.answered
    ])
    (λ value is.
    let Over : Outcome → Type 0 = λ other. AnswersChart other csv settings untouched before now in
    let late : is_late result ≡ true = ap is_late is in
    let answers = subst Over is (ends.late late) in
    opened-long untouched before.talk now.talk lines _ value answers.ended)
    (λ setting left right is.
    let Over : Outcome → Type 0 = λ other. AnswersChart other csv settings untouched before now in
    opened-settings untouched before.talk now.talk setting left right _ (subst Over is (ends.late (ap is_late is))).ended)
    (λ object is.
    let Over : Outcome → Type 0 = λ other. AnswersChart other csv settings untouched before now in
    opened-common untouched before.talk now.talk object _ (subst Over is (ends.late (ap is_late is))).ended)

-- a call of `ask`
pub ask-good : (result : Outcome) (index : List ℕ) (untouched : Type 0) (before now : OutsideView) →
    EndsAsk result index untouched before now → HasIndex before.files.map index → HasQuestions before.talk.rest →
    IsUntroubled result → (Rose before.files.load_faults now.files.load_faults → ⊥) → IsGood result
ask-good result index untouched before now ends ready lines untroubled calm =
    by_cause result untroubled
    (λ failed. elim (ends.loading.one.load_failed failed) [
      | inl rose ↦ calm rose
      | inr missing ↦ file_named-found before.files.map ready.files index ready.bytes ready.told ready.holds missing
    ])
    (λ refusal. index-kept before.files.map now.files.loads now.files.taken index result ready (ends.refused refusal))
    (λ flaw is.
    let Over : Outcome → Type 0 = λ other. AnswersFile other index untouched before now in
    let late : is_late result ≡ true = ap is_late is in
    let answers = subst Over is (ends.late late) in
    let same : answers.bytes ≡ ready.bytes = came-whole before.files.map ready.files now.files.loads now.files.taken index ready.bytes
    (limit_of limit.Index) answers.bytes ready.told ready.holds ready.short answers.loaded.came in
    let none : first_flaw answers.bytes ≡ None =
    ap first_flaw same ∙ first_flaw-file ready.bytes ready.parts ready.file in
    elim answers.ended [
      | inl unopened ↦ absurd (let both : Some flaw ≡ None = sym unopened.0 ∙ none in cc)
      | inr over ↦ over.answers.answers.answered
    ])
    (λ value is.
    let Over : Outcome → Type 0 = λ other. AnswersFile other index untouched before now in
    let late : is_late result ≡ true = ap is_late is in
    let answers = subst Over is (ends.late late) in
    opened-long untouched before.talk now.talk lines answers.bytes value answers.ended)
    (λ setting left right is.
    let Over : Outcome → Type 0 = λ other. AnswersFile other index untouched before now in
    opened-settings untouched before.talk now.talk setting left right _ (subst Over is (ends.late (ap is_late is))).ended)
    (λ object is.
    let Over : Outcome → Type 0 = λ other. AnswersFile other index untouched before now in
    opened-common untouched before.talk now.talk object _ (subst Over is (ends.late (ap is_late is))).ended)

-- a call of `build`
pub build-good : (result : Outcome) (csv index : List ℕ) (settings : Settings) (before now : FilesState) →
    EndsBuild result csv index settings before now → HasAccepted before.map csv settings →
    IsUntroubled result → (Rose before.load_faults now.load_faults → ⊥) → IsGood result
build-good result csv index settings before now ends ready untroubled calm =
    by_cause result untroubled
    (λ failed. elim (ends.loading.one.load_failed failed) [
      | inl rose ↦ calm rose
      | inr missing ↦ file_named-found before.map ready.files csv ready.bytes ready.told ready.holds missing
    ])
    (λ refusal. accepted-kept before.map now.loads now.taken csv settings result ready (ends.refused refusal))
    (λ flaw is. let late : is_late result ≡ true = ap is_late is in
    let Saves : Outcome → Type 0 = λ other. Saved other index (written (ends.late late).chart) before now in
    subst Saves is (ends.late late).saved)
    (λ value is. let late : is_late result ≡ true = ap is_late is in
    let Saves : Outcome → Type 0 = λ other. Saved other index (written (ends.late late).chart) before now in
    subst Saves is (ends.late late).saved)
    (λ setting left right is. let late : is_late result ≡ true = ap is_late is in
    let Saves : Outcome → Type 0 = λ other. Saved other index (written (ends.late late).chart) before now in
    subst Saves is (ends.late late).saved)
    (λ object is. let late : is_late result ≡ true = ap is_late is in
    let Saves : Outcome → Type 0 = λ other. Saved other index (written (ends.late late).chart) before now in
    subst Saves is (ends.late late).saved)

module _ (result : Outcome) (settings : SampleSettings) (unsaid : Type 0) (given : List ℕ → List ℕ) (before now : Speech)
    (plain : IsPlain given)
  where
    -- a call of `sample`
    pub sample-good : (files_before files_now : FilesState) →
        EndsSample result settings unsaid files_before files_now given before now → sample_refusal settings ≡ None →
        result ≢ outcome.SayFailed → IsGood result
    sample-good files_before files_now ends accepted say = grind (arith)
