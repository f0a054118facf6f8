-- What a call came to at an index file and its tail.
use Rattle.std.proofs.Common.{◌≡◌, ◌≢◌, ℕ, ◌≤◌, true, List, length, Option, Some, None, ◌⊎◌, arith}
use Rattle.std.proofs.Common.{inl, inr, sym, ap, ◌∙◌, subst}
use mathlib.Core.Bool.{false≢true}
use Rattle.history.specs.Loads.{Load}
use Rattle.host_ports.specs.FileMap.{FileMap}
use Rattle.host_ports.specs.FilesState.{FilesState}
use Rattle.host_ports.specs.Faults.{Rose}
use Rattle.track_types.specs.Chart.{ChartView}
use Rattle.track_types.specs.Limits.{limit_of}
use Rattle.track_types.specs.declared.limit.LimitKind.TheVariants as limit
use Rattle.track_types.specs.declared.parts.Parts.{Parts}
use Rattle.gract_top.specs.Beginning.{OpensFile, Progress, SavesNothing, progress}
use Rattle.gract_top.specs.Completeness.{HasIndex, HasTail}
use Rattle.gract_top.specs.Refusal.{file_refusal, is_late, is_bytes_refusal}
use Rattle.gract_top.specs.Stopping.{LoadsTail, StopsWithoutTail}
use Rattle.gract_top.specs.TailOpening.{GridsTail, HasNoTail, OpensTailed, StopsAtEither, StopsAtTail, settings_in}
use Rattle.gract_top.specs.declared.outcome.Outcome.{Outcome}
use Rattle.gract_top.specs.declared.outcome.Outcome.TheVariants as outcome
use Rattle.gract_top.specs.declared.request.Settings.{Settings}
use Rattle.gract_top.proofs.BeginningLemmas.{OpensFile-parts, StopsAtIndex-memory}
use Rattle.gract_top.proofs.CompletenessLemmas.{IsGood, IsUntroubled, by_cause, came-whole, file_named-found}

-- nothing was saved twice
pub unsaved-twice : (before between now : FilesState) → SavesNothing before between → SavesNothing between now →
    SavesNothing before now
unsaved-twice before between now one two = grind (arith)

-- a call that ended at a file saved nothing
pub StopsAtEither-unsaved : (result : Outcome) (index csv : List ℕ) (before now : Progress) →
    StopsAtEither result index csv before now → SavesNothing before.files now.files
StopsAtEither-unsaved result index csv before now stops = grind (arith)

-- nor did one that opened both
pub OpensTailed-unsaved : (index csv : List ℕ) (parts : Parts) (tail : Option ChartView) (before now : Progress) →
    OpensTailed index csv parts tail before now → SavesNothing before.files now.files
OpensTailed-unsaved index csv parts tail before now opens = grind (arith)

-- a tail that was loaded by the settings of an index
pub GridsTail-loaded : (parts : Parts) (csv : List ℕ) (tail : Option ChartView) (settings : Settings)
    (before now : FilesState) (steps : ℕ) → settings ≡ settings_in parts → LoadsTail csv settings tail before now →
    GridsTail parts csv tail (progress before steps) (progress now steps)
GridsTail-loaded parts csv tail settings before now steps by loads = grind (arith)

-- both files gave what they have
pub OpensTailed-loaded : (index csv : List ℕ) (parts : Parts) (tail : Option ChartView) (before between now : Progress) →
    OpensFile index parts before between → GridsTail parts csv tail between now → OpensTailed index csv parts tail before now
OpensTailed-loaded index csv parts tail before between now opens grids = grind (arith)

-- a call that ended at the file of a tail
pub StopsAtTail-stopped : (result : Outcome) (parts : Parts) (csv : List ℕ) (settings : Settings)
    (before now : FilesState) (steps : ℕ) → settings ≡ settings_in parts →
    StopsWithoutTail result csv settings before now → StopsAtTail result parts csv (progress before steps) (progress now steps)
StopsAtTail-stopped result parts csv settings before now steps by stops = grind (arith)

-- a tail is not too long
pub tail-short : (bytes : List ℕ) (settings : Settings) →
    (file_refusal bytes settings ≡ None) ⊎ (file_refusal bytes settings ≡ Some outcome.Empty) →
    length bytes ≤ limit_of limit.Csv
tail-short bytes settings accepted = grind (arith)

-- a tail that is there and accepted, or has no row, is not refused
tail-kept : (map : Option FileMap) (loads : List Load) (taken : ℕ) (csv : List ℕ) (settings : Settings) (cause : Outcome) →
    HasTail map csv settings → HasNoTail cause map loads taken csv settings → is_bytes_refusal cause ≡ true → ⊥
tail-kept map loads taken csv settings cause ready none refusal =
    let refused = none.refused refusal in
    let same : refused.bytes ≡ ready.bytes =
    came-whole map ready.files loads taken csv ready.bytes (limit_of limit.Csv) refused.bytes ready.told ready.holds
    (tail-short ready.bytes settings ready.accepted) refused.came in
    let is : file_refusal ready.bytes settings ≡ Some cause =
    ap (λ bytes. file_refusal bytes settings) (sym same) ∙ refused.refusal in
    elim ready.accepted [
      | inl accepted ↦ absurd (let both : Some cause ≡ None = sym is ∙ accepted in cc)
      | inr empty ↦ none.some (let both : Some cause ≡ Some outcome.Empty = sym is ∙ empty in cc)
    ]

module _ (index csv : List ℕ) (before : Progress) (ready : HasIndex before.files.map index)
    (tail : HasTail before.files.map csv (settings_in ready.parts))
  where
    -- the tail is there still where the index was opened
    pub HasTail-opened : (parts : Parts) (between : Progress) → OpensFile index parts before between →
        HasTail between.files.map csv (settings_in parts)
    HasTail-opened parts between opens =
        let same : parts ≡ ready.parts = OpensFile-parts index before between ready parts opens in
        let Has : Option FileMap → Type 0 = λ these. HasTail these csv (settings_in ready.parts) in
        let HasBy : Parts → Type 0 = λ these. HasTail between.files.map csv (settings_in these) in
        subst HasBy (sym same) (subst Has (sym opens.unsaved.map) tail)

    module _ (result : Outcome) (now : Progress) (untroubled : IsUntroubled result)
        (calm : Rose before.files.load_faults now.files.load_faults → ⊥)
      where
        -- what ends at the tail's file, which is there, is out of memory
        tail-memory : (parts : Parts) (between : Progress) → OpensFile index parts before between →
            StopsAtTail result parts csv between now → IsGood result
        tail-memory parts between opens stops =
            let held = HasTail-opened parts between opens in
            by_cause result untroubled
            (λ failed. elim (stops.loading.one.load_failed failed) [
              | inl rose ↦ calm (rw opens.load_faults at rose)
              | inr missing ↦ file_named-found between.files.map held.files csv held.bytes held.told held.holds missing
            ])
            (λ refusal. tail-kept between.files.map now.files.loads now.files.taken csv (settings_in parts) result held stops.none
            refusal)
            (λ flaw is. false≢true (sym stops.none.early ∙ ap is_late is))
            (λ value is. false≢true (sym stops.none.early ∙ ap is_late is))
            (λ setting left right is. false≢true (sym stops.none.early ∙ ap is_late is))
            (λ object is. false≢true (sym stops.none.early ∙ ap is_late is))

        -- what ends at one of the two files, which are there, is out of memory
        pub StopsAtEither-good : StopsAtEither result index csv before now → IsGood result
        StopsAtEither-good (inl stops) = inr (StopsAtIndex-memory index before now ready result stops calm)
        StopsAtEither-good (inr (parts, between, opens, stops)) = tail-memory parts between opens stops
