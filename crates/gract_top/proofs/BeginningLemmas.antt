-- What a call came to at an index file that is there, where no device fails.
use Rattle.std.proofs.Common.{◌≡◌, ◌≢◌, ℕ, List, Some, None, inl, inr, sym, ap, ◌∙◌, arith}
use Rattle.host_ports.specs.FilesState.{FilesState}
use Rattle.host_ports.specs.Faults.{Rose}
use Rattle.track_types.specs.Limits.{limit_of}
use Rattle.track_types.specs.declared.limit.LimitKind.{LimitKind}
use Rattle.track_types.specs.declared.limit.LimitKind.TheVariants as limit
use Rattle.track_types.specs.declared.parts.Parts.{Parts}
use Rattle.track_index.specs.Opening.{first_flaw}
use Rattle.track_index.proofs.DecidingLemmas.{first_flaw-file}
use Rattle.gract_top.specs.Beginning.{NotLoaded, OpensFile, Progress, StopsAtIndex}
use Rattle.gract_top.specs.Completeness.{HasIndex}
use Rattle.gract_top.specs.Ends.{EndsUpgrade}
use Rattle.gract_top.specs.Refusal.{IsLengthRefused}
use Rattle.gract_top.specs.Upgrading.{NotUpgraded}
use Rattle.gract_top.proofs.CompletenessLemmas.{came-whole, file_named-found, index-kept, IsGood}
use Rattle.gract_top.proofs.EndsLemmas.{Saved-done}
use Rattle.gract_top.proofs.UpgradingLemmas.{IsFile-one}
use Rattle.gract_top.specs.declared.outcome.Outcome.{Outcome}
use Rattle.gract_top.specs.declared.outcome.Outcome.TheVariants as outcome

module _ (kind : LimitKind) (name : List ℕ) (before now : FilesState) where
  -- a file that is there and not too long is not loaded only out of memory
  NotLoaded-memory : (result : Outcome) → NotLoaded result kind name before now → result ≢ outcome.LoadFailed →
      (IsLengthRefused kind before.map now.loads now.taken name result → ⊥) → result ≡ outcome.Memory
  NotLoaded-memory result is load refused = grind (arith)

module _ (name : List ℕ) (before now : Progress) (ready : HasIndex before.files.map name) where
  -- a call that stops at an index file that is there, where no device fails, is out of memory
  pub StopsAtIndex-memory : (result : Outcome) → StopsAtIndex result name before now →
      (Rose before.files.load_faults now.files.load_faults → ⊥) → result ≡ outcome.Memory
  StopsAtIndex-memory result stops calm = elim stops.ended [
    | inl unloaded ↦ NotLoaded-memory limit.Index name before.files now.files result unloaded.0
        (λ failed. elim (stops.one.load_failed failed) [
          | inl rose ↦ calm rose
          | inr missing ↦
              file_named-found before.files.map ready.files name ready.bytes ready.told ready.holds missing
        ])
        (index-kept before.files.map now.files.loads now.files.taken name result ready)
    | inr unopened ↦ elim unopened.unopened [
      | inl memory ↦ memory
      | inr flawed ↦
          let same : unopened.bytes ≡ ready.bytes = came-whole before.files.map ready.files now.files.loads now.files.taken name ready.bytes
          (limit_of limit.Index) unopened.bytes ready.told ready.holds ready.short unopened.loaded.came in
          let none : first_flaw unopened.bytes ≡ None =
          ap first_flaw same ∙ first_flaw-file ready.bytes ready.parts ready.file in
          absurd (let both : Some flawed.0 ≡ None = sym flawed.1 ∙ none in cc)
    ]
  ]

  -- an index file that is there is opened as its parts
  pub OpensFile-parts : (parts : Parts) → OpensFile name parts before now → parts ≡ ready.parts
  OpensFile-parts parts opens =
      let same : opens.bytes ≡ ready.bytes = came-whole before.files.map ready.files now.files.loads now.files.taken name ready.bytes
      (limit_of limit.Index) opens.bytes ready.told ready.holds ready.short opens.loaded.came in
      IsFile-one ready.bytes parts ready.parts (rw same at opens.file) ready.file

-- bytes that were not upgraded and have no flaw are so out of memory
NotUpgraded-memory : (bytes : List ℕ) (result : Outcome) → NotUpgraded result bytes → first_flaw bytes ≡ None →
    result ≡ outcome.Memory
NotUpgraded-memory bytes result is none = grind (arith)

-- a call of `upgrade`
pub upgrade-good : (index name : List ℕ) (before now : FilesState) (steps_before steps_now : ℕ) (ready : HasIndex before.map index)
    (result : Outcome) → EndsUpgrade result index name before now steps_before steps_now → result ≢ outcome.SaveFailed →
    (Rose before.load_faults now.load_faults → ⊥) → IsGood result
upgrade-good index name before now steps_before steps_now ready result ends save calm = elim ends.ended [
  | inl unloaded ↦ inr (NotLoaded-memory limit.Index index before now result unloaded.0
      (λ failed. elim (ends.loading.load_failed failed) [
        | inl rose ↦ calm rose
        | inr missing ↦ file_named-found before.map ready.files index ready.bytes ready.told ready.holds missing
      ])
      (index-kept before.map now.loads now.taken index result ready))
  | inr file ↦ elim file.ended [
    | inl left ↦
        let same : file.bytes ≡ ready.bytes = came-whole before.map ready.files now.loads now.taken index ready.bytes
        (limit_of limit.Index) file.bytes ready.told ready.holds ready.short file.loaded.came in
        inr (NotUpgraded-memory file.bytes result left.0
        (ap first_flaw same ∙ first_flaw-file ready.bytes ready.parts ready.file))
    | inr saves ↦ inl (Saved-done name saves.newest before now result saves.saved save)
  ]
]
