-- How a call of `extend` ends: what is saved is what is built from all rows, and all is done where all is there.
use Rattle.std.proofs.Common.{◌≡◌, ◌≢◌, ℕ, ◌+◌, ◌≤◌, List, [], Option, Some, None, ◌⊎◌, arith}
use Rattle.std.proofs.Common.{inl, inr, refl, sym, ap, ◌∙◌, subst}
use Rattle.history.specs.Loads.{Load}
use Rattle.host_ports.specs.FileMap.{FileMap}
use Rattle.host_ports.specs.Faults.{Rose}
use Rattle.track_types.specs.Chart.{ChartView}
use Rattle.track_types.specs.Limits.{limit_of}
use Rattle.track_types.specs.declared.limit.LimitKind.TheVariants as limit
use Rattle.track_types.specs.declared.parts.Parts.{Parts}
use Rattle.list_laws.specs.Ordered.{ordered}
use Rattle.row_reader.specs.Rows.{raws_of}
use Rattle.gridding.specs.ChartOf.{chart_rows, last_of_each_instant}
use Rattle.chart_parts.specs.PartsOf.{parts_of}
use Rattle.index_file.specs.File.{file_bytes}
use Rattle.path_union.specs.Union.{rows_of_tail}
use Rattle.index_merge.specs.Extension.{extension_cost, extension_fault, IsAsBuilt}
use Rattle.gract_top.specs.Beginning.{Progress, SavesNothing}
use Rattle.gract_top.specs.Completeness.{HasIndex, HasTail}
use Rattle.gract_top.specs.Counting.{CountsFiles}
use Rattle.gract_top.specs.Ends.{EndsExtend, ExtendsParts, SavesExtension}
use Rattle.gract_top.specs.Extending.{IsExtendedAsBuilt, NotExtended, extension_bytes}
use Rattle.gract_top.specs.Loading.{FileCame}
use Rattle.gract_top.specs.Refusal.{file_refusal}
use Rattle.gract_top.specs.TailOpening.{IsTail, OpensTailed, StopsAtEither, settings_in}
use Rattle.gract_top.specs.declared.outcome.Outcome.{Outcome}
use Rattle.gract_top.specs.declared.outcome.Outcome.TheVariants as outcome
use Rattle.gract_top.specs.declared.request.Settings.{Settings}
use Rattle.gract_top.proofs.BeginningLemmas.{OpensFile-parts}
use Rattle.gract_top.proofs.CompletenessLemmas.{IsGood, IsUntroubled, came-whole}
use Rattle.gract_top.proofs.EndsLemmas.{Saved-done, Saved-loaded}
use Rattle.gract_top.proofs.StoppingLemmas.{CountsFiles-after}
use Rattle.gract_top.proofs.TailOpeningLemmas.{OpensTailed-unsaved, StopsAtEither-good, StopsAtEither-unsaved, tail-short, unsaved-twice}

-- and so are those of a file
file_refusal-empty : (bytes : List ℕ) (settings : Settings) → file_refusal bytes settings ≡ Some outcome.Empty →
    raws_of bytes ≡ []
file_refusal-empty bytes settings is = grind (arith)

-- no raw row has a row
chart_rows-none : (cell tick : ℕ) → [] ≡ chart_rows [] cell tick
unfolding chart_rows ordered last_of_each_instant
chart_rows-none cell tick = refl

module _ (map : Option FileMap) (loads : List Load) (taken : ℕ) (csv : List ℕ) where
  -- the bytes that came of a file are one
  came-one : (limit : ℕ) (one other : List ℕ) → FileCame map loads taken csv limit one →
      FileCame map loads taken csv limit other → one ≡ other
  came-one limit one other first second = grind (arith)

  -- the rows of a tail are those of the bytes that came of its file
  tail-rows : (settings : Settings) (tail : Option ChartView) (bytes : List ℕ) → IsTail map loads taken csv settings tail →
      FileCame map loads taken csv (limit_of limit.Csv) bytes →
      rows_of_tail tail ≡ chart_rows (raws_of bytes) settings.cell settings.tick
  tail-rows settings (Some chart) bytes is came =
      let same : is.bytes ≡ bytes = came-one (limit_of limit.Csv) is.bytes bytes is.came came in
      ap (λ (chart : ChartView). chart.rows) is.gridded
      ∙ ap (λ these. chart_rows (raws_of these) settings.cell settings.tick) same
  tail-rows settings None bytes is came =
      let same : is.bytes ≡ bytes = came-one (limit_of limit.Csv) is.bytes bytes is.came came in
      let none : raws_of bytes ≡ [] = ap raws_of (sym same) ∙ file_refusal-empty is.bytes settings is.refusal in
      rw none (chart_rows-none settings.cell settings.tick)

  -- some bytes came of it
  tail-came : (settings : Settings) (tail : Option ChartView) → IsTail map loads taken csv settings tail →
      (bytes : List ℕ) × FileCame map loads taken csv (limit_of limit.Csv) bytes
  tail-came settings tail is = grind (arith)

  -- what is saved of an index and a tail is what is built from all raw rows of both
  pub extended-as_built : (parts : Parts) (tail : Option ChartView) → IsTail map loads taken csv (settings_in parts) tail →
      IsAsBuilt parts (rows_of_tail tail) → IsExtendedAsBuilt parts tail map loads taken csv
  extended-as_built parts tail is built = λ raws bytes from came.
      ap (λ (chart : ChartView). file_bytes (parts_of chart))
      (built.from_raw raws (raws_of bytes) from (tail-rows (settings_in parts) tail bytes is came))

module _ (result : Outcome) (index csv name : List ℕ) (before now : Progress) where
  -- a call that ended at one of its files
  pub EndsExtend-stopped : StopsAtEither result index csv before now → CountsFiles result before.files now.files →
      EndsExtend result index csv name before now
  EndsExtend-stopped stops counts = record {
    counts = counts;
    ended = inl (stops, StopsAtEither-unsaved result index csv before now stops);
  }

  -- a call whose files were both opened ends as what was made of them ended
  pub EndsExtend-opened : (parts : Parts) (tail : Option ChartView) (opened : Progress) →
      OpensTailed index csv parts tail before opened → CountsFiles result opened.files now.files →
      ((NotExtended result parts tail × SavesNothing opened.files now.files)
      ⊎ SavesExtension result parts tail name opened.files now.files) → IsAsBuilt parts (rows_of_tail tail) →
      now.steps ≤ opened.steps + extension_cost parts (rows_of_tail tail) → now.files.loads ≡ opened.files.loads →
      now.files.begins ≡ opened.files.begins → now.files.taken ≡ opened.files.taken →
      EndsExtend result index csv name before now
  EndsExtend-opened parts tail opened opens counts ended built cost loads begins taken =
      let loaded = OpensTailed-unsaved index csv parts tail before opened opens in
      let extends : ExtendsParts result index csv name before now = record {
        parts = parts;
        tail = tail;
        opened = opened;
        opens = opens;
        ended = elim ended [
          | inl unsaved ↦ inl (unsaved.0, unsaved-twice before.files opened.files now.files loaded unsaved.1)
          | inr saves ↦ inr (record {
            extended = saves.extended;
            saved = Saved-loaded result name (extension_bytes parts tail) (extension_bytes parts tail) before.files opened.files
                now.files saves.saved loaded refl;
          })
        ];
        as_built = extended-as_built opens.between.files.map opened.files.loads opened.files.taken csv parts tail
            opens.grids.is_tail built;
        cost = cost;
        loads = loads;
        begins = begins;
        taken = taken;
      } in
      record {
        counts = CountsFiles-after result before.files opened.files now.files
            (opens.grids.load_faults ∙ opens.opens.load_faults) (opens.grids.save_faults ∙ opens.opens.save_faults) counts;
        ended = inr extends;
      }

  module _ (ready : HasIndex before.files.map index) (later : HasTail before.files.map csv (settings_in ready.parts))
      (made : extension_fault ready.parts
      (chart_rows (raws_of later.bytes) ready.parts.frame.cell ready.parts.frame.tick) ≡ None)
    where
      -- such an index and such a tail have a chart
      extension-none : (over : ExtendsParts result index csv name before now) →
          extension_fault over.parts (rows_of_tail over.tail) ≡ None
      extension-none over =
          let opens = over.opens in
          let loads = over.opened.files.loads in
          let taken = over.opened.files.taken in
          let same : over.parts ≡ ready.parts = OpensFile-parts index before opens.between ready over.parts opens.opens in
          let At : Option FileMap → Type 0 = λ map. IsTail map loads taken csv (settings_in ready.parts) over.tail in
          let By : Parts → Type 0 = λ parts. IsTail opens.between.files.map loads taken csv (settings_in parts) over.tail in
          let is : IsTail before.files.map loads taken csv (settings_in ready.parts) over.tail =
          subst At opens.opens.unsaved.map (subst By same opens.grids.is_tail) in
          let came = tail-came before.files.map loads taken csv (settings_in ready.parts) over.tail is in
          let whole : came.0 ≡ later.bytes = came-whole before.files.map later.files loads taken csv later.bytes
          (limit_of limit.Csv) came.0 later.told later.holds (tail-short later.bytes (settings_in ready.parts) later.accepted)
          came.1 in
          let rows : rows_of_tail over.tail
          ≡ chart_rows (raws_of later.bytes) ready.parts.frame.cell ready.parts.frame.tick =
          tail-rows before.files.map loads taken csv (settings_in ready.parts) over.tail came.0 is came.1
          ∙ ap (λ these. chart_rows (raws_of these) ready.parts.frame.cell ready.parts.frame.tick) whole in
          rw (same, rows) made

      -- a call of `extend`
      pub extend-good : EndsExtend result index csv name before now → IsUntroubled result →
          (Rose before.files.load_faults now.files.load_faults → ⊥) → IsGood result
      extend-good ends untroubled calm = elim ends.ended [
        | inl stops ↦ StopsAtEither-good index csv before ready later result now untroubled calm stops.0
        | inr over ↦ elim over.ended [
          | inl unmade ↦ elim unmade.0 [
            | inl memory ↦ inr memory
            | inr found ↦ absurd (let both : Some found.0 ≡ None = sym found.1 ∙ extension-none over in cc)
          ]
          | inr saves ↦
              inl (Saved-done name (extension_bytes over.parts over.tail) before.files now.files result saves.saved untroubled.save)
        ]
      ]
