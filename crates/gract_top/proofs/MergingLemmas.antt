-- How a merge ends, and that it is done or out of memory where the files are there and have a union and no device fails.
use Rattle.std.proofs.Common.{◌≡◌, ◌≢◌, ℕ, ◌+◌, ◌≤◌, List, Some, None, ◌⊎◌, inl, inr, refl, sym, ap, ◌∙◌, subst}
use Rattle.host_ports.specs.Faults.{Rose}
use Rattle.track_types.specs.declared.parts.Parts.{Parts}
use Rattle.chart_parts.specs.PartsOf.{parts_of}
use Rattle.index_file.specs.File.{file_bytes}
use Rattle.snapshots.specs.Parts.{chart_in}
use Rattle.track_types.specs.Chart.{ChartView}
use Rattle.index_merge.specs.Cost.{union_cost}
use Rattle.index_merge.specs.Extension.{IsAsBuilt}
use Rattle.index_merge.specs.MergeFault.{merge_fault}
use Rattle.gract_top.specs.Beginning.{OpensFile, Progress, SavesNothing}
use Rattle.gract_top.specs.Completeness.{HasIndex}
use Rattle.gract_top.specs.Counting.{CountsFiles}
use Rattle.gract_top.specs.Ends.{EndsMerge, MergesParts, SavesUnion}
use Rattle.gract_top.specs.Merging.{NotMerged, union_bytes}
use Rattle.gract_top.proofs.BeginningLemmas.{OpensFile-parts, StopsAtIndex-memory}
use Rattle.gract_top.proofs.CompletenessLemmas.{IsGood}
use Rattle.gract_top.proofs.EndsLemmas.{Saved-done, Saved-loaded}
use Rattle.gract_top.proofs.StoppingLemmas.{CountsFiles-after}
use Rattle.gract_top.proofs.TailOpeningLemmas.{unsaved-twice}
use Rattle.gract_top.specs.declared.outcome.Outcome.{Outcome}
use Rattle.gract_top.specs.declared.outcome.Outcome.TheVariants as outcome

module _ (result : Outcome) (first second : Parts) (left right name : List ℕ) (before between opened now : Progress) where
  -- a merge whose files were both opened ends as what was made of them ended
  pub EndsMerge-opened : OpensFile left first before between → OpensFile right second between opened →
      CountsFiles result opened.files now.files →
      ((NotMerged result first second × SavesNothing opened.files now.files)
      ⊎ SavesUnion result first second name opened.files now.files) →
      IsAsBuilt first (chart_in second).rows → now.steps ≤ opened.steps + union_cost first second → now.files.loads ≡ opened.files.loads →
      now.files.begins ≡ opened.files.begins → EndsMerge result left right name before now
  EndsMerge-opened one two counts ended built cost loads begins =
      let loaded = unsaved-twice before.files between.files opened.files one.unsaved two.unsaved in
      let merges : MergesParts result first second name before.files opened now = record {
        ended = elim ended [
          | inl unsaved ↦ inl (unsaved.0, unsaved-twice before.files opened.files now.files loaded unsaved.1)
          | inr union ↦ inr (record {
            merged = union.merged;
            saved = Saved-loaded result name (union_bytes first second) (union_bytes first second) before.files opened.files
                now.files union.saved loaded refl;
          })
        ];
        as_built = λ raws more from others.
            ap (λ (chart : ChartView). file_bytes (parts_of chart)) (built.from_raw raws more from others);
        cost = cost;
        loads = loads;
        begins = begins;
      } in
      record {
        counts = CountsFiles-after result before.files opened.files now.files (two.load_faults ∙ one.load_faults)
            (two.save_faults ∙ one.save_faults) counts;
        ended = inr (first, between, one, inr (second, opened, two, merges));
      }

-- a call of `merge`
pub merge-good : (result : Outcome) (left right name : List ℕ) (before now : Progress) →
    EndsMerge result left right name before now → (first : HasIndex before.files.map left)
    (second : HasIndex before.files.map right) → merge_fault first.parts second.parts ≡ None →
    result ≢ outcome.SaveFailed → (Rose before.files.load_faults now.files.load_faults → ⊥) → IsGood result
merge-good result left right name before now ends first second merged save calm = elim ends.ended [
  | inl stops ↦ inr (StopsAtIndex-memory left before now first result stops calm)
  | inr opens ↦
      let between = opens.1 in
      let here : HasIndex between.files.map right = record {
        files = second.files;
        told = opens.2.unsaved.map ∙ second.told;
        bytes = second.bytes;
        holds = second.holds;
        short = second.short;
        parts = second.parts;
        file = second.file;
      } in
      let of_first : opens.0 ≡ first.parts = OpensFile-parts left before between first opens.0 opens.2 in
      elim opens.3 [
        | inl stops ↦ inr (StopsAtIndex-memory right between now here result stops
            (λ rose. calm (subst (λ faults. Rose faults now.files.load_faults) opens.2.load_faults rose)))
        | inr both ↦ elim both.3.ended [
          | inl unmerged ↦ elim unmerged.0 [
            | inl memory ↦ inr memory
            | inr found ↦
                let of_second : both.0 ≡ second.parts = OpensFile-parts right between both.1 here both.0 both.2 in
                let none : merge_fault opens.0 both.0 ≡ None = rw (of_first, of_second) merged in
                absurd (let both : Some found.0 ≡ None = sym found.1 ∙ none in cc)
          ]
          | inr saves ↦ inl (Saved-done name (union_bytes opens.0 both.0) before.files now.files result saves.saved save)
        ]
      ]
]
