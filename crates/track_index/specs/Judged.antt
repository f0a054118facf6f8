-- What is known of parts once all but their logs was judged.
use Rattle.std.specs.Prelude.{◌≡◌, None}
use Rattle.track_types.specs.declared.parts.Parts.{Parts}
use Rattle.snapshots.specs.Parts.{rules_in}
use Rattle.snapshots.specs.Stores.{snapshots_in}
use Rattle.track_index.specs.CheckFlaws.{grammar_flaw, snapshots_flaw, total_flaw}
use Rattle.track_index.specs.declared.opening.JudgedParts.{JudgedParts}

-- what was judged is the parts' own, and has no flaw
pub record AreJudged (parts : Parts) (judged : JudgedParts) : Type 0 where
  pub frame_is : judged.frame ≡ parts.frame
  pub objects_are : judged.objects ≡ parts.objects
  pub rules_are : judged.rules ≡ rules_in parts
  pub snaps_are : judged.snaps.items ≡ snapshots_in parts
  pub flawless : grammar_flaw (rules_in parts) ≡ None
  pub total : total_flaw parts ≡ None
  pub snapshots : snapshots_flaw (snapshots_in parts) ≡ None
