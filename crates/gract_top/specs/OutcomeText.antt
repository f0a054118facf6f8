-- The status and the line that a program ends with.
use Rattle.std.specs.Prelude.{ℕ, List, [], ◌++◌, codes, decimal}
use Rattle.track_types.specs.FaultText.{limit_name, setting_name}
use Rattle.track_types.specs.FlawText.{flaw_text}
use Rattle.track_types.specs.declared.raw_row.RowFault.{RowFault}
use Rattle.track_types.specs.declared.raw_row.RowFault.TheVariants as fault
use Rattle.gract_top.specs.declared.outcome.Outcome.{Outcome}
use Rattle.gract_top.specs.declared.outcome.Outcome.TheVariants as outcome

-- the status of an outcome
abbrev pub status_of : Outcome → ℕ
status_of outcome.Done = 0
status_of (outcome.Words place) = 2
status_of outcome.LoadFailed = 6
status_of (outcome.Limit kind value) = 4
status_of (outcome.Row nth field fault) = 3
status_of outcome.Empty = 3
status_of (outcome.Flaw flaw) = 5
status_of (outcome.Settings setting left right) = 8
status_of (outcome.Common object) = 9
status_of outcome.SaveFailed = 6
status_of outcome.ListenFailed = 6
status_of outcome.SayFailed = 6
status_of outcome.Memory = 7

-- what is wrong with a record: the words before the number of a field or of the fields
abbrev pub before_field : RowFault → List ℕ
before_field fault.Count = codes " has "
before_field fault.NotNumber = codes " field "
before_field fault.Range = codes " field "

-- what is wrong with a record: the words after that number
abbrev pub behind_field : RowFault → List ℕ
behind_field fault.Count = codes " fields"
behind_field fault.NotNumber = codes " is not a number"
behind_field fault.Range = codes " is out of range"

-- the line of an outcome; none where everything was done
abbrev pub text_of : Outcome → List ℕ
text_of outcome.Done = []
text_of (outcome.Words place) = codes "gract: word " ++ decimal place ++ codes " is not as expected"
text_of outcome.LoadFailed = codes "gract: a file could not be read"
text_of (outcome.Limit kind value) = codes "gract: limit " ++ limit_name kind ++ codes " passed at " ++ decimal value
text_of (outcome.Row nth field fault) =
    codes "gract: record " ++ decimal nth ++ before_field fault ++ decimal field ++ behind_field fault
text_of outcome.Empty = codes "gract: no rows"
text_of (outcome.Flaw flaw) = codes "gract: " ++ flaw_text flaw
text_of (outcome.Settings setting left right) =
    codes "gract: the files differ in " ++ setting_name setting ++ codes ": " ++ decimal left ++ codes " and " ++ decimal right
text_of (outcome.Common object) = codes "gract: object " ++ decimal object ++ codes " is in both files"
text_of outcome.SaveFailed = codes "gract: the index could not be saved"
text_of outcome.ListenFailed = codes "gract: the questions could not be read"
text_of outcome.SayFailed = codes "gract: the answers could not be written"
text_of outcome.Memory = codes "gract: no memory"
