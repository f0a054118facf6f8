use Rattle.std.proofs.Common.{◌∙◌, get_or, []}
use Rattle.csv.specs.Records.{fields_of}
use Rattle.row_reader.proofs.FieldLemmas.{IsSome-option_map, field_at-below}
use Rattle.row_reader.proofs.field.field_in.Goals as goal

pub unwrap-requires : goal.unwrap-requires
unwrap-requires c =
    let found = c.get.ensures.value ∙ field_at-below (fields_of c.args.fields.now) c.args.place c.requires in
    IsSome-option_map (λ s. s.now) c.get.result (get_or (fields_of c.args.fields.now) c.args.place []) found

pub returns : goal.returns
returns c =
    let found = c.get.ensures.value ∙ field_at-below (fields_of c.args.fields.now) c.args.place c.requires in
    let same = rw c.unwrap.ensures at found in
    cc
