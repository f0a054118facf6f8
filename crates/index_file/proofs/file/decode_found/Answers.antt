use Rattle.std.proofs.lemmas.Result.{IfOk-weaker}
use Rattle.std.proofs.Common.{ap, subst, ◌∙◌, arith}
use Rattle.track_types.specs.declared.parts.Parts.{Parts}
use Rattle.index_format.specs.Answers.{Gives}
use Rattle.index_file.specs.File.{parts_in}
use Rattle.index_file.specs.declared.file.FileParts.{FileParts}
use Rattle.index_file.proofs.FileLaws.{parts_in-again, given_takes}
use Rattle.index_file.proofs.file.decode_found.Goals as goal

abbrev parts_in_file : FileParts → Parts
parts_in_file read = read.parts

pub returns-clause-formed : goal.returns-clause-formed
returns-clause-formed c = IfOk-weaker c.read_file.result _ _ (λ read both. both.0)
    (given_takes parts_in_file c.args.bytes.now c.read_file.result (λ i. omega (arith, c.type_inv.bytes i)) c.read_file.ensures.parts)

pub returns-clause-spelled : goal.returns-clause-spelled
returns-clause-spelled c = IfOk-weaker c.read_file.result _ _ (λ read both. both.1)
    (given_takes parts_in_file c.args.bytes.now c.read_file.result (λ i. omega (arith, c.type_inv.bytes i)) c.read_file.ensures.parts)

pub returns-clause-one : goal.returns-clause-one
returns-clause-one c = λ parts formed spelled.
    subst (Gives parts_in_file c.read_file.result) (ap parts_in spelled ∙ parts_in-again parts formed) c.read_file.ensures.parts
