use Rattle.std.proofs.lemmas.Result.{IfOk-weaker}
use Rattle.std.proofs.Common.{ap, subst, ◌∙◌, arith}
use Rattle.index_format.specs.Answers.{Gives}
use Rattle.index_format.specs.Stored.{stored_in}
use Rattle.index_format.specs.declared.decoded.Decoded.{Decoded}
use Rattle.index_format.proofs.StoredLaws.{stored_in-again, given_takes}
use Rattle.index_format.proofs.decoding.decode.Goals as goal

pub returns-clause-formed : goal.returns-clause-formed
returns-clause-formed c = IfOk-weaker c.decoded_of.result _ _ (λ decoded both. both.0)
    (given_takes (λ (decoded : Decoded). decoded.stored) c.args.bytes.now c.decoded_of.result (λ i. omega (arith, c.type_inv.bytes i)) c.decoded_of.ensures.exact)

pub returns-clause-spelled : goal.returns-clause-spelled
returns-clause-spelled c = IfOk-weaker c.decoded_of.result _ _ (λ decoded both. both.1)
    (given_takes (λ (decoded : Decoded). decoded.stored) c.args.bytes.now c.decoded_of.result (λ i. omega (arith, c.type_inv.bytes i)) c.decoded_of.ensures.exact)

pub returns-clause-one : goal.returns-clause-one
returns-clause-one c = λ stored is spelled.
    subst (Gives (λ (decoded : Decoded). decoded.stored) c.decoded_of.result) (ap stored_in spelled ∙ stored_in-again stored is)
    c.decoded_of.ensures.exact
