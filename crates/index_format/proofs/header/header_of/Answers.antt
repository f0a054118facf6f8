use Rattle.std.proofs.Common.{arith}
use Rattle.index_format.proofs.HeaderLaws.{given_header}
use Rattle.index_format.proofs.header.header_of.Goals as goal

pub returns-clause-ranges : goal.returns-clause-ranges
returns-clause-ranges c = given_header c.args.bytes.now c.whole_header.result (λ i. omega (arith, c.type_inv.bytes i)) c.whole_header.ensures
