use Rattle.std.proofs.Common.{subst}
use Rattle.std.specs.Prelude.{IfSome, Option}
use Rattle.index_file.specs.File.{IsFoundOf}
use Rattle.index_file.specs.declared.file.Found.{Found}
use Rattle.track_index.proofs.CheckLemmas.{check_flaw_valid}
use Rattle.track_index.proofs.index.Index.of_file.Goals as goal

pub returns-in_ok-of_found-in-Some-clause-exact : goal.returns-in_ok-of_found-in-Some-clause-exact
returns-in_ok-of_found-in-Some-clause-exact g c =
    let known = subst (λ (f : Option Found). IfSome f (IsFoundOf c.args.read.parts)) c.in-Some.is c.requires.found in
    check_flaw_valid c.args.read.parts known.valid
