use Rattle.std.proofs.Common.{◌≡◌, Some}
use Rattle.track_index.specs.CheckFlaws.{check_flaw}
use Rattle.track_index.proofs.CheckLemmas.{check_flaw-sound}
use Rattle.track_index.proofs.index.Index.build.Goals as goal

pub unreachable-requires : goal.unreachable-requires
unreachable-requires g c =
    let valid = c.in_ok-parts.ensures.valid in
    let none = check_flaw-sound c.in_ok-parts.parts valid.shaped valid.sound in
    let some : check_flaw c.in_ok-parts.parts ≡ Some c.in-Err-Flaw.field-0-0 =
    rw c.in-Err-Flaw.field-0-is at c.in-Err-Flaw.ensures.flaw in
    cc
