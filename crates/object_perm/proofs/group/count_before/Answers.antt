use Rattle.std.proofs.Common.{ap}
use Rattle.std.specs.Int.RustNames.{count_ones}
use Rattle.std.proofs.lemmas.Nat.{and_mask, one_shl}
use Rattle.object_perm.proofs.group.count_before.Goals as goal

pub returns : goal.returns
returns c = rw (one_shl c.args.bit 32 c.requires) (ap count_ones (and_mask c.args.marks c.args.bit))
