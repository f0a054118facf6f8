use Rattle.std.proofs.Common.{subst}
use Rattle.log_cursor.specs.Start.{IsHullAsked}
use Rattle.log_cursor.proofs.searching.touches.Goals as goal

pub placed-requires : goal.placed-requires
placed-requires g c = subst (IsHullAsked c.args.cell) c.in-Some.is c.requires
