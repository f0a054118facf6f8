use Rattle.std.proofs.Common.{arith, ◌^◌, ◌≤◌}
use Rattle.std.proofs.Math.Nat.{pow-le-pow_right}
use Rattle.track_types.specs.declared.limit.TheConstants.{MAX_HEIGHT}
use Rattle.rule_store.proofs.entry_table.EntryTable.reach_limit.Goals as goal

pub returns-clause-within : goal.returns-clause-within
returns-clause-within c =
    let low : 2 ^ c.args.self.now.height ≤ 2 ^ MAX_HEIGHT = pow-le-pow_right (omega arith) c.args.self.now.height_fits in
    omega arith
