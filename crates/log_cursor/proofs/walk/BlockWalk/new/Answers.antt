use Rattle.std.proofs.Common.{pos, ap, ◌∙◌, arith}
use Rattle.std.proofs.lemmas.Int.{ints}
use Rattle.rule_store.specs.Cells.{cell_with}
use Rattle.log_cursor.specs.Start.{start_at}
use Rattle.log_cursor.specs.declared.start.Start.{Start}
use Rattle.log_cursor.specs.Walk.{at_rest}
use Rattle.log_cursor.proofs.WalkLemmas.{walk_of-none}
use Rattle.log_cursor.proofs.WayLemmas.{IsWayOf-none}
use Rattle.log_cursor.proofs.walk.BlockWalk.new.Goals as goal

-- where a walk is before it begins
abbrev nowhere : Start
nowhere = start_at (pos 0) (cell_with (pos 0) (pos 0))

pub invariant_of-result : goal.invariant_of-result
invariant_of-result c =
    let pending = c.in_ok-pending.pending in
    record {
      way = rw c.in_ok-pending.ensures.symbols (IsWayOf-none pending.rules nowhere (record {
        instant = record { low = omega (arith, ints); high = omega (arith, ints) };
        cell = record {
          x = record { low = omega (arith, ints); high = omega (arith, ints) };
          y = record { low = omega (arith, ints); high = omega (arith, ints) };
        };
      }));
      near = tt;
      window = omega (arith, ints);
    }

pub returns : goal.returns
returns c =
    let facts = c.in_ok-pending.ensures in
    let pending = c.in_ok-pending.pending in
    record {
      ok = walk_of-none pending nowhere (pos 0) (pos 0) facts.symbols facts.unread ∙ ap (λ r. at_rest r pending.places) facts.rules
          ∙ ap (at_rest c.args.rules.now) facts.places;
    }
