use Rattle.std.proofs.Common.{◌≡◌, ◌≤ℤ◌, ◌<ℤ◌, to_z, of_z, w64, [], ◌∷◌, refl, ap, ◌∙◌, arith}
use Rattle.std.proofs.lemmas.Int.{ints}
use Rattle.track_types.proofs.RegionLemmas.{is_between-from}
use Rattle.rule_store.specs.Log.{stop_at}
use Rattle.log_cursor.proofs.StopLemmas.{is_between-after, is_between-before}
use Rattle.log_cursor.proofs.WalkLemmas.{window-none, window-one}
use Rattle.log_cursor.proofs.walk.stop_within.Goals as goal
use Rattle.log_cursor.proofs.walk.stop_within.Goals.{then-start-from-via-then-start-from, then-start-from-via-else-start-from+then-to-start}

pub returns-then-start-from : goal.returns-then-start-from
returns-then-start-from c =
    let at = c.args.start.instant in
    record {
      value = elim c.then-start-from.branch [
        | then-start-from-via-then-start-from w ↦
            let before : at <ℤ c.args.from = omega (arith, ints, w.if-start-from.true) in
            window-none c.args.from c.args.to at c.args.start.cell (is_between-before c.args.from c.args.to at before)
        | then-start-from-via-else-start-from+then-to-start w ↦
            let after : c.args.to <ℤ at = omega (arith, ints, w.if-to-start.true) in
            window-none c.args.from c.args.to at c.args.start.cell (is_between-after c.args.from c.args.to at after)
      ];
      cell = tt;
    }

pub returns : goal.returns
returns c =
    let at = c.args.start.instant in
    let kept : to_z w64 (of_z w64 at) ≡ at = omega (arith, ints) in
    let above : c.args.from ≤ℤ at = omega (arith, ints, c.if-start-from.false) in
    let below : at ≤ℤ c.args.to = omega (arith, ints, c.if-to-start.false) in
    record {
      value = ap (λ z. stop_at z c.args.start.cell ∷ []) kept
          ∙ window-one c.args.from c.args.to at c.args.start.cell (is_between-from c.args.from c.args.to at above below);
      cell = refl;
    }
