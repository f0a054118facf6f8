use Rattle.std.proofs.Common.{◌≡◌, ◌<◌, ◌≤◌, true, false, arith, length, get_or, sym, ◌∙◌, leb}
use Rattle.std.proofs.lemmas.Bool.{le-leb, or_left, or_right}
use Rattle.std.proofs.lemmas.List.{get_or_default}
use Rattle.object_perm.specs.Permutation.{stood_before}
use Rattle.object_perm.proofs.FlawLemmas.{first_flawed_place-at, first_flawed_place-none}
use Rattle.object_perm.proofs.flaws.find_flaw.Goals as goal
use Rattle.object_perm.proofs.flaws.find_flaw.Goals.{then-value-len-via-then-value-len, then-value-len-via-else-value-len+then-index}

pub returns-then-value-len : goal.returns-then-value-len
returns-then-value-len c =
    let values = c.args.values.now in
    let place = c.loop-place.place in
    sym (first_flawed_place-at values place c.loop-place-test.true c.loop-place.invariant.sound
    (elim c.then-value-len.branch [
      | then-value-len-via-then-value-len w ↦
          let great : length values ≤ get_or values place 0 =
          omega (arith, c.loop-place.invariant.same_length, w.if-value-len.true, c.len.ensures) in
          or_left (leb (length values) (get_or values place 0)) (stood_before values place) (le-leb _ _ great)
      | then-value-len-via-else-value-len+then-index w ↦
          let met = c.loop-place.met.items in
          let value = get_or values place 0 in
          let below : value < length met = omega (arith, w.if-value-len.false, c.len.ensures) in
          let marked : get_or met value false ≡ true =
          get_or_default met value false w.index.result.now below ∙ sym w.index.ensures ∙ w.if-index.true in
          or_right (leb (length values) value) (stood_before values place)
          (sym (c.loop-place.invariant.met value) ∙ marked)
    ]))

pub returns : goal.returns
returns c = sym (first_flawed_place-none c.args.values.now (λ place within. c.loop-place.invariant.sound place (omega arith)))
