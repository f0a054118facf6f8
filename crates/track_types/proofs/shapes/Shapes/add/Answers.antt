use Rattle.std.proofs.Common.{◌≡◌, ◌+◌, ◌-◌, ◌<◌, ap, arith, refl, sym, ◌∙◌, drop, length}
use Rattle.std.proofs.lemmas.List.{drop-drop, drop-replicate, drop-set-lt, length-set, length-take}
use Rattle.track_types.specs.Shapes.{no_shape}
use Rattle.track_types.proofs.shapes.Shapes.add.Goals as goal

pub invariant_of-self : goal.invariant_of-self
invariant_of-self c =
    let places = c.self.inside.places in
    let count = c.self.inside.count in
    let shape = c.args.shape in
    let is = c.self.invariant in
    let room : count < 16 =
    omega (arith, length-take count places, ap length c.self.view_is, c.requires, is.whole, is.few) in
    let less : 16 - count - 1 ≡ 16 - (count + 1) = omega arith in
    let after : drop (count + 1) places ≡ drop 1 (drop count places) = sym (drop-drop 1 count places) in
    record {
      some = omega arith;
      few = omega (arith, room);
      whole = length-set places count shape ∙ is.whole;
      rest = rw (drop-set-lt (count + 1) places count shape (omega arith), after, is.rest, drop-replicate 1 (16 - count) no_shape, less) refl;
    }
