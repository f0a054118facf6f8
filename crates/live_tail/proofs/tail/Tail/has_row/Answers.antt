use Rattle.std.proofs.Common.{◌≡◌, Option, None, Some, to_z, of_z, w64, refl, sym, ap, ◌∙◌, arith}
use Rattle.std.specs.Prelude.{is_some}
use Rattle.std.specs.Option.{option_map}
use Rattle.std.proofs.lemmas.Int.{ints}
use Rattle.track_types.specs.ByFilter.{cell_at}
use Rattle.track_types.specs.Row.{is_row_of}
use Rattle.live_tail.specs.Join.{rows_of_tail}
use Rattle.live_tail.proofs.ObjectLemmas.{any_find}
use Rattle.live_tail.proofs.tail.Tail.has_row.Goals as goal

made : {X Y : Type 0} (f : X → Y) (found : Option X) → is_some (option_map f found) ≡ is_some found
made f None = refl
made f (Some x) = refl

pub returns : goal.returns
returns c =
    let same : to_z w64 (of_z w64 c.args.instant) ≡ c.args.instant = omega (arith, ints) in
    c.is_some.ensures
    ∙ ap is_some (c.cell_at.ensures ∙ ap (cell_at (rows_of_tail c.args.self.now) c.args.object) same)
    ∙ made _ _
    ∙ sym (any_find (is_row_of c.args.object c.args.instant) (rows_of_tail c.args.self.now))
