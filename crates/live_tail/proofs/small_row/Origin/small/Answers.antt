use Rattle.std.proofs.Common.{◌≡◌, to_z, of_z, w64, ap, sym, ◌∙◌, rules}
use Rattle.std.specs.Prelude.{pos, ◌+ℤ◌}
use Rattle.live_tail.proofs.SmallLemmas.{same-row}
use Rattle.live_tail.proofs.small_row.Origin.small.Goals as goal

pub returns : goal.returns
returns c =
    let a : to_z w64 (of_z w64 c.args.self.now.instant) ≡ c.args.self.now.instant = search rules in
    let b : to_z w64 (of_z w64 c.args.self.now.x) ≡ c.args.self.now.x = search rules in
    let d : to_z w64 (of_z w64 c.args.self.now.y) ≡ c.args.self.now.y = search rules in
    let e : to_z w64 (of_z w64 c.args.row.now.instant) ≡ c.args.row.now.instant = search rules in
    let f : to_z w64 (of_z w64 c.args.row.now.cell.x) ≡ c.args.row.now.cell.x = search rules in
    let g : to_z w64 (of_z w64 c.args.row.now.cell.y) ≡ c.args.row.now.cell.y = search rules in
    same-row c.args.row.now.object _ _ _ _ _ _
    (ap (λ z. z +ℤ pos c.distance.result) (sym a) ∙ c.distance.ensures ∙ e)
    (ap (λ z. z +ℤ pos c.distance-2.result) (sym b) ∙ c.distance-2.ensures ∙ f)
    (ap (λ z. z +ℤ pos c.distance-3.result) (sym d) ∙ c.distance-3.ensures ∙ g)
