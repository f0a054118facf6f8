use Rattle.std.proofs.Common.{◌≡◌, to_z, of_z, w64, ap, ◌∙◌, rules}
use Rattle.std.specs.Prelude.{pos, ◌+ℤ◌}
use Rattle.live_tail.proofs.SmallLemmas.{same-row}
use Rattle.live_tail.proofs.small_row.Origin.row.Goals as goal

pub returns : goal.returns
returns c =
    let instant : to_z w64 (of_z w64 c.instant_of.result) ≡ c.instant_of.result = search rules in
    let x : to_z w64 (of_z w64 c.behind.result) ≡ c.behind.result = search rules in
    let y : to_z w64 (of_z w64 c.behind-2.result) ≡ c.behind-2.result = search rules in
    let left : to_z w64 (of_z w64 c.args.self.now.x) ≡ c.args.self.now.x = search rules in
    let below : to_z w64 (of_z w64 c.args.self.now.y) ≡ c.args.self.now.y = search rules in
    same-row c.args.small.now.object _ _ _ _ _ _ (instant ∙ c.instant_of.ensures)
    (x ∙ c.behind.ensures ∙ ap (λ z. z +ℤ pos c.args.small.now.x) left)
    (y ∙ c.behind-2.ensures ∙ ap (λ z. z +ℤ pos c.args.small.now.y) below)
