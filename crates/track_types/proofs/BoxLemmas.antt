-- Boxes with the same bounds.
use Rattle.std.proofs.Common.{◌≡◌, ℤ, ◌≤ℤ◌, ap, ◌∙◌, subst}
use Rattle.std.proofs.Props.{props}
use Rattle.track_types.specs.declared.cell_box.CellBox.{CellBox}

-- a box by its bounds
abbrev box : (x1 y1 x2 y2 : ℤ) → x1 ≤ℤ x2 → y1 ≤ℤ y2 → CellBox
box x1 y1 x2 y2 wide high = record { x1 = x1; y1 = y1; x2 = x2; y2 = y2; wide = wide; high = high }

same_bounds : (x1 y1 x2 y2 : ℤ) (w v : x1 ≤ℤ x2) (h g : y1 ≤ℤ y2) → box x1 y1 x2 y2 w h ≡ box x1 y1 x2 y2 v g
same_bounds x1 y1 x2 y2 w v h g =
    let wide : IsProp (x1 ≤ℤ x2) = hlevel props in
    let high : IsProp (y1 ≤ℤ y2) = hlevel props in
    ap (λ p. box x1 y1 x2 y2 p h) (wide w v) ∙ ap (λ p. box x1 y1 x2 y2 v p) (high h g)

-- boxes with the same bounds are the same
pub same_box : (a b : CellBox) → a.x1 ≡ b.x1 → a.y1 ≡ b.y1 → a.x2 ≡ b.x2 → a.y2 ≡ b.y2 → a ≡ b
same_box a b x1 y1 x2 y2 = by_bounds b.x1 b.y1 b.x2 b.y2 x1 y1 x2 y2 b.wide b.high
  where
    by_bounds : (p q r s : ℤ) → a.x1 ≡ p → a.y1 ≡ q → a.x2 ≡ r → a.y2 ≡ s → (v : p ≤ℤ r) (g : q ≤ℤ s)
        → a ≡ box p q r s v g
    by_bounds p q r s e f k m =
        subst (λ p. (v : p ≤ℤ r) (g : q ≤ℤ s) → a ≡ box p q r s v g) e
        (subst (λ q. (v : a.x1 ≤ℤ r) (g : q ≤ℤ s) → a ≡ box a.x1 q r s v g) f
        (subst (λ r. (v : a.x1 ≤ℤ r) (g : a.y1 ≤ℤ s) → a ≡ box a.x1 a.y1 r s v g) k
        (subst (λ s. (v : a.x1 ≤ℤ a.x2) (g : a.y1 ≤ℤ s) → a ≡ box a.x1 a.y1 a.x2 s v g) m
        (λ v g. same_bounds a.x1 a.y1 a.x2 a.y2 a.wide v a.high g))))
