-- The definitions, run on small lists.
use Rattle.std.proofs.Common.{◌≡◌, ℕ, [], ◌∷◌, refl}
use Rattle.std.specs.Ordering.{nat_cmp}
use Rattle.std.specs.declared.cmp.Ordering.{Ordering}
use Rattle.list_laws.specs.Ordered.{ordered, insert_in_order}

-- pairs by their first part
by_first : ℕ × ℕ → ℕ × ℕ → Ordering
by_first a b = nat_cmp a.0 b.0

-- those that tie stay as they stood
three_in_order : ordered by_first ((2, 0) ∷ (1, 1) ∷ (2, 2) ∷ (1, 3) ∷ []) ≡ (1, 1) ∷ (1, 3) ∷ (2, 0) ∷ (2, 2) ∷ []
unfolding by_first ordered insert_in_order
three_in_order = refl
