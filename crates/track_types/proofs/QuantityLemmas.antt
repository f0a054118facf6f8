-- The least and the greatest of numbers, as a loop finds them.
use Rattle.std.proofs.Common.{◌≡◌, ◌+◌, ◌<◌, List, [], ◌∷◌, length, get_or, map, refl, sym, inl, inr, arith}
use Rattle.std.specs.Prelude.{fold, ℤ, pos, ◌≤ℤ◌, ◌-ℤ◌, unsigned_abs, All}
use Rattle.std.specs.Int.{int_max, int_min}
use Rattle.std.proofs.lemmas.List.Folds.{fold-map}
use Rattle.std.proofs.lemmas.Int.{fold-int_max_bounds, fold-int_max_reached, fold-int_min_bounds, fold-int_min_reached, ints}
use Rattle.std.proofs.lemmas.List.Elements.{All-cons, All-contains, All-head, All-nil, All-tail}
use Rattle.list_laws.proofs.MapLemmas.{All-from_map}
use Rattle.track_types.specs.Quantities.{elapsed, first_of, greatest, instants_of, last_of, least, span_of}
use Rattle.track_types.specs.declared.row.Row.{Row}

-- what holds of all numbers holds of the least and of the greatest
pub least_keeps : (P : ℤ → Type 0) (zs : List ℤ) → 0 < length zs → All P zs → P (least zs)
least_keeps P [] some all = absurd (omega arith)
least_keeps P (z ∷ zs) some all = elim (fold-int_min_reached z zs (fold int_min z zs) refl) [
  | inl first ↦ rw first (All-head P z zs all)
  | inr among ↦ All-contains P zs (fold int_min z zs) (All-tail P z zs all) among
]

pub greatest_keeps : (P : ℤ → Type 0) (zs : List ℤ) → 0 < length zs → All P zs → P (greatest zs)
greatest_keeps P [] some all = absurd (omega arith)
greatest_keeps P (z ∷ zs) some all = elim (fold-int_max_reached z zs (fold int_max z zs) refl) [
  | inl first ↦ rw first (All-head P z zs all)
  | inr among ↦ All-contains P zs (fold int_max z zs) (All-tail P z zs all) among
]

-- none is below the least, and none above the greatest
least-below : (zs : List ℤ) → All (λ z. least zs ≤ℤ z) zs
least-below [] = All-nil (λ z. pos 0 ≤ℤ z)
least-below (z ∷ zs) =
    let bounds = fold-int_min_bounds z zs (fold int_min z zs) refl in
    All-cons (λ y. fold int_min z zs ≤ℤ y) z zs bounds.0 bounds.1

greatest-above : (zs : List ℤ) → All (λ z. z ≤ℤ greatest zs) zs
greatest-above [] = All-nil (λ z. z ≤ℤ pos 0)
greatest-above (z ∷ zs) =
    let bounds = fold-int_max_bounds z zs (fold int_max z zs) refl in
    All-cons (λ y. y ≤ℤ fold int_max z zs) z zs bounds.0 bounds.1

-- no row is before the first instant
pub first_of-below : (rows : List Row) → All (λ row. first_of rows ≤ℤ row.instant) rows
first_of-below rows = All-from_map (λ z. first_of rows ≤ℤ z) (λ row. row.instant) rows (least-below (instants_of rows))

-- no row is after the last instant
pub last_of-above : (rows : List Row) → All (λ row. row.instant ≤ℤ last_of rows) rows
last_of-above rows = All-from_map (λ z. z ≤ℤ last_of rows) (λ row. row.instant) rows (greatest-above (instants_of rows))

within_width : (low z high : ℤ) → low ≤ℤ z → z ≤ℤ high → unsigned_abs (z -ℤ low) < unsigned_abs (high -ℤ low) + 1
within_width low z high above below = grind (arith, ints)

-- each row lies in the span
pub elapsed-span : (rows : List Row) → All (λ row. elapsed (first_of rows) row < span_of rows) rows
elapsed-span rows k d below =
    within_width (first_of rows) (get_or rows k d).instant (last_of rows) (first_of-below rows k d below) (last_of-above rows k d below)
