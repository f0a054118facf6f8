-- An index has at most as many rows of an instant as it lists objects.
use Rattle.std.proofs.Common.{◌≡◌, ◌≤◌, ℕ, ℤ, List, [], ◌∷◌, Option, None, Some, filter, length, map, refl, ap, arith}
use Rattle.std.specs.List.{flat_map, range_with_len}
use Rattle.std.proofs.lemmas.List.{length-append, length-map}
use Rattle.std.proofs.lemmas.List.FromFn.{length-range_with_len}
use Rattle.track_types.specs.ByFilter.{is_row_at}
use Rattle.track_types.specs.declared.parts.Parts.{Parts}
use Rattle.track_types.specs.declared.row.Row.{Row}
use Rattle.snapshots.specs.Parts.{chart_in, period_in}
use Rattle.snapshots.specs.SoundParts.{IsValid}
use Rattle.object_track.proofs.InstantLemmas.{rows_at-instant, rows_at-outside, stops_at-few}
use Rattle.object_track.proofs.MetLemmas.{period_in-some}

few-map : {X Y : Type 0} (f : X → Y) (xs : List X) → length xs ≤ 1 → length (map f xs) ≤ 1
few-map f xs few = omega (arith, few, length-map xs f)

few-pieces : {X Y : Type 0} (f : X → List Y) (xs : List X) → ((x : X) → length (f x) ≤ 1) → length (flat_map f xs) ≤ length xs
few-pieces f [] few = omega arith
few-pieces f (x ∷ xs) few = omega (arith, length-append (f x) (flat_map f xs), few x, few-pieces f xs few)

few-made : {X Y : Type 0} (f : X → List Y) (xs : List X) (ys : List Y) → ys ≡ flat_map f xs → ((x : X) → length (f x) ≤ 1) →
    length ys ≤ length xs
few-made f xs ys is few = omega (arith, ap length is, few-pieces f xs few)

module _ (parts : Parts) (valid : IsValid parts) (instant : ℤ) where
  abbrev at : List Row
  at = filter (is_row_at instant) (chart_in parts).rows

  few-of : (found : Option ℕ) → period_in parts.frame instant ≡ found → length at ≤ length parts.objects
  few-of None is = omega (arith, ap length (rows_at-outside parts valid instant is))
  few-of (Some number) is =
      let within = (period_in-some parts.frame valid.shaped.header instant number is).0 in
      let few : length at ≤ length (range_with_len 0 (length parts.objects)) =
      few-made _ (range_with_len 0 (length parts.objects)) at (rows_at-instant parts valid instant number is)
      (λ index. few-map _ _ (stops_at-few parts valid instant index number within)) in
      omega (arith, few, length-range_with_len 0 (length parts.objects))

  pub rows_at-few : length at ≤ length parts.objects
  rows_at-few = few-of (period_in parts.frame instant) refl
