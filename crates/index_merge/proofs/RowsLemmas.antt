-- The rows of an index's objects from a place on.
use Rattle.std.proofs.Common.{◌≡◌, ℕ, suc, ◌+◌, ◌-◌, ◌<◌, ◌≤◌, List, [], ◌++◌, All, length, drop, map, Result, Ok, Err, refl, ap, sym, ◌∙◌, arith, inl, inr}
use Rattle.std.specs.Prelude.{slice_index, Some}
use Rattle.std.specs.List.{flat_map, range_with_len, sum_by}
use Rattle.std.specs.Prelude.{IfOk}
use Rattle.std.proofs.lemmas.Bool.{cases_lt}
use Rattle.std.proofs.lemmas.List.Elements.{All-map, All-weaker}
use Rattle.std.proofs.lemmas.List.Sums.{sum_by-cons}
use Rattle.std.proofs.lemmas.Option.{get_or_from_slice_get, slice_get_within}
use Rattle.std.proofs.Math.Seq.{drop-cons}
use Rattle.list_laws.proofs.IncreasingLemmas.{increasing-below}
use Rattle.list_laws.proofs.RangeLemmas.{All-flat_map_range}
use Rattle.track_types.specs.declared.parts.Parts.{Parts}
use Rattle.track_types.specs.declared.stop.Stop.{Stop}
use Rattle.snapshots.specs.Parts.{chart_in, numbers_in, row_of, rows_in, stops_in}
use Rattle.snapshots.specs.SoundParts.{IsValid}
use Rattle.path_union.specs.Paths.{IsFirstPath}
use Rattle.index_merge.specs.Cost.{paths_cost, whole_path_cost}
use Rattle.index_merge.specs.Paths.{cost_from, object_at, rows_from}

module _ (parts : Parts) where
  -- the rows from the first object on are all
  pub rows_from-first : rows_from parts 0 ≡ (chart_in parts).rows
  unfolding rows_from chart_in
  rows_from-first =
      let all : length parts.objects - 0 ≡ length parts.objects = omega arith in
      ap (λ n. flat_map (rows_in parts) (range_with_len 0 n)) all

  -- those from one on are its own and those of the later ones
  rows_from-step : (place : ℕ) → place < length parts.objects
      → rows_from parts place ≡ rows_in parts place ++ rows_from parts (place + 1)
  unfolding rows_from
  rows_from-step place within =
      let many : length parts.objects - place ≡ suc (length parts.objects - (place + 1)) = omega (arith, within) in
      ap (λ n. flat_map (rows_in parts) (range_with_len place n)) many

  -- after the last there are none
  pub rows_from-none : (place : ℕ) → length parts.objects ≤ place → rows_from parts place ≡ []
  unfolding rows_from
  rows_from-none place behind =
      let none : length parts.objects - place ≡ 0 = omega (arith, behind) in
      ap (λ n. flat_map (rows_in parts) (range_with_len place n)) none

  -- so with what their paths cost
  pub cost_from-first : cost_from parts 0 ≡ paths_cost parts
  unfolding cost_from paths_cost
  cost_from-first = refl

  pub cost_from-step : (place : ℕ) → place < length parts.objects
      → cost_from parts place ≡ whole_path_cost parts (slice_index parts.objects place) + cost_from parts (place + 1)
  unfolding cost_from
  cost_from-step place within =
      let next : place + 1 ≡ suc place = omega arith in
      ap (sum_by (whole_path_cost parts)) (drop-cons parts.objects place 0 within)
      ∙ sum_by-cons (whole_path_cost parts) (slice_index parts.objects place) (drop (suc place) parts.objects)
      ∙ ap (λ k. whole_path_cost parts (slice_index parts.objects place) + sum_by (whole_path_cost parts) (drop k parts.objects)) (sym next)

  -- the rows of an object are its own
  rows_in-own : (place : ℕ) → All (λ row. row.object ≡ slice_index parts.objects place) (rows_in parts place)
  unfolding rows_in
  rows_in-own place =
      let object : ℕ = slice_index parts.objects place in
      All-map (λ row. row.object ≡ object) (row_of object) (flat_map (stops_in parts place) (numbers_in parts.frame))
      (λ k d within. refl)

  -- all rows from a place on are of objects for which something holds that holds of those from that place on
  rows_from-all : (P : ℕ → Type 0) (place : ℕ)
      → ((j : ℕ) → place ≤ j → j < length parts.objects → P (slice_index parts.objects j))
      → All (λ row. P row.object) (rows_from parts place)
  unfolding rows_from
  rows_from-all P place each =
      All-flat_map_range (λ row. P row.object) (rows_in parts) place (length parts.objects - place)
      (λ j low high.
      All-weaker (λ row. row.object ≡ slice_index parts.objects j) (λ row. P row.object)
      (λ row own. rw own (each j low (omega (arith, high, low)))) (rows_in parts j) (rows_in-own j))

  module _ (valid : IsValid parts) (place : ℕ) where
    -- those from one on are of no lesser object
    rows_from-above : All (λ row. slice_index parts.objects place ≤ row.object) (rows_from parts place)
    rows_from-above =
        rows_from-all (λ object. slice_index parts.objects place ≤ object) place (λ j low within. elim (cases_lt place j) [
          | inl less ↦ omega (arith, increasing-below parts.objects valid.shaped.objects place j less within)
          | inr same ↦ let equal : j ≡ place = omega (arith, low, same) in rw equal (omega arith)
        ])

    -- those of the later ones are of greater objects
    rows_from-behind : All (λ row. slice_index parts.objects place < row.object) (rows_from parts (place + 1))
    rows_from-behind =
        rows_from-all (λ object. slice_index parts.objects place < object) (place + 1)
        (λ j low within. increasing-below parts.objects valid.shaped.objects place j (omega (arith, low)) within)

    module _ (object : ℕ) (is : object_at parts place ≡ Some object) where
      pub object-within : place < length parts.objects
      object-within = slice_get_within parts.objects place object is

      pub object-is : object ≡ slice_index parts.objects place
      object-is = sym (get_or_from_slice_get parts.objects place object 0 is)

      -- no row is of a lesser object than the next
      pub object-least : All (λ row. object ≤ row.object) (rows_from parts place)
      object-least = rw object-is rows_from-above

      -- its rows come first
      pub first-path : (stops : List Stop) → rows_in parts place ≡ map (row_of object) stops
          → IsFirstPath object stops (rows_from parts place) (rows_from parts (place + 1))
      first-path stops are = record {
        all = rows_from-step place object-within ∙ ap (λ rows. rows ++ rows_from parts (place + 1)) are;
        greater = rw object-is rows_from-behind;
      }

      -- for the reads of its path
      pub first-cost : (reads : ℕ) → reads ≤ whole_path_cost parts object
          → reads + cost_from parts (place + 1) ≤ cost_from parts place
      first-cost reads within =
          let own = rw object-is at within in
          omega (arith, own, cost_from-step place object-within)

-- what holds of what is answered, where three facts do
pub ok-into_all : {T E : Type 0} (answer : Result T E) (P Q R S : T → Type 0) → ((found : T) → P found → Q found → R found → S found)
    → IfOk answer P → IfOk answer Q → IfOk answer R → IfOk answer S
ok-into_all (Ok found) P Q R S into one two three = into found one two three
ok-into_all (Err fault) P Q R S into one two three = tt
