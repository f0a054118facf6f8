-- What is read of the paths of an index until a row is passed.
use Rattle.std.proofs.Common.{◌≡◌, ℕ, ℤ, suc, ◌+◌, ◌<◌, ◌≤◌, true, false, List, length, drop, Option, None, Some, refl, sym, ap, ◌∙◌, arith}
use Rattle.std.specs.Prelude.{◌==◌, nat_lt, slice_index}
use Rattle.std.specs.List.{sum_by}
use Rattle.std.proofs.lemmas.Bool.Decides.{nat_tests}
use Rattle.std.proofs.lemmas.List.Sums.{sum_by-cons}
use Rattle.std.proofs.Math.Seq.{drop-cons}
use Rattle.track_types.specs.declared.parts.Parts.{Parts}
use Rattle.track_types.specs.declared.row.Row.{Row}
use Rattle.track_types.specs.Limits.{limit_of}
use Rattle.track_types.specs.declared.limit.LimitKind.TheVariants.{Rows}
use Rattle.path_union.specs.Reads.{IsTaken, first_beyond, up_to}
use Rattle.index_merge.specs.Cost.{cost_share, drawing_cost, path_cost_past, paths_cost, paths_cost_past, shares_cost, whole_path_cost}
use Rattle.index_merge.specs.Paths.{cost_past_from}

-- where as much is read up to each place, as much is read up to any
pub up_to-alike : {X : Type 0} (reads others : X → ℕ) (all whole : ℕ) (end : Option X) → ((x : X) → reads x ≡ others x) → all ≡ whole
    → up_to reads all end ≡ up_to others whole end
up_to-alike reads others all whole None each same = same
up_to-alike reads others all whole (Some x) each same = each x

-- what costs nothing costs nothing however far it is drawn
pub up_to-free : {X : Type 0} (end : Option X) → up_to (λ (x : X). 0) 0 end ≡ 0
up_to-free None = refl
up_to-free (Some x) = refl

-- the paths of an index cost what is told of them where rows are drawn
pub drawn-cost : (parts : Parts) (past : Row → ℕ) (all : ℕ) (rows : List Row) → ((row : Row) → past row ≡ paths_cost_past parts row)
    → all ≡ paths_cost parts → up_to past all (first_beyond (limit_of Rows) rows) ≡ drawing_cost rows parts
unfolding drawing_cost
drawn-cost parts past all rows each same =
    up_to-alike past (paths_cost_past parts) all (paths_cost parts) (first_beyond (limit_of Rows) rows) each same

module _ (parts : Parts) (place : ℕ) (within : place < length parts.objects) where
  abbrev object_here : ℕ
  object_here = slice_index parts.objects place

  -- what is read of the paths from one on is its own share and that of the later ones
  cost_past_from-step : (row : Row) → cost_past_from parts place row
      ≡ cost_share (whole_path_cost parts) (path_cost_past parts) row object_here + cost_past_from parts (place + 1) row
  unfolding shares_cost
  cost_past_from-step row =
      let next : place + 1 ≡ suc place = omega arith in
      ap (sum_by (cost_share (whole_path_cost parts) (path_cost_past parts) row)) (drop-cons parts.objects place 0 within)
      ∙ sum_by-cons (cost_share (whole_path_cost parts) (path_cost_past parts) row) object_here (drop (suc place) parts.objects)
      ∙ ap (λ k. cost_share (whole_path_cost parts) (path_cost_past parts) row object_here
      + sum_by (cost_share (whole_path_cost parts) (path_cost_past parts) row) (drop k parts.objects)) (sym next)

  -- all of it where the row is of a later object
  share-whole : (row : Row) → object_here < row.object
      → cost_share (whole_path_cost parts) (path_cost_past parts) row object_here ≡ whole_path_cost parts object_here
  share-whole row before =
      let is : nat_lt object_here row.object ≡ true = grind (arith, nat_tests) in
      rw is refl

  -- what there is up to the row where it is of this one
  share-own : (row : Row) → row.object ≡ object_here
      → cost_share (whole_path_cost parts) (path_cost_past parts) row object_here ≡ path_cost_past parts object_here row.instant
  share-own row own =
      let not : nat_lt object_here row.object ≡ false = grind (arith, nat_tests) in
      let is : (object_here == row.object) ≡ true = grind (arith, nat_tests) in
      rw (not, is) refl

  -- a path that is drawn for its cost was taken from them
  pub taken : (object all : ℕ) (past : ℤ → ℕ) → object ≡ object_here → all ≤ whole_path_cost parts object
      → ((instant : ℤ) → past instant ≤ path_cost_past parts object instant)
      → IsTaken object all past (cost_past_from parts place) (cost_past_from parts (place + 1))
  taken object all past is most each = record {
    own = λ row own.
        let step = cost_past_from-step row ∙ ap (λ n. n + cost_past_from parts (place + 1) row) (share-own row (own ∙ is)) in
        let its = rw is at each row.instant in
        omega (arith, step, its);
    others = λ row before.
        let step = cost_past_from-step row ∙ ap (λ n. n + cost_past_from parts (place + 1) row) (share-whole row (rw is at before)) in
        let its = rw is at most in
        omega (arith, step, its);
  }
