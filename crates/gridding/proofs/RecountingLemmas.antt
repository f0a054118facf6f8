-- From which origins all rows of blocks have places.
use Rattle.std.proofs.Common.{◌≡◌, ◌∙◌, ℕ, zero, suc, ◌<◌, List, [], ◌∷◌, ◌++◌, All, get_or, length, arith, ap, map, sym, take, ◌+◌, w64, to_z, of_z}
use Rattle.std.specs.Prelude.{ℤ, fold, pos, ◌+ℤ◌, ◌≤ℤ◌, ◌<ℤ◌}
use Rattle.std.specs.List.{AllByRecursion}
use Rattle.std.proofs.lemmas.Int.{fits_signed_from_abs, int_max_is, int_min_is, ints, to_z-of_z}
use Rattle.std.proofs.lemmas.List.{append-nil, map-append, take_more}
use Rattle.std.proofs.lemmas.List.Concat.{flat_map-append}
use Rattle.std.proofs.lemmas.List.Elements.{All-from_recursion}
use Rattle.std.proofs.lemmas.List.Sums.{fold-append}
use Rattle.track_types.specs.Near.{IsNear, IsWithin}
use Rattle.track_types.specs.Quantities.{instants_of}
use Rattle.track_types.specs.declared.row.Row.{Row}
use Rattle.gridding.specs.Blocks.{ObjectRun, RunRef, rows_of_run, rows_of_runs, run_in, runs_in, runs_of}
use Rattle.track_types.specs.Extents.{extent_over, no_extent, widened}
use Rattle.gridding.specs.GriddedRows.{IsApart}
use Rattle.gridding.specs.Origin.{IsOneOf}
use Rattle.gridding.specs.PackedPlace.{HasPlace, packed_cell, packed_row}
use Rattle.gridding.specs.Recounting.{IsCentred, IsExtentWithin, IsOfExtent}
use Rattle.track_types.specs.declared.extents.Extent.{Extent}
use Rattle.gridding.specs.declared.packed_place.Origin.{Origin}
use Rattle.gridding.specs.declared.packed_place.PackedPlace.{PackedPlace}
use Rattle.gridding.specs.declared.packed_place.TheConstants.{INSTANTS}
use Rattle.gridding.specs.declared.track_blocks.TrackBlocks.{TrackBlocks}

-- a number that is not far from 0 fits a word
pub within_word : (z : ℤ) → IsWithin z → to_z w64 (of_z w64 z) ≡ z
within_word z within = to_z-of_z w64 z (fits_signed_from_abs w64 z (omega (arith, ints, within.low, within.high)))

pub within_near : (z : ℤ) → IsNear z → IsWithin z
within_near z near = record { low = omega (arith, ints, near.low); high = omega (arith, ints, near.high) }

-- an extent that is widened by a number
pub IsExtentWithin-widened : (extent : Extent) (z : ℤ) → IsExtentWithin extent → IsWithin z → IsExtentWithin (widened extent z)
IsExtentWithin-widened extent z within near = grind (arith, ints)

pub IsOfExtent-widened : (extent : Extent) (z : ℤ) → IsOfExtent (widened extent z) z
IsOfExtent-widened extent z =
    (omega (arith, ints, int_min_is extent.least z), omega (arith, ints, int_max_is extent.greatest z))

wider : (extent : Extent) (y z : ℤ) → IsOfExtent extent y → IsOfExtent (widened extent z) y
wider extent y z (low, high) =
    (omega (arith, ints, int_min_is extent.least z, low), omega (arith, ints, int_max_is extent.greatest z, high))

-- instants are in an extent that was widened by them
stays : (extent : Extent) (rows : List Row) (y : ℤ) → IsOfExtent extent y → IsOfExtent (fold widened extent (instants_of rows)) y
stays extent [] y inside = inside
stays extent (row ∷ rows) y inside = stays (widened extent row.instant) rows y (wider extent y row.instant inside)

covers : (extent : Extent) (rows : List Row) →
    AllByRecursion (λ row. IsOfExtent (fold widened extent (instants_of rows)) row.instant) rows
covers extent [] = tt
covers extent (row ∷ rows) = (
  stays (widened extent row.instant) rows row.instant (IsOfExtent-widened extent row.instant),
  covers (widened extent row.instant) rows,
)

module _ (origin : Origin) where
  -- an extent of instants that are counted from an origin, if of any
  abbrev IsAmong : Extent → Type 0
  IsAmong extent = (origin.instant ≤ℤ extent.least) × (extent.greatest <ℤ (origin.instant +ℤ pos INSTANTS))

  among-widened : (extent : Extent) (z : ℤ) → IsAmong extent → IsOneOf origin.instant INSTANTS z → IsAmong (widened extent z)
  among-widened extent z (low, high) (after, before) = grind (arith, ints)

  among : (extent : Extent) (rows : List Row) → IsAmong extent → AllByRecursion (HasPlace origin) rows →
      IsAmong (fold widened extent (instants_of rows))
  among extent [] inside all = inside
  among extent (row ∷ rows) inside all =
      among (widened extent row.instant) rows (among-widened extent row.instant inside all.0.instant) all.1

  among_none : IsAmong no_extent
  among_none = (omega (arith, ints, origin.instant_near.1), omega (arith, ints, origin.instant_near.0))

module _ (row : Row) (tracks : TrackBlocks) (extent : Extent) (is : extent ≡ widened (extent_over (instants_of (rows_of_runs tracks.origin (runs_of tracks)))) row.instant) where
  -- where the instants of rows are too far apart, they have no places from any origin
  pub apart_by_instants : (extent.least +ℤ pos INSTANTS) ≤ℤ extent.greatest → IsApart row tracks
  apart_by_instants wide origin cell all own =
      let inside : IsAmong origin extent =
      rw is
      (among-widened origin (extent_over (instants_of (rows_of_runs tracks.origin (runs_of tracks)))) row.instant
      (among origin no_extent (rows_of_runs tracks.origin (runs_of tracks)) (among_none origin) all)
      own.instant) in
      omega (arith, ints, wide, inside.0, inside.1)

-- and a row whose cell is too far has none from an origin of the same cells
pub apart_by_cell : (row : Row) (tracks : TrackBlocks) (moved : Origin) → moved.cell ≡ tracks.origin.cell →
    IsOneOf moved.instant INSTANTS row.instant → (HasPlace moved row → ⊥) → IsApart row tracks
apart_by_cell row tracks moved same counted none origin cell all own =
    none (record { instant = counted; x = rw (same, ← cell) own.x; y = rw (same, ← cell) own.y })

-- the rows of a run have places from an origin of the same cells, where its instants have
module _ (origin moved : Origin) (same : moved.cell ≡ origin.cell) where
  reached : (object : ℕ) (place : PackedPlace) → IsOneOf moved.instant INSTANTS (packed_row origin object place).instant →
      HasPlace moved (packed_row origin object place)
  unfolding packed_cell
  reached object place counted = record {
    instant = counted;
    x = rw same (omega (arith, ints), omega (arith, ints));
    y = rw same (omega (arith, ints), omega (arith, ints));
  }

  reached_run : (extent : Extent) → moved.instant ≤ℤ extent.least → extent.greatest <ℤ (moved.instant +ℤ pos INSTANTS) →
      (object : ℕ) (places : List PackedPlace) →
      AllByRecursion (λ row. IsOfExtent extent row.instant) (rows_of_run origin (object, places)) →
      AllByRecursion (HasPlace moved) (rows_of_run origin (object, places))
  reached_run extent low high object [] all = tt
  reached_run extent low high object (place ∷ places) all = (
    reached object place (omega (arith, ints, low, all.0.0), omega (arith, ints, high, all.0.1)),
    reached_run extent low high object places all.1,
  )

-- what holds of all rows of runs holds of those of each run
front_part : {T : Type 0} (P : T → Type 0) (xs ys : List T) → AllByRecursion P (xs ++ ys) → AllByRecursion P xs
front_part P [] ys all = tt
front_part P (x ∷ xs) ys all = (all.0, front_part P xs ys all.1)

back_part : {T : Type 0} (P : T → Type 0) (xs ys : List T) → AllByRecursion P (xs ++ ys) → AllByRecursion P ys
back_part P [] ys all = all
back_part P (x ∷ xs) ys all = back_part P xs ys all.1

part : (P : Row → Type 0) (origin : Origin) (entries : List RunRef) (i : ℕ) (d : RunRef) → i < length entries →
    AllByRecursion P (rows_of_runs origin (runs_in entries)) →
    AllByRecursion P (rows_of_run origin (run_in (get_or entries i d)))
part P origin [] i d below all = absurd (omega (arith, below))
part P origin (entry ∷ entries) zero d below all =
    front_part P (rows_of_run origin (run_in entry)) (rows_of_runs origin (runs_in entries)) all
part P origin (entry ∷ entries) (suc i) d below all =
    part P origin entries i d (omega (arith, below))
    (back_part P (rows_of_run origin (run_in entry)) (rows_of_runs origin (runs_in entries)) all)

-- from the origin that is centred all rows have places
pub reached_from : (origin moved : Origin) (row : Row) (entries : List RunRef) (extent : Extent) (before : ℕ) →
    moved.cell ≡ origin.cell → (moved.instant +ℤ pos before) ≡ row.instant →
    extent ≡ widened (extent_over (instants_of (rows_of_runs origin (runs_in entries)))) row.instant →
    IsCentred extent row.instant before → (i : ℕ) (d : RunRef) → i < length entries →
    All (HasPlace moved) (rows_of_run origin (run_in (get_or entries i d)))
reached_from origin moved row entries extent before same exact is centred i d below =
    let rows : List Row = rows_of_runs origin (runs_in entries) in
    let run : ObjectRun = run_in (get_or entries i d) in
    let all : AllByRecursion (λ other. IsOfExtent (extent_over (instants_of rows)) other.instant) (rows_of_run origin run) =
    part (λ other. IsOfExtent (extent_over (instants_of rows)) other.instant) origin entries i d below (covers no_extent rows) in
    All-from_recursion (HasPlace moved) (rows_of_run origin run)
    (reached_run origin moved same (extent_over (instants_of rows))
    (omega (arith, ints, exact, ap (λ e. e.least) is, int_min_is (extent_over (instants_of rows)).least row.instant, centred.first))
    (omega (arith, ints, exact, ap (λ e. e.greatest) is, int_max_is (extent_over (instants_of rows)).greatest row.instant, centred.first, centred.all))
    run.0 run.1 all)

-- the extent of a run's places and one more
pub extent-place : (origin : Origin) (extent : Extent) (object : ℕ) (places : List PackedPlace) (i : ℕ) (d : PackedPlace) →
    i < length places →
    widened (fold widened extent (instants_of (rows_of_run origin (object, take i places)))) (packed_row origin object (get_or places i d)).instant
    ≡ fold widened extent (instants_of (rows_of_run origin (object, take (i + 1) places)))
extent-place origin extent object places i d below =
    let f : PackedPlace → Row = packed_row origin object in
    let one : Row = f (get_or places i d) in
    sym
    (ap (λ some. fold widened extent (instants_of (map f some))) (take_more places i d below)
    ∙ ap (λ rows. fold widened extent (instants_of rows)) (map-append f (take i places) (get_or places i d ∷ []))
    ∙ ap (fold widened extent) (map-append (λ row. row.instant) (map f (take i places)) (one ∷ []))
    ∙ fold-append widened extent (instants_of (map f (take i places))) (one.instant ∷ []))

-- the extent of runs and one more
pub extent-run : (origin : Origin) (entries : List RunRef) (i : ℕ) (d : RunRef) → i < length entries →
    fold widened (extent_over (instants_of (rows_of_runs origin (runs_in (take i entries))))) (instants_of (rows_of_run origin (run_in (get_or entries i d))))
    ≡ extent_over (instants_of (rows_of_runs origin (runs_in (take (i + 1) entries))))
extent-run origin entries i d below =
    let one : ObjectRun = run_in (get_or entries i d) in
    let before : List ObjectRun = runs_in (take i entries) in
    sym
    (ap (λ some. extent_over (instants_of (rows_of_runs origin (runs_in some)))) (take_more entries i d below)
    ∙ ap (λ runs. extent_over (instants_of (rows_of_runs origin runs))) (map-append run_in (take i entries) (get_or entries i d ∷ []))
    ∙ ap (λ rows. extent_over (instants_of rows)) (flat_map-append (rows_of_run origin) before (one ∷ []))
    ∙ ap (λ last. extent_over (instants_of (rows_of_runs origin before ++ last))) (append-nil (rows_of_run origin one))
    ∙ ap extent_over (map-append (λ row. row.instant) (rows_of_runs origin before) (rows_of_run origin one))
    ∙ fold-append widened no_extent (instants_of (rows_of_runs origin before)) (instants_of (rows_of_run origin one)))
